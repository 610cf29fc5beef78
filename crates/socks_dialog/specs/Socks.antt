-- The outcome of a SOCKS dialog by all bytes of its client: SOCKS 4 and 4a, and SOCKS 5 without
-- authentication (RFC 1928). It is read from its first byte on, up to its end or its first fault.
use Rattle.std.specs.Prelude.{ℕ, ◌+◌, ◌*◌, Bool, not, ◌&&◌, List, [], ◌∷◌, length, take, drop, true, false, Option, Some, None, nat_le, ◌==◌, position}
use Rattle.ssh_fields.specs.Fields.{take_u8, split_at}
use Rattle.std.specs.List.{list_any}
use Rattle.socks_dialog.specs.Hosts.{dotted, grouped}
use Rattle.socks_dialog.specs.Replies.{refused4, no_authentication, no_method, reply5, general_failure, unknown_command, unknown_address}
use Rattle.socks_dialog.specs.declared.outcome.Outcome.{Outcome}
use Rattle.socks_dialog.specs.declared.outcome.Outcome.TheVariants.{Wants, Connects, Breaks}

-- the replies before the outcome, the outcome, and the bytes after the dialog
pub record Dialog : Type 0 where
  pub replies : List (List ℕ)
  pub outcome : Outcome
  pub rest : List ℕ

-- ---- its outcome

-- more bytes are wanted
abbrev pub wants_more_bytes : Dialog
wants_more_bytes = record { replies = []; outcome = Wants; rest = [] }

-- this end is asked for
abbrev pub dialog_connects : List ℕ → ℕ → List ℕ → Dialog
dialog_connects host port rest = record { replies = []; outcome = Connects host port; rest = rest }

-- a fault, which is answered so
abbrev pub breaks : List ℕ → List ℕ → Dialog
breaks reply rest = record { replies = []; outcome = Breaks reply; rest = rest }

-- a reply first
abbrev pub replying : List ℕ → Dialog → Dialog
replying reply d = record { replies = reply ∷ d.replies; outcome = d.outcome; rest = d.rest }

-- one or the other
abbrev pub either_dialog : Bool → Dialog → Dialog → Dialog
either_dialog true a b = a
either_dialog false a b = b

-- ---- fields

-- a field and the bytes after it, or less than a field
abbrev pub on : {X : Type 0} → Option (X × List ℕ) → (X → List ℕ → Dialog) → Dialog
on None next = wants_more_bytes
on (Some p) next = next p.0 p.1

-- a port
abbrev pub take_port : List ℕ → Option (ℕ × List ℕ)
take_port (high ∷ low ∷ rest) = Some (high * 256 + low, rest)
take_port _ = None

-- the first place of a zero byte
abbrev pub zero_in : List ℕ → Option ℕ
zero_in bytes = position (λ byte. byte == 0) bytes

-- the text before such a place
abbrev pub text_to : Option ℕ → List ℕ → Option (Option (List ℕ) × List ℕ)
text_to (Some n) bytes = Some (Some (take n bytes), drop (n + 1) bytes)
text_to None bytes =
    elim (nat_le 256 (length bytes)) [ true ↦ Some (None, drop 256 bytes) | false ↦ None ]

-- a text of at most 255 bytes, ended by a zero byte; or 256 bytes that are none
abbrev pub take_text : List ℕ → Option (Option (List ℕ) × List ℕ)
take_text bytes = text_to (zero_in (take 256 bytes)) bytes

-- ---- SOCKS 4

-- the name of a host, which isn't empty
abbrev pub name4 : ℕ → Option (List ℕ) → List ℕ → Dialog
name4 port None rest = breaks refused4 rest
name4 port (Some []) rest = breaks refused4 rest
name4 port (Some (byte ∷ bytes)) rest = dialog_connects (byte ∷ bytes) port rest

-- 0.0.0.x with x not 0 represents a name that follows
abbrev pub is_for_name : List ℕ → Bool
is_for_name (a ∷ b ∷ c ∷ d ∷ []) = a == 0 && (b == 0 && (c == 0 && not (d == 0)))
is_for_name _ = false

-- a user, whose name isn't looked at, and the end
abbrev pub user4 : ℕ → List ℕ → Option (List ℕ) → List ℕ → Dialog
user4 port address None rest = breaks refused4 rest
user4 port address (Some user) rest =
    either_dialog (is_for_name address) (on (take_text rest) (name4 port))
    (dialog_connects (dotted address) port rest)

-- an address, and then a user
abbrev pub address4 : ℕ → List ℕ → Dialog
address4 port bytes = on (split_at 4 bytes) (λ address rest. on (take_text rest) (user4 port address))

-- a command, of which 1 is to connect, and then a port
abbrev pub command4 : ℕ → List ℕ → Dialog
command4 command rest =
    either_dialog (command == 1) (on (take_port rest) address4) (breaks refused4 rest)

abbrev pub socks4 : List ℕ → Dialog
socks4 bytes = on (take_u8 bytes) command4

-- ---- SOCKS 5

-- a host, and its port, which ends the dialog
abbrev pub end5 : List ℕ → List ℕ → Dialog
end5 host bytes = on (take_port bytes) (dialog_connects host)

-- the length of a name, which isn't empty, and the name
abbrev pub name5 : ℕ → List ℕ → Dialog
name5 size rest =
    either_dialog (size == 0) (breaks (reply5 general_failure) rest) (on (split_at size rest) end5)

-- the type of an address: 1 for IPv4, 3 for a name and 4 for IPv6
abbrev pub address5 : ℕ → List ℕ → Dialog
address5 kind rest =
    either_dialog (kind == 1) (on (split_at 4 rest) (λ address. end5 (dotted address)))
    (either_dialog (kind == 3) (on (take_u8 rest) name5)
    (either_dialog (kind == 4) (on (split_at 16 rest) (λ address. end5 (grouped address)))
    (breaks (reply5 unknown_address) rest)))

-- a byte that is 0, and then an address
abbrev pub reserved5 : ℕ → List ℕ → Dialog
reserved5 reserved rest =
    either_dialog (reserved == 0) (on (take_u8 rest) address5) (breaks (reply5 general_failure) rest)

-- a command, of which 1 is to connect
abbrev pub command5 : ℕ → List ℕ → Dialog
command5 command rest =
    either_dialog (command == 1) (on (take_u8 rest) reserved5) (breaks (reply5 unknown_command) rest)

-- the version again, and then the request
abbrev pub request5 : ℕ → List ℕ → Dialog
request5 version rest =
    either_dialog (version == 5) (on (take_u8 rest) command5) (breaks (reply5 general_failure) rest)

-- methods, of which 0 is to need no authentication
abbrev pub methods5 : List ℕ → List ℕ → Dialog
methods5 methods rest =
    either_dialog (list_any (λ method. method == 0) methods)
    (replying no_authentication (on (take_u8 rest) request5)) (breaks no_method rest)

-- a count, and so many methods
abbrev pub socks5 : List ℕ → Dialog
socks5 bytes = on (take_u8 bytes) (λ count rest. on (split_at count rest) methods5)

-- ---- both

-- the version
abbrev pub version : ℕ → List ℕ → Dialog
version n rest = either_dialog (n == 4) (socks4 rest) (either_dialog (n == 5) (socks5 rest) (breaks [] rest))

abbrev pub socks : List ℕ → Dialog
socks bytes = on (take_u8 bytes) version
