-- How long the replies to a dialog are: that to its methods has two bytes, and the last ten at most.
use Rattle.std.proofs.Common.{◌≡◌, refl, ap, arith, ℕ, ◌≤◌, Bool, true, false, Option, Some, None, List, [], ◌∷◌, length, length-append}
use Rattle.std.specs.Prelude.{◌==◌, if◌then◌else◌, slice_index}
use Rattle.std.specs.List.{concat, list_any}
use Rattle.ssh_fields.specs.Fields.{split_at, take_u8}
use Rattle.socks_dialog.specs.Hosts.{dotted, grouped}
use Rattle.socks_dialog.specs.Replies.{general_failure, granted4, granted_to, no_authentication, not_allowed, refused4, refused_to, reply5, succeeded}
use Rattle.socks_dialog.specs.Socks.{Dialog, address4, address5, command4, command5, either_dialog, end5, is_for_name, methods5, name4, name5, on, replying, request5, reserved5, socks, socks4, take_port, take_text, user4, version}
use Rattle.socks_dialog.specs.declared.outcome.Outcome.{Outcome}
use Rattle.socks_dialog.specs.declared.outcome.Outcome.TheVariants.{Breaks, Connects, Wants}
use Rattle.house_relay.specs.Acts.{Confirmed, OpenAnswer, Refused, RelayAct, Unanswered, answer, before_in, last_reply, outcome_in, read, dialog_replies, replies_if, replies_in}

-- the reply of a dialog that breaks has ten bytes at most
abbrev IsShortEnd : Outcome → Type 0
IsShortEnd Wants = Unit {0}
IsShortEnd (Connects host port) = Unit {0}
IsShortEnd (Breaks reply) = length reply ≤ 10

-- none comes before it
record IsLast (d : Dialog) : Type 0 where
  none : d.replies ≡ []
  short : IsShortEnd d.outcome

-- those before it have two bytes at most
record IsShort (d : Dialog) : Type 0 where
  few : length (concat d.replies) ≤ 2
  short : IsShortEnd d.outcome

-- ---- none before the last

last-on : {X : Type 0} (o : Option (X × List ℕ)) (next : X → List ℕ → Dialog) → ((x : X) (rest : List ℕ) → IsLast (next x rest)) → IsLast (on o next)
last-on None next last = record { none = refl; short = tt }
last-on (Some p) next last = last p.0 p.1

last-either : (b : Bool) (c d : Dialog) → IsLast c → IsLast d → IsLast (either_dialog b c d)
last-either true c d first second = first
last-either false c d first second = second

breaks-last : (reply rest : List ℕ) → length reply ≤ 10 → IsLast (record { replies = []; outcome = Breaks reply; rest = rest })
breaks-last reply rest short = record { none = refl; short = short }

name4-last : (port : ℕ) (name : Option (List ℕ)) (rest : List ℕ) → IsLast (name4 port name rest)
name4-last port None rest = breaks-last refused4 rest (omega arith)
name4-last port (Some []) rest = breaks-last refused4 rest (omega arith)
name4-last port (Some (byte ∷ bytes)) rest = record { none = refl; short = tt }

user4-last : (port : ℕ) (address : List ℕ) (user : Option (List ℕ)) (rest : List ℕ) → IsLast (user4 port address user rest)
user4-last port address None rest = breaks-last refused4 rest (omega arith)
user4-last port address (Some user) rest =
    last-either (is_for_name address) _ _ (last-on (take_text rest) (name4 port) (name4-last port)) (record { none = refl; short = tt })

address4-last : (port : ℕ) (bytes : List ℕ) → IsLast (address4 port bytes)
address4-last port bytes = last-on (split_at 4 bytes) _ (λ address rest. last-on (take_text rest) (user4 port address) (user4-last port address))

command4-last : (command : ℕ) (rest : List ℕ) → IsLast (command4 command rest)
command4-last command rest = last-either (command == 1) _ _ (last-on (take_port rest) address4 address4-last) (breaks-last refused4 rest (omega arith))

end5-last : (host bytes : List ℕ) → IsLast (end5 host bytes)
end5-last host bytes = last-on (take_port bytes) _ (λ port rest. record { none = refl; short = tt })

reply5-short : (code : ℕ) → length (reply5 code) ≤ 10
reply5-short code = omega arith

name5-last : (size : ℕ) (rest : List ℕ) → IsLast (name5 size rest)
name5-last size rest = last-either (size == 0) _ _ (breaks-last (reply5 general_failure) rest (reply5-short general_failure)) (last-on (split_at size rest) end5 end5-last)

address5-last : (kind : ℕ) (rest : List ℕ) → IsLast (address5 kind rest)
address5-last kind rest =
    last-either (kind == 1) _ _ (last-on (split_at 4 rest) _ (λ address bytes. end5-last (dotted address) bytes))
    (last-either (kind == 3) _ _ (last-on (take_u8 rest) name5 name5-last)
    (last-either (kind == 4) _ _ (last-on (split_at 16 rest) _ (λ address bytes. end5-last (grouped address) bytes))
    (breaks-last _ rest (omega arith))))

reserved5-last : (reserved : ℕ) (rest : List ℕ) → IsLast (reserved5 reserved rest)
reserved5-last reserved rest = last-either (reserved == 0) _ _ (last-on (take_u8 rest) address5 address5-last) (breaks-last _ rest (omega arith))

command5-last : (command : ℕ) (rest : List ℕ) → IsLast (command5 command rest)
command5-last command rest = last-either (command == 1) _ _ (last-on (take_u8 rest) reserved5 reserved5-last) (breaks-last _ rest (omega arith))

request5-last : (n : ℕ) (rest : List ℕ) → IsLast (request5 n rest)
request5-last n rest = last-either (n == 5) _ _ (last-on (take_u8 rest) command5 command5-last) (breaks-last _ rest (omega arith))

-- ---- one before the last at most

short-of : (d : Dialog) → IsLast d → IsShort d
short-of d l =
    let none : length (concat d.replies) ≡ 0 = ap (λ rs. length (concat rs)) l.none in
    record { few = omega (arith, none); short = l.short }

short-on : {X : Type 0} (o : Option (X × List ℕ)) (next : X → List ℕ → Dialog) → ((x : X) (rest : List ℕ) → IsShort (next x rest)) → IsShort (on o next)
short-on None next short = record { few = omega arith; short = tt }
short-on (Some p) next short = short p.0 p.1

short-either : (b : Bool) (c d : Dialog) → IsShort c → IsShort d → IsShort (either_dialog b c d)
short-either true c d first second = first
short-either false c d first second = second

short-replying : (d : Dialog) → IsLast d → IsShort (replying no_authentication d)
short-replying d l =
    let two : length (concat (no_authentication ∷ d.replies)) ≡ 2 = ap (λ rs. length (concat (no_authentication ∷ rs))) l.none in
    record { few = omega (arith, two); short = l.short }

methods5-short : (methods rest : List ℕ) → IsShort (methods5 methods rest)
methods5-short methods rest =
    short-either (list_any (λ method. method == 0) methods) _ _
    (short-replying (on (take_u8 rest) request5) (last-on (take_u8 rest) request5 request5-last))
    (short-of _ (breaks-last _ rest (omega arith)))

version-short : (n : ℕ) (rest : List ℕ) → IsShort (version n rest)
version-short n rest =
    short-either (n == 4) _ _ (short-of (socks4 rest) (last-on (take_u8 rest) command4 command4-last))
    (short-either (n == 5) _ _
    (short-on (take_u8 rest) _ (λ count bytes. short-on (split_at count bytes) methods5 methods5-short))
    (short-of _ (breaks-last [] rest (omega arith))))

socks-short : (bytes : List ℕ) → IsShort (socks bytes)
socks-short bytes = short-on (take_u8 bytes) version version-short

-- ---- all replies

granted-short : (n : ℕ) → length (granted_to n) ≤ 10
granted-short n = go (n == 4)
  where
    go : (b : Bool) → length (if b then granted4 else reply5 succeeded) ≤ 10
    go true = omega arith
    go false = omega arith

refused-short : (n reason : ℕ) → length (refused_to n reason) ≤ 10
refused-short n reason = go (n == 4) (reason == 1)
  where
    go : (b c : Bool) → length (if b then refused4 else if c then reply5 not_allowed else reply5 general_failure) ≤ 10
    go true c = omega arith
    go false true = omega arith
    go false false = omega arith

last-short : (o : Outcome) (n : ℕ) (a : OpenAnswer) → IsShortEnd o → length (last_reply o n a) ≤ 10
last-short Wants n a short = omega arith
last-short (Breaks reply) n a short = short
last-short (Connects host port) n Unanswered short = omega arith
last-short (Connects host port) n Confirmed short = granted-short n
last-short (Connects host port) n (Refused reason) short = refused-short n reason

in-short : (bytes : List ℕ) (a : OpenAnswer) → length (replies_in bytes a) ≤ 12
unfolding replies_in before_in outcome_in
in-short bytes a =
    let s = socks-short bytes in
    let few = s.few in
    let last = last-short (socks bytes).outcome (slice_index bytes 0) a s.short in
    let sum = length-append (concat (socks bytes).replies) (last_reply (socks bytes).outcome (slice_index bytes 0) a) in
    omega (arith, few, last, sum)

if-short : (dials : Bool) (bytes : List ℕ) (a : OpenAnswer) → length (replies_if dials bytes a) ≤ 12
if-short false bytes a = omega arith
if-short true bytes a = in-short bytes a

-- the replies to a dialog have twelve bytes at most
pub replies-short : (dials : Bool) (acts : List RelayAct) → length (dialog_replies dials acts) ≤ 12
replies-short dials acts = if-short dials (read acts) (answer acts)
