-- What may be opened and what may be listened on, and how the entries of a permission list are
-- read.
use Rattle.std.specs.Prelude.{ℕ, ◌+◌, ◌-◌, ◌*◌, List, [], ◌∷◌, Option, Some, None, Result, Ok, Err, Bool, true, false, ◌&&◌, ◌||◌, ◌==◌, bytes_eq, nat_le, codes}
use Rattle.ssh_grammar.specs.Messages.{Key, Tcp, Path, Opens, Session, Direct}
use Rattle.mux_history.specs.Rows.{any_of}

-- hosts and ports, where `None` represents each of them; or a path
pub data Entry : Type 0 where
  Ports : (host : Option (List ℕ)) (port : Option ℕ) → Entry
  Paths : (path : List ℕ) → Entry

-- all, or what some entry permits
pub data Allow : Type 0 where
  Anything : Allow
  Entries : (entries : List Entry) → Allow

-- the list for opens, the list for forwardings, and whether sessions may be started
pub record Policy : Type 0 where
  pub opens : Allow
  pub listens : Allow
  pub sessions : Bool

-- ---- what is permitted

-- the entry is for this host
abbrev pub has_host : Option (List ℕ) → List ℕ → Bool
has_host None host = true
has_host (Some h) host = bytes_eq h host

-- the entry is for this port
abbrev pub has_port : Option ℕ → ℕ → Bool
has_port None port = true
has_port (Some p) port = p == port

-- the entry is for this key: one for ports is for no path, and one for a path is for no port
abbrev pub is_for : Key → Entry → Bool
is_for (Tcp address port) (Ports host asked) = has_host host address && has_port asked port
is_for (Path path) (Paths asked) = bytes_eq asked path
is_for _ _ = false

-- hosts and paths are compared by bytes; the port asked is the one that is looked at, 0 included
abbrev pub permits : Allow → Key → Bool
permits Anything key = true
permits (Entries entries) key = any_of (is_for key) entries

-- a client may open a session where those are permitted, a direct channel to what its list permits,
-- and no channel of another type
abbrev pub may_open : Policy → Opens → Bool
may_open policy Session = policy.sessions
may_open policy (Direct key) = permits policy.opens key
may_open policy _ = false

-- all is permitted
abbrev pub any_policy : Policy
any_policy = record { opens = Anything; listens = Anything; sessions = true }

-- ---- how a list is read: `any`, `none`, or entries `/path`, `host:port`, `[address]:port` and
-- `port`

-- a decimal number up to 65,535; leading zeros are allowed
abbrev pub digits : ℕ → List ℕ → Option ℕ
digits n [] = elim (nat_le n 65535) [ true ↦ Some n | false ↦ None ]
digits n (b ∷ bytes) = elim (nat_le 48 b && nat_le b 57) [
  | true ↦ digits (n * 10 + (b - 48)) bytes
  | false ↦ None
]

-- at least one digit
abbrev pub read_number : List ℕ → Option ℕ
read_number [] = None
read_number (b ∷ bytes) = digits 0 (b ∷ bytes)

-- `*`, or a number
abbrev pub read_port : List ℕ → Option (Option ℕ)
read_port text = elim (bytes_eq text (codes "*")) [
  | true ↦ Some None
  | false ↦ elim (read_number text) [ None ↦ None | Some n ↦ Some (Some n) ]
]

-- `*`, or a text that isn't empty and doesn't begin with a slash
abbrev pub read_host : List ℕ → Option (Option (List ℕ))
read_host [] = None
read_host (b ∷ text) = elim (bytes_eq (b ∷ text) (codes "*")) [
  | true ↦ Some None
  | false ↦ elim (b == 47) [ true ↦ None | false ↦ Some (Some (b ∷ text)) ]
]

-- both parts of an entry
abbrev pub entry_of : Option (Option (List ℕ)) → Option (Option ℕ) → Option Entry
entry_of (Some host) (Some port) = Some (Ports host port)
entry_of _ _ = None

-- the text before the last byte of a kind, and the text after it
abbrev pub before_last : ℕ → List ℕ → Option (List ℕ × List ℕ)
before_last end [] = None
before_last end (b ∷ text) = elim (before_last end text) [
  | Some parts ↦ Some (b ∷ parts.0, parts.1)
  | None ↦ elim (b == end) [ true ↦ Some ([], text) | false ↦ None ]
]

-- a colon or a bracket
abbrev pub is_mark : ℕ → Bool
is_mark b = (b == 58) || ((b == 91) || (b == 93))

-- what follows the closing bracket
abbrev pub read_colon_port : List ℕ → Option (Option ℕ)
read_colon_port [] = None
read_colon_port (b ∷ text) = elim (b == 58) [ true ↦ read_port text | false ↦ None ]

-- an address in brackets, up to the last closing bracket
abbrev pub read_bracketed : List ℕ → Option Entry
read_bracketed text = elim (before_last 93 text) [
  | None ↦ None
  | Some parts ↦ entry_of (read_host parts.0) (read_colon_port parts.1)
]

-- without brackets a host has no colon and no bracket; a lone port means each host
abbrev pub read_bare : List ℕ → Option Entry
read_bare text = elim (before_last 58 text) [
  | None ↦ entry_of (Some None) (read_port text)
  | Some parts ↦ elim (any_of is_mark parts.0)
      [ true ↦ None | false ↦ entry_of (read_host parts.0) (read_port parts.1) ]
]

-- an entry, by its first byte: one that begins with a slash is a path
abbrev pub read_entry : List ℕ → Option Entry
read_entry [] = None
read_entry (b ∷ text) = elim (b == 47) [
  | true ↦ Some (Paths (b ∷ text))
  | false ↦ elim (b == 91) [ true ↦ read_bracketed text | false ↦ read_bare (b ∷ text) ]
]

-- the entries, or the place of the first text that is none
abbrev pub read_entries : ℕ → List (List ℕ) → Result (List Entry) ℕ
read_entries at [] = Ok []
read_entries at (text ∷ texts) = elim (read_entry text) [
  | None ↦ Err at
  | Some e ↦ elim (read_entries (at + 1) texts) [ Ok es ↦ Ok (e ∷ es) | Err bad ↦ Err bad ]
]

-- the two words that stand alone
abbrev pub read_word : List ℕ → Option Allow
read_word text = elim (bytes_eq text (codes "any")) [
  | true ↦ Some Anything
  | false ↦ elim (bytes_eq text (codes "none")) [ true ↦ Some (Entries []) | false ↦ None ]
]

-- a word that stands alone; the text after it is bad
abbrev pub alone_or_bad : Allow → List (List ℕ) → Result Allow ℕ
alone_or_bad allow [] = Ok allow
alone_or_bad allow (text ∷ texts) = Err 1

-- a list without texts permits all; an `Err` is the place of the first bad text, counted from 0
abbrev pub read_list : List (List ℕ) → Result Allow ℕ
read_list [] = Ok Anything
read_list (text ∷ texts) = elim (read_word text) [
  | Some allow ↦ alone_or_bad allow texts
  | None ↦ elim (read_entries 0 (text ∷ texts)) [ Ok es ↦ Ok (Entries es) | Err bad ↦ Err bad ]
]
