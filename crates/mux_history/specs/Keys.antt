-- What the keys of forwardings are to the log: an address with a port, or a path.
use Rattle.std.specs.Prelude.{ℕ, ◌≡◌, ◌==◌, List, Option, Some, None, Bool, true, false, ◌&&◌, length, bytes_eq, nat_le, nat_lt}
use Rattle.ssh_fields.specs.Fields.{u32_at}
use Rattle.ssh_grammar.specs.Messages.{Key, Tcp, Path}
use Rattle.mux_history.specs.declared.limits.TheConstants.{MAX_ADDRESS}

-- the same key: two of different kinds never are
abbrev pub is_key : Key → Key → Bool
is_key (Tcp a p) (Tcp b q) = (p == q) && bytes_eq a b
is_key (Path a) (Path b) = bytes_eq a b
is_key _ _ = false

-- the test passes for the same key alone; an address and a path with the same bytes are two
abbrev pub KeysAreRecordedApart : Type 0
KeysAreRecordedApart = (a b : Key) → (is_key a b ≡ true → a ≡ b) × (a ≡ b → is_key a b ≡ true)

-- a key that is there, and is this one
abbrev pub has_key : Option Key → Key → Bool
has_key None key = false
has_key (Some k) key = is_key k key

-- an address or a path that isn't too long; a path isn't empty
abbrev pub is_askable : Key → Bool
is_askable (Tcp address port) = nat_le (length address) MAX_ADDRESS
is_askable (Path path) = nat_lt 0 (length path) && nat_le (length path) MAX_ADDRESS

-- the server chooses the port, and sends it in its success (RFC 4254, section 7.1)
abbrev pub learns_port : Key → Bool
learns_port (Tcp address port) = port == 0
learns_port (Path path) = false

-- the key that is listened on: the one asked, with the port in the success where 0 was asked
abbrev pub bound : Key → List ℕ → Key
bound (Tcp address port) rest =
    Tcp address (elim (port == 0) [ true ↦ u32_at 0 rest | false ↦ port ])
bound (Path path) rest = Path path
