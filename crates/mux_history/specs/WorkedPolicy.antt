-- Worked permission lists.
use Rattle.std.specs.Prelude.{ℕ, List, [], ◌∷◌, Option, Some, None, codes}
use Rattle.mux_history.specs.Policy.{Entry, Ports, Paths, Allow, Entries}

-- an entry
abbrev pub entry : Option (List ℕ) → Option ℕ → Entry
entry host port = Ports host port

-- a host with its port, a port of each host, an address in brackets, each port of a host, every
-- port, and a path
abbrev pub texts : List (List ℕ)
texts = codes "db:5432" ∷ codes "080" ∷ codes "[fe80::1]:22" ∷ codes "web:*" ∷ codes "*"
    ∷ codes "/run/s:80" ∷ []

-- what they contain
abbrev pub entries : Allow
entries =
    Entries (entry (Some (codes "db")) (Some 5432) ∷ entry None (Some 80)
    ∷ entry (Some (codes "fe80::1")) (Some 22) ∷ entry (Some (codes "web")) None
    ∷ entry None None ∷ Paths (codes "/run/s:80") ∷ [])
