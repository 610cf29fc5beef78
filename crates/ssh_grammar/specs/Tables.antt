-- Look-ups in the tables of the standards.
use Rattle.std.specs.Prelude.{ℕ, List, [], ◌∷◌, true, false, nat_eq, bytes_eq}

-- the first row of the table with this number, or the last answer
abbrev pub by_number : {A : Type 0} → List (ℕ × A) → ℕ → A → A
by_number [] n other = other
by_number (row ∷ rows) n other =
    elim (nat_eq n row.0) [ true ↦ row.1 | false ↦ by_number rows n other ]

-- the first row of the table with this text, or the last answer
abbrev pub by_name : {A : Type 0} → List (List ℕ × A) → List ℕ → A → A
by_name [] name other = other
by_name (row ∷ rows) name other =
    elim (bytes_eq name row.0) [ true ↦ row.1 | false ↦ by_name rows name other ]
