-- Lists of stream numbers, and of other numbers.
use Rattle.std.specs.Prelude.{ℕ, Bool, not, List, filter, ◌==◌}
use Rattle.std.specs.List.{list_any}

-- whether a number is in a list
abbrev pub among : ℕ → List ℕ → Bool
among n list = list_any (λ s. s == n) list

-- the list without a number
abbrev pub without : ℕ → List ℕ → List ℕ
without n list = filter (λ s. not (s == n)) list
