-- The rows of one client.
use Rattle.std.proofs.Common.{◌≡◌, ℕ, List, [], ◌∷◌, true, false, Bool, refl, ◌∙◌, ap, arith, sym, subst}
use Rattle.std.specs.Prelude.{◌==◌}
use Rattle.std.proofs.lemmas.Bool.Decides.{nat_tests}
use Rattle.mux_history.specs.Rows.{Row, rows_of}
use Rattle.mux_history.proofs.Finds.{filter-no, filter-yes}

pub idle_row : (k : ℕ) (row : Row) (rows : List Row) → (row.client == k) ≡ false → rows_of k (row ∷ rows) ≡ rows_of k rows
idle_row k row rows other = rw other refl

pub own_row : (k : ℕ) (row : Row) (rows : List Row) → (row.client == k) ≡ true → rows_of k (row ∷ rows) ≡ row ∷ rows_of k rows
own_row k row rows mine = rw mine refl

-- all rows are the client's
abbrev pub AllOf : ℕ → List Row → Type 0
AllOf k [] = Unit {0}
AllOf k (row ∷ before) = ((row.client == k) ≡ true) × AllOf k before

pub rows-all : (k : ℕ) (own : List Row) → AllOf k own → rows_of k own ≡ own
rows-all k [] all = refl
rows-all k (row ∷ own) all = filter-yes (λ (r : Row). r.client == k) row own all.0 ∙ ap (λ rs. row ∷ rs) (rows-all k own all.1)

-- all rows of a client are its own
pub all-of : (k : ℕ) (rows : List Row) → AllOf k (rows_of k rows)
all-of k [] = tt
all-of k (row ∷ rows) = by_case (all-of k rows) (row.client == k) refl
  where
    by_case : AllOf k (rows_of k rows) → (b : Bool) → (row.client == k) ≡ b → AllOf k (rows_of k (row ∷ rows))
    by_case ih true e = subst (AllOf k) (sym (filter-yes (λ (r : Row). r.client == k) row rows e)) (e, ih)
    by_case ih false e = subst (AllOf k) (sym (filter-no (λ (r : Row). r.client == k) row rows e)) ih

pub rows-twice : (k : ℕ) (rows : List Row) → rows_of k (rows_of k rows) ≡ rows_of k rows
rows-twice k rows = rows-all k (rows_of k rows) (all-of k rows)

pub same-client : (a k : ℕ) → (a == k) ≡ true → a ≡ k
same-client a k e = grind (arith, nat_tests)
