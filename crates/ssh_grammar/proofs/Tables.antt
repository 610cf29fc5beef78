-- What a look-up in a table gives: the answer of a row with that number or text, or the last one.
use Rattle.std.proofs.Common.{◌≡◌, ◌≢◌, ℕ, Bool, true, false, List, [], ◌∷◌, refl, nat_eq, bytes_eq}
use Rattle.std.specs.List.{AllByRecursion}
use Rattle.std.proofs.lemmas.Bool.{eqb-true}
use Rattle.std.proofs.lemmas.Slice.Eq.{bytes_eq-Decides}
use Rattle.ssh_grammar.specs.Tables.{by_number, by_name}

-- what holds of the answer of each row that may be met holds of the answer
pub by_number-holds : {A : Type 0} (P : A → Type 0) (rows : List (ℕ × A)) (n : ℕ) (other : A) → AllByRecursion (λ row. n ≡ row.0 → P row.1) rows → P other → P (by_number rows n other)
by_number-holds P [] n other h last = last
by_number-holds {A} P (row ∷ rows) n other h last = by_case (nat_eq n row.0) refl (by_number-holds P rows n other h.1 last)
  where
    by_case : (t : Bool) → nat_eq n row.0 ≡ t → P (by_number rows n other) → P (elim t as (λ _. A) [ true ↦ row.1 | false ↦ by_number rows n other ])
    by_case true e later = h.0 (eqb-true n row.0 e)
    by_case false e later = later

pub by_name-holds : {A : Type 0} (P : A → Type 0) (rows : List (List ℕ × A)) (name : List ℕ) (other : A) → AllByRecursion (λ row. name ≡ row.0 → P row.1) rows → (AllByRecursion (λ row. name ≢ row.0) rows → P other) → P (by_name rows name other)
by_name-holds P [] name other h last = last tt
by_name-holds {A} P (row ∷ rows) name other h last = by_case (bytes_eq name row.0) refl (by_name-holds P rows name other h.1)
  where
    by_case : (t : Bool) → bytes_eq name row.0 ≡ t → ((AllByRecursion (λ row. name ≢ row.0) rows → P other) → P (by_name rows name other)) → P (elim t as (λ _. A) [ true ↦ row.1 | false ↦ by_name rows name other ])
    by_case true e later = h.0 ((bytes_eq-Decides name row.0).0 e)
    by_case false e later = later (λ others. last (apart, others))
      where
        apart : name ≢ row.0
        apart same = let yes : bytes_eq name row.0 ≡ true = (bytes_eq-Decides name row.0).1 same in absurd cc

-- a text that no row has is given the last answer
pub by_name-other : {A : Type 0} (rows : List (List ℕ × A)) (name : List ℕ) (other : A) → AllByRecursion (λ row. name ≢ row.0) rows → by_name rows name other ≡ other
by_name-other [] name other h = refl
by_name-other {A} (row ∷ rows) name other h = by_case (bytes_eq name row.0) refl (by_name-other rows name other h.1)
  where
    by_case : (t : Bool) → bytes_eq name row.0 ≡ t → by_name rows name other ≡ other → (elim t as (λ _. A) [ true ↦ row.1 | false ↦ by_name rows name other ]) ≡ other
    by_case true e later = absurd (h.0 ((bytes_eq-Decides name row.0).0 e))
    by_case false e later = later
