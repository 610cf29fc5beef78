-- Which items make the next row: those of a run that goes on, and afterwards what is accepted.
use Rattle.std.proofs.Common.{◌≡◌, ℕ, List, true, false, Bool, refl, ap}
use Rattle.mux_history.specs.Log.{is_took, makes_next, makes_row}
use Rattle.mux_history.specs.Rows.{Item, Row, Took, is_run_over}

pub next-live : (rows : List Row) (item : Item) → is_run_over rows ≡ false → makes_next rows item ≡ makes_row rows item
next-live rows item going = ap (λ b. elim b as (λ _. Bool) [ true ↦ is_took item | false ↦ makes_row rows item ]) going

pub next-took : (rows : List Row) (stream size : ℕ) → makes_next rows (Took stream size) ≡ true
next-took rows stream size = elim (is_run_over rows) as (λ b. (elim b as (λ _. Bool) [ true ↦ true | false ↦ true ]) ≡ true) [ true ↦ refl | false ↦ refl ]

pub by-next : {A : Type 0} (rows : List Row) (item : Item) → makes_next rows item ≡ true → (is_run_over rows ≡ false → makes_row rows item ≡ true → A) → ((stream size : ℕ) → item ≡ Took stream size → A) → A
by-next {A} rows item may live took = by_ended (is_run_over rows) refl may
  where
    by_item : (i : Item) → item ≡ i → is_took i ≡ true → A
    by_item (Took stream size) e t = took stream size e
    by_item i e t = cc

    by_ended : (b : Bool) → is_run_over rows ≡ b → (elim b as (λ _. Bool) [ true ↦ is_took item | false ↦ makes_row rows item ]) ≡ true → A
    by_ended true e t = by_item item refl t
    by_ended false e m = live e m
