-- Items that add nothing to what waits for the server: those that come after the end, and those
-- that cost nothing.
use Rattle.std.proofs.Common.{◌≡◌, ℕ, ◌≤◌, List, [], ◌∷◌, length, true, false, Bool, refl, ◌∙◌, ap, arith, sym, zero, suc, take}
use Rattle.std.specs.Prelude.{◌==◌}
use Rattle.mux_outside.specs.declared.house.HouseReply.{HouseReply}
use Rattle.mux_history.specs.Journal.{is_own_stream, server_end, unless_own}
use Rattle.mux_history.specs.Log.{bare_row, is_took, makes_next, makes_row, more_all, more_of}
use Rattle.mux_history.specs.Pending.{pending_up}
use Rattle.mux_history.specs.Policy.{Policy}
use Rattle.mux_history.specs.Rows.{Gone, Item, Row, Took, is_run_over}
use Rattle.mux_history.specs.Said.{silent}
use Rattle.mux_bounds.proofs.AddsLittle.{grows-by}
use Rattle.mux_bounds.proofs.Entries.{EachItem, by-more, each-unless, next, setting}
use Rattle.mux_bounds.proofs.Potentials.{IsMute, owed_cost, total}

abbrev pub waits : List Row → ℕ
waits rows = length (pending_up rows)

-- ---- after the end

-- only what is accepted makes rows
abbrev pub Over : List Row → List Row → Type 0
Over rows after = (waits after ≤ waits rows) × (is_run_over after ≡ true)

module _ (policy : Policy) (pid : ℕ) (picks : List ℕ) (given : List HouseReply) where
  over-one : (rows : List Row) (item : Item) → is_run_over rows ≡ true → Over rows (more_of (setting policy pid picks given) rows item)
  over-one rows item ended = by-more policy pid picks given (Over rows) rows item (λ stays. (omega arith, ended)) (λ makes. took item (takes makes))
    where
      takes : makes_next rows item ≡ true → is_took item ≡ true
      takes makes = sym (ap (λ b. elim b as (λ _. Bool) [ true ↦ is_took item | false ↦ makes_row rows item ]) ended) ∙ makes

      took : (i : Item) → is_took i ≡ true → Over rows (next policy pid picks given rows i ∷ rows)
      took (Took stream size) e = (let g = grows-by (bare_row (Took stream size) stream silent) rows in omega (arith, g), ended)
      took i e = cc

  pub over-all : (rows : List Row) (xs : List Item) → is_run_over rows ≡ true → Over rows (more_all (setting policy pid picks given) rows xs)
  over-all rows [] ended = (omega arith, ended)
  over-all rows (item ∷ xs) ended =
      let one = over-one rows item ended in
      let rest = over-all (more_of (setting policy pid picks given) rows item) xs one.1 in
      let a = one.0 in
      let b = rest.0 in
      (omega (arith, a, b), rest.1)

-- ---- items that cost nothing

pub total-take : (cost : Item → ℕ) (n : ℕ) (xs : List Item) → total cost (take n xs) ≤ total cost xs
total-take cost zero xs = omega arith
total-take cost (suc n) [] = omega arith
total-take cost (suc n) (x ∷ xs) = let t = total-take cost n xs in omega (arith, t)

pub mute-take : (n : ℕ) (xs : List Item) → EachItem IsMute xs → EachItem IsMute (take n xs)
mute-take zero xs all = tt
mute-take (suc n) [] all = tt
mute-take (suc n) (x ∷ xs) all = (all.0, mute-take n xs all.1)

pub server-mute : (rest : List ℕ) → EachItem IsMute (server_end rest ∷ [])
server-mute [] = (tt, tt)
server-mute (b ∷ rest) = (tt, tt)

pub server-free : (rest : List ℕ) → total owed_cost (server_end rest ∷ []) ≡ 0
server-free [] = refl
server-free (b ∷ rest) = refl

pub unless-free : (stream : ℕ) (xs : List Item) → total owed_cost xs ≡ 0 → total owed_cost (unless_own stream xs) ≡ 0
unless-free stream xs none = elim (is_own_stream stream) as (λ b. total owed_cost (elim b as (λ _. List Item) [ true ↦ [] | false ↦ xs ]) ≡ 0) [ true ↦ refl | false ↦ none ]

pub gone-mute : (stream : ℕ) (item : Item) → EachItem IsMute (item ∷ []) → EachItem IsMute (elim (stream == 0) as (λ _. List Item) [ true ↦ item ∷ [] | false ↦ unless_own stream (Gone stream ∷ []) ])
gone-mute stream item mute = elim (stream == 0) as (λ b. EachItem IsMute (elim b as (λ _. List Item) [ true ↦ item ∷ [] | false ↦ unless_own stream (Gone stream ∷ []) ])) [ true ↦ mute | false ↦ each-unless IsMute stream (Gone stream ∷ []) (λ client. (tt, tt)) ]

pub gone-free : (stream : ℕ) (item : Item) → total owed_cost (item ∷ []) ≡ 0 → total owed_cost (elim (stream == 0) as (λ _. List Item) [ true ↦ item ∷ [] | false ↦ unless_own stream (Gone stream ∷ []) ]) ≡ 0
gone-free stream item none = elim (stream == 0) as (λ b. total owed_cost (elim b as (λ _. List Item) [ true ↦ item ∷ [] | false ↦ unless_own stream (Gone stream ∷ []) ]) ≡ 0) [ true ↦ none | false ↦ unless-free stream (Gone stream ∷ []) refl ]
