-- The log of the items that concern a client, alone, is the list of its rows under its own numbers.
use Rattle.std.proofs.Common.{◌≡◌, ℕ, List, [], ◌∷◌, true, false, refl, ◌∙◌, ap, map, sym}
use Rattle.std.specs.Prelude.{◌||◌}
use Rattle.mux_history.specs.Channels.{own_number_of}
use Rattle.mux_history.specs.Choices.{sent_number}
use Rattle.mux_history.specs.Log.{log_of, makes_next, more_of, treat}
use Rattle.mux_history.specs.Policy.{Policy}
use Rattle.mux_history.specs.Rows.{Item, Row, is_end, is_run_over}
use Rattle.mux_history.specs.Settings.{by_own}
use Rattle.mux_history.specs.Solo.{item_for, items_for, seen_row, seen_alone}
use Rattle.mux_isolation.proofs.Solos.{alone, alone_row, seen-alone}

-- what is known of each row of a client
pub record RowOwn (policy : Policy) (pid : ℕ) (before : List Row) (row : Row) : Type 0 where
  pub makes : makes_next (alone before) (item_for before row.item) ≡ true
  pub treats : treat policy pid (sent_number (own_number_of (item_for before row.item))) (alone before) (item_for before row.item) ≡ alone_row before row

abbrev pub AllOwn : Policy → ℕ → List Row → Type 0
AllOwn policy pid [] = Unit {0}
AllOwn policy pid (row ∷ before) = RowOwn policy pid before row × AllOwn policy pid before

pub ended-alone : (own : List Row) → is_run_over (alone own) ≡ is_run_over own
ended-alone [] = refl
ended-alone (row ∷ own) = ap (λ b. is_end row.fate || b) (ended-alone own)

pub one-more : (policy : Policy) (pid : ℕ) (rows : List Row) (item : Item) → makes_next rows item ≡ true → more_of (by_own policy pid) rows item ≡ treat policy pid (sent_number (own_number_of item)) rows item ∷ rows
one-more policy pid rows item makes = ap (λ b. elim b as (λ _. List Row) [ false ↦ rows | true ↦ treat policy pid (sent_number (own_number_of item)) rows item ∷ rows ]) makes

pub solo-alone : (policy : Policy) (pid : ℕ) (own : List Row) → AllOwn policy pid own → log_of (by_own policy pid) (items_for own) ≡ alone own
solo-alone policy pid [] known = refl
solo-alone policy pid (row ∷ own) known =
    ap (λ rows. more_of (by_own policy pid) rows (item_for own row.item)) (solo-alone policy pid own known.1)
    ∙ (one-more policy pid (alone own) (item_for own row.item) known.0.makes
    ∙ ap (λ r. r ∷ alone own) known.0.treats)

-- so the rows agree one by one
pub unshared : (policy : Policy) (pid : ℕ) (own : List Row) → AllOwn policy pid own → map seen_row own ≡ map seen_alone (log_of (by_own policy pid) (items_for own))
unshared policy pid own known = seen-alone own ∙ sym (ap (map seen_alone) (solo-alone policy pid own known))
