-- The worked run meets the premises.
use Rattle.std.proofs.Common.{◌≡◌, ◌<◌, ℕ, Bool, true, false, List, [], ◌∷◌, Option, Some, None, arith, refl, rules}
use Rattle.std.specs.Prelude.{◌&&◌, is_none, nat_lt, reverse, MatchBool}
use Rattle.std.proofs.lemmas.Bool.Decides.{nat_tests}
use Rattle.mux_history.specs.declared.limits.TheConstants.{NUMBERS_END}
use Rattle.mux_history.specs.Channels.{Channel, holder}
use Rattle.mux_history.specs.Choices.{takes_number}
use Rattle.mux_history.specs.Journal.{IsLawful}
use Rattle.mux_history.specs.Promises.{TakesFront, Throughout}
use Rattle.mux_history.specs.Right.{AreFresh, IsRight, carried_number}
use Rattle.mux_history.specs.Wires.{ReadsWhenAsked}
use Rattle.mux_history.specs.Rows.{Row}
use Rattle.mux_history.specs.Worked.{open_setting, run}
use Rattle.mux_pieces.specs.Worked.{intrusion}

pub is-lawful : IsLawful (reverse intrusion)
is-lawful = search rules

pub is-asked : Throughout ReadsWhenAsked (reverse intrusion)
is-asked = search rules

-- all that waited is accepted, each time
pub takes-front : Throughout (TakesFront open_setting) (reverse intrusion)
takes-front = (tt, (tt, (([], refl), (tt, (tt, (([], refl), (tt, (tt, (([], refl), (tt, (tt, (([], refl), (tt, (tt, (([], refl), (tt, (tt, (([], refl), (tt, (tt, (([], refl), (tt, (tt, (([], refl), (tt, (tt, (([], refl), (tt, (tt, (([], refl), (tt, (tt, (([], refl), (tt, (tt, tt)))))))))))))))))))))))))))))))))))

-- the same as a test
abbrev fresh_row : List Row → Row → Bool
fresh_row before row = elim (takes_number row) as (λ _. Bool) [
  | true ↦ nat_lt (carried_number row.up) NUMBERS_END && is_none (holder before (carried_number row.up))
  | false ↦ true
]

abbrev all_fresh : List Row → Bool
all_fresh [] = true
all_fresh (row ∷ before) = fresh_row before row && all_fresh before

and-left : (a b : Bool) → (a && b) ≡ true → a ≡ true
and-left true b e = refl
and-left false b e = e

and-right : (a b : Bool) → (a && b) ≡ true → b ≡ true
and-right true b e = e
and-right false b e = cc

below : (a b : ℕ) → nat_lt a b ≡ true → a < b
below a b e = grind (arith, nat_tests)

none : (found : Option Channel) → is_none found ≡ true → found ≡ None
none None e = refl
none (Some x) e = cc

-- a row that passes is fresh
passes-row : (before : List Row) (row : Row) (b : Bool)
    → elim b as (λ _. Bool) [ true ↦ nat_lt (carried_number row.up) NUMBERS_END && is_none (holder before (carried_number row.up)) | false ↦ true ] ≡ true
    → MatchBool b ((carried_number row.up < NUMBERS_END) × (holder before (carried_number row.up) ≡ None)) (Unit {0})
passes-row before row true e = (below _ _ (and-left _ _ e), none _ (and-right _ _ e))
passes-row before row false e = tt

passes : (rows : List Row) → all_fresh rows ≡ true → AreFresh rows
passes [] e = tt
passes (row ∷ before) e = (passes-row before row (takes_number row) (and-left _ _ e), passes before (and-right _ _ e))

is-fresh : AreFresh (run intrusion)
is-fresh = passes (run intrusion) refl

pub is-right : IsRight open_setting (reverse intrusion) 0 (run intrusion)
is-right = record { determined = refl; fresh = is-fresh }
