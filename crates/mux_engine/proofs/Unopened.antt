-- Where no forwarder is present nothing of the master's own is opened.
use Rattle.std.proofs.Common.{◌≡◌, ℕ, false, List, [], Option, refl, sym, ap, ◌∙◌, inl, inr}
use Rattle.std.specs.Prelude.{Result, Ok, Err}
use Rattle.mux_outside.specs.House.{Known}
use Rattle.mux_outside.specs.Seen.{Seen, seen_after_turn}
use Rattle.mux_outside.specs.Streams.{among}
use Rattle.mux_outside.specs.Wire.{OwnFits}
use Rattle.mux_outside.specs.Seen.{last_own_after}
use Rattle.mux_outside.specs.declared.house.HouseReply.{HouseReply}
use Rattle.mux_outside.specs.declared.house_mark.HouseMark.{HouseMark}
use Rattle.mux_outside.specs.declared.turn.Turn.{Turn}
use Rattle.mux_outside.specs.declared.turn.Turn.TheVariants as turn
use Rattle.mux_outside.specs.declared.turn.Want.{Want}
use Rattle.mux_state.specs.State.{EngineState}
use Rattle.mux_state.specs.declared.event.Event.{Event}
use Rattle.mux_engine.specs.Asking.{Applied}
use Rattle.mux_engine.specs.Sides.{Housed, IsAlone}
use Rattle.mux_engine.proofs.Lists.{true-false}

-- no stream comes where there is no listener
none-joins : (t : Turn) (seen : Seen) → seen.listeners ≡ [] → OwnFits t seen → last_own_after t seen.last_own ≡ seen.last_own
none-joins (turn.Accepted k) seen none fits = refl
none-joins (turn.Got k) seen none fits = refl
none-joins (turn.End k) seen none fits = refl
none-joins (turn.Writable k) seen none fits = refl
none-joins (turn.Failed k) seen none fits = refl
none-joins turn.NoMemory seen none fits = refl
none-joins (turn.Joined l k) seen none fits = true-false (sym fits.0 ∙ ap (among l) none)

pub wait-opens : (t : Turn) (todo : List ℕ) (want : Want) (bytes : List ℕ) (known : Known) (seen seen' : Seen) (own : List ℕ) → Housed known seen own → IsAlone known → OwnFits t seen → seen' ≡ seen_after_turn t todo want bytes seen → known.present ≡ false → seen'.last_own ≡ seen.last_own
wait-opens t todo want bytes known seen seen' own h alone fits is out = ap (λ (y : Seen). y.last_own) is ∙ none-joins t seen (sym h.listeners ∙ alone.listeners out) fits

-- an event opens none
pub event-opens : {A E : Type 0} (r : Result A E) (May : HouseReply → Type 0) (e : Event) (s s' : EngineState) (asks : List HouseMark) (recorded recorded' : Option (List HouseMark)) (known known' : Known) (seen seen' : Seen) → Applied r May e s s' asks recorded recorded' known known' seen seen' → seen'.last_own ≡ seen.last_own
event-opens (Ok x) May e s s' asks recorded recorded' known known' seen seen' h = ap (λ (y : Seen). y.last_own) h.seen_is
event-opens (Err x) May e s s' asks recorded recorded' known known' seen seen' (inl u) = ap (λ (y : Seen). y.last_own) u.seen_is
event-opens (Err x) May e s s' asks recorded recorded' known known' seen seen' (inr p) = ap (λ (y : Seen). y.last_own) p.1.seen_is
