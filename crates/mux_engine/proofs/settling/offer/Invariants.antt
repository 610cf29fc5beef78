use Rattle.std.proofs.Common.{◌≡◌, [], ◌∷◌, ℕ, Bool, List, Option, true, false, length}
use Rattle.mux_outside.specs.declared.house_mark.HouseMark.{HouseMark}
use Rattle.mux_outside.specs.Streams.{among}
use Rattle.mux_outside.specs.declared.mark.Mark.{Mark}
use Rattle.mux_history.specs.Policy.{Policy}
use Rattle.mux_state.specs.State.{queue_in}
use Rattle.mux_engine.specs.Serving.{IsOfferedTo, Serving}
use Rattle.mux_engine.specs.Sides.{RestsOf, SameSockets, Side}
use Rattle.mux_engine.specs.SilentAnswers.{AcceptsAs}
use Rattle.mux_engine.proofs.Wired.{Worked}
use Rattle.mux_engine.proofs.settling.offer.Given as goal

abbrev pub invariant-loop : goal.invariant-loop
invariant-loop g l = let W = g.W.Wire in let H = g.H.Asks in record {
  serving : (todo : List ℕ) → among 0 (l.stream ∷ todo) ≡ true → (present : Bool) (first : _) (before : Option (List HouseMark)) (now : Side) (policy : Policy) (pid : ℕ) (start : Option (List Mark)) (failed : List ℕ) (given : ℕ) → Serving H.may (RestsOf H.state present first) before now policy pid start (W.state l.fn.wire).seen l.fn.held failed given (l.stream ∷ todo) l.fn.engine
      → Serving H.may (RestsOf H.state present first) before now policy pid start (W.state l.wire).seen l.held failed given (l.stream ∷ todo) l.engine;
  engine : IsOfferedTo l.stream l.fn.engine l.engine (W.faults l.fn.wire) (W.faults l.wire);
  holds : (t : ℕ) → among t l.fn.held ≡ true → among t l.held ≡ true;
  places : SameSockets (W.state l.fn.wire).seen (W.state l.wire).seen;
  free : among l.stream (W.state l.wire).seen.blocked ≡ false;
  silence : AcceptsAs (W.state l.wire).seen l.engine;
  wire : Worked 0 (W.state l.fn.wire) (W.state l.wire) (W.faults l.fn.wire) (W.faults l.wire);
  idle : queue_in l.fn.engine l.stream ≡ [] → (l.engine ≡ l.fn.engine) × (l.wire ≡ l.fn.wire);
}

abbrev pub decreases-loop : goal.decreases-loop
decreases-loop g l = length (queue_in l.engine l.stream)
