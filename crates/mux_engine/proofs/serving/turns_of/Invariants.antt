use Rattle.std.proofs.Common.{◌≡◌, ◌+◌, ◌∷◌, ℕ, List, Option, None, true, false}
use Rattle.mux_outside.specs.HouseCalls.{HandsOn, HouseCall}
use Rattle.mux_outside.specs.declared.house_mark.HouseMark.{HouseMark}
use Rattle.mux_outside.specs.declared.mark.Mark.{Mark}
use Rattle.mux_history.specs.Policy.{Policy}
use Rattle.mux_state.specs.Events.{here}
use Rattle.mux_engine.specs.Called.{Handed}
use Rattle.mux_engine.specs.Counted.{Spent}
use Rattle.mux_engine.specs.Serving.{Serving}
use Rattle.mux_engine.specs.Sides.{RestsOf, Together, all_marks_noted}
use Rattle.mux_engine.specs.Wires.{KeepsWire}
use Rattle.mux_engine.proofs.serving.turns_of.Given as goal

abbrev pub invariant-loop : goal.invariant-loop
invariant-loop g l = let W = g.W.Wire in let H = g.H.Asks in record {
  serving : (first : _) (calls : List HouseCall) (before : Option (List HouseMark)) (policy : Policy) (pid : ℕ) (start : Option (List Mark)) (given : ℕ) → HandsOn (H.state first).stands (H.state l.fn.house).stands calls → Serving H.may (RestsOf H.state (H.state l.fn.house).known.present first) before (all_marks_noted (H.state l.fn.house).recorded (H.state l.fn.house).known calls) policy pid start (W.state l.fn.wire).seen l.fn.lists.held l.fn.lists.failed given (0 ∷ here l.fn.engine) l.fn.engine
      → Handed (H.state first).stands (H.state l.house).stands (λ (all : List HouseCall). Serving H.may (RestsOf H.state (H.state l.fn.house).known.present first) before (all_marks_noted (H.state l.house).recorded (H.state l.house).known all) policy pid start (W.state l.wire).seen l.lists.held l.lists.failed (given + l.counter) (0 ∷ here l.engine) l.engine);
  together : Together (H.state l.house) (W.state l.wire) l.lists;
  present : (H.state l.house).known.present ≡ (H.state l.fn.house).known.present;
  must : (H.state l.house).must ≡ (H.state l.fn.house).must;
  on : l.engine.ended ≡ None;
  settled : l.lists.settled ≡ false;
  first : l.counter ≡ 0 → (l.house ≡ l.fn.house) × (l.engine ≡ l.fn.engine) × (l.wire ≡ l.fn.wire);
  unopened : (H.state l.fn.house).known.present ≡ false → (W.state l.wire).seen.last_own ≡ (W.state l.fn.wire).seen.last_own;
  calls : Spent (H.state l.fn.house).known.present true l.counter (W.state l.fn.wire).calls (W.state l.wire).calls;
  wire : KeepsWire (W.state l.fn.wire) (W.state l.wire) (W.faults l.fn.wire) (W.faults l.wire);
}
