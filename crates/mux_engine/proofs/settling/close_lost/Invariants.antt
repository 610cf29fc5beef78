use Rattle.std.proofs.Common.{◌≡◌, ℕ, Bool, List, Option, length}
use Rattle.mux_outside.specs.declared.house_mark.HouseMark.{HouseMark}
use Rattle.mux_outside.specs.declared.mark.Mark.{Mark}
use Rattle.mux_history.specs.Policy.{Policy}
use Rattle.mux_engine.specs.Rests.{StaysReady}
use Rattle.mux_engine.specs.Serving.{Serving}
use Rattle.mux_engine.specs.Sides.{RestsOf, Side}
use Rattle.mux_engine.specs.Wires.{IsIdleWire}
use Rattle.mux_engine.proofs.settling.close_lost.Given as goal

abbrev pub invariant-loop-client : goal.invariant-loop-client
invariant-loop-client g l = let W = g.W.Wire in let H = g.H.Asks in record {
  serving : (present : Bool) (first : _) (before : Option (List HouseMark)) (now : Side) (policy : Policy) (pid : ℕ) (start : Option (List Mark)) (failed : List ℕ) (given : ℕ) (todo : List ℕ) → Serving H.may (RestsOf H.state present first) before now policy pid start (W.state l.fn.wire).seen l.fn.held failed given todo l.fn.engine
      → Serving H.may (RestsOf H.state present first) before now policy pid start (W.state l.wire).seen l.held failed given todo l.engine;
  ready : StaysReady (W.state l.fn.wire).seen (W.state l.wire).seen l.fn.held l.held l.fn.engine l.engine;
  ended : l.engine.ended ≡ l.fn.engine.ended;
  unopened : (W.state l.wire).seen.last_own ≡ (W.state l.fn.wire).seen.last_own;
  wire : IsIdleWire (W.state l.fn.wire) (W.state l.wire) (W.faults l.fn.wire) (W.faults l.wire);
}

abbrev pub decreases-loop-client : goal.decreases-loop-client
decreases-loop-client g l = length l.engine.leaving
