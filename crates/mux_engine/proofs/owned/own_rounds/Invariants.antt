use Rattle.std.proofs.Common.{◌≡◌, ℕ, Bool, List, [], Option}
use Rattle.mux_outside.specs.HouseCalls.{HandsOn, HouseCall}
use Rattle.mux_outside.specs.declared.house_mark.HouseMark.{HouseMark}
use Rattle.mux_outside.specs.declared.mark.Mark.{Mark}
use Rattle.mux_history.specs.Policy.{Policy}
use Rattle.mux_state.specs.State.{EngineState}
use Rattle.mux_engine.specs.Called.{Handed}
use Rattle.mux_engine.specs.Owned.{streams_left_of}
use Rattle.mux_engine.specs.Serving.{Serving}
use Rattle.mux_engine.specs.Sides.{RestsOf, SameSockets, Side}
use Rattle.mux_engine.specs.SilentAnswers.{AcceptsAs}
use Rattle.mux_engine.proofs.Owning.{JustTook}
use Rattle.mux_engine.proofs.Wired.{WorkedOwn}
use Rattle.mux_engine.proofs.owned.own_rounds.Given as goal

abbrev pub invariant-loop-wire : goal.invariant-loop-wire
invariant-loop-wire g l = let W = g.W.Wire in let H = g.H.Asks in record {
  serving : (present : Bool) (first : _) (before : Option (List HouseMark)) (now : Side) (policy : Policy) (pid : ℕ) (start : Option (List Mark)) (given : ℕ) (todo : List ℕ) (s : EngineState) → AcceptsAs (W.state l.fn.wire).seen s → now.unnoted ≡ [] → HandsOn (H.state first).stands (H.state l.fn.house).stands now.calls → Serving H.may (RestsOf H.state present first) before now policy pid start (W.state l.fn.wire).seen l.fn.held l.fn.failed given todo s
      → Handed (H.state first).stands (H.state l.house).stands (λ (calls : List HouseCall). Serving H.may (RestsOf H.state present first) before (record now { calls = calls }) policy pid start (W.state l.wire).seen l.held l.failed given todo s);
  house : JustTook (H.state l.fn.house) (H.state l.house);
  places : SameSockets (W.state l.fn.wire).seen (W.state l.wire).seen;
  held_is : l.held ≡ (W.state l.wire).seen.blocked;
  wire : WorkedOwn (W.state l.fn.wire) (W.state l.wire) (W.faults l.fn.wire) (W.faults l.wire);
}

abbrev pub decreases-loop-wire : goal.decreases-loop-wire
decreases-loop-wire g l = streams_left_of l.failed l.own
