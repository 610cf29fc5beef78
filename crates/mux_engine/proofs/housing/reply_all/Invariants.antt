use Rattle.std.proofs.Common.{◌≡◌, ◌∷◌, None, length}
use Rattle.mux_state.specs.Events.{here}
use Rattle.mux_engine.specs.Serving.{scene}
use Rattle.mux_engine.proofs.Going.{Goes}
use Rattle.mux_engine.proofs.housing.reply_all.Given as goal

abbrev pub invariant-loop-wire : goal.invariant-loop-wire
invariant-loop-wire g l = let W = g.W.Wire in let H = g.H.Asks in record {
  goes : Goes H.may H.state l.fn.house l.house (W.state l.fn.wire) (W.state l.wire) (W.faults l.fn.wire) (W.faults l.wire) (scene (W.state l.fn.wire) l.fn.lists l.fn.engine) (scene (W.state l.wire) l.lists l.engine) (0 ∷ here l.fn.engine) (0 ∷ here l.engine);
  held_is : l.lists.held ≡ (W.state l.wire).seen.blocked;
  own : l.lists.own ≡ l.fn.lists.own;
  on : l.engine.ended ≡ None;
}

abbrev pub decreases-loop-wire : goal.decreases-loop-wire
decreases-loop-wire g l = length (g.H.Asks.state l.house).known.asks
