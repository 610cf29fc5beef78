use Rattle.std.proofs.Common.{◌≡◌, take}
use Rattle.mux_engine.specs.Wires.{Untouched}
use Rattle.mux_engine.proofs.Noted.{seen-with}
use Rattle.mux_engine.proofs.asking.apply.Given as goal

abbrev pub invariant-loop-mark : goal.invariant-loop-mark
invariant-loop-mark g l = let W = g.W.Wire in record {
  seen : (W.state l.wire).seen ≡ seen-with (take l.mark-index l.mark-items) (W.state l.fn.wire).seen;
  wire : Untouched (W.state l.fn.wire) (W.state l.wire) (W.faults l.fn.wire) (W.faults l.wire);
  own_faults : (W.faults l.wire).own ≡ (W.faults l.fn.wire).own;
}
