use Rattle.std.proofs.Common.{◌≡◌, [], ℕ, List, Option, length}
use Rattle.mux_outside.specs.declared.mark.Mark.{Mark}
use Rattle.mux_client.specs.declared.asks.Asks.{Asks}
use Rattle.mux_client.specs.Counted.{CountsOfWholeTalk}
use Rattle.mux_client.specs.Talking.{IsBetween, SameWire, Talking}
use Rattle.mux_client.proofs.talking.offer.Given as goal

abbrev pub invariant-loop : goal.invariant-loop
invariant-loop g l = let W = g.W.Wire in record {
  talking : (asks : Asks) (start : Option (List Mark)) (shown : List ℕ) → Talking asks start (W.state l.fn.wire).seen.recorded l.fn.held shown l.fn.client → Talking asks start (W.state l.wire).seen.recorded l.held shown l.client;
  between : IsBetween l.client l.held (W.state l.wire).seen;
  free : l.held ≡ [];
  stage : l.client.stage ≡ l.fn.client.stage;
  calls : CountsOfWholeTalk 0 (W.state l.fn.wire).calls (W.state l.wire).calls;
  cause : W.faults l.wire ≡ W.faults l.fn.wire;
  wire : SameWire (W.state l.fn.wire) (W.state l.wire);
}

abbrev pub decreases-loop : goal.decreases-loop
decreases-loop g l = length l.client.queue
