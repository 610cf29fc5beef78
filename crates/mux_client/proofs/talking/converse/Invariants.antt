use Rattle.std.proofs.Common.{◌≡◌}
use Rattle.mux_client.specs.declared.stage.TalkStage.TheVariants.{Greets}
use Rattle.mux_client.specs.Counted.{HasReceived, CountsOfWholeTalk}
use Rattle.mux_client.specs.Talking.{IsBetween, SameWire, ShowsOn, Talking}
use Rattle.mux_client.proofs.talking.converse.Given as goal

abbrev pub invariant-loop : goal.invariant-loop
invariant-loop g l = let W = g.W.Wire in let S = g.S.Sink in record {
  talking : ShowsOn (S.recorded l.fn.out) (S.recorded l.out) l.fn.out l.out (λ shown. Talking l.asks (W.state l.fn.wire).seen.recorded (W.state l.wire).seen.recorded l.held shown l.client);
  between : IsBetween l.client l.held (W.state l.wire).seen;
  first : l.counter ≡ 0 → l.client.stage ≡ Greets;
  heard : HasReceived Greets l.client.stage (W.state l.fn.wire).calls (W.state l.wire).calls;
  calls : CountsOfWholeTalk l.counter (W.state l.fn.wire).calls (W.state l.wire).calls;
  cause : W.faults l.wire ≡ W.faults l.fn.wire;
  sink : S.faults l.out ≡ S.faults l.fn.out;
  wire : SameWire (W.state l.fn.wire) (W.state l.wire);
}
