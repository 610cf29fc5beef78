use Rattle.std.proofs.Common.{◌≡◌, ◌++◌, ℕ, List, Option, length}
use Rattle.mux_outside.specs.declared.mark.Mark.{Mark}
use Rattle.mux_client.specs.Talking.{Talking, ShowsOn}
use Rattle.mux_client.proofs.talking.read.Given as goal

abbrev pub invariant-loop : goal.invariant-loop
invariant-loop g l = let S = g.S.Sink in record {
  talking : (start recorded : Option (List Mark)) (held shown : List ℕ) → Talking l.asks start recorded held shown l.fn.client
      → ShowsOn (S.recorded l.fn.out) (S.recorded l.out) l.fn.out l.out (λ more. Talking l.asks start recorded held (shown ++ more) l.client);
  faults : S.faults l.out ≡ S.faults l.fn.out;
}

abbrev pub decreases-loop : goal.decreases-loop
decreases-loop g l = length l.client.framer.rest
