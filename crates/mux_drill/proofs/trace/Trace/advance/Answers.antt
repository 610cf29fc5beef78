use Rattle.mux_drill.proofs.TraceLemmas.{next_trace}
use Rattle.mux_drill.proofs.trace.Trace.advance.Goals as goal

pub invariant_of-self : goal.invariant_of-self
invariant_of-self c =
    next_trace c.self.inside.plan c.self.inside.stage c.stage_after-stage.result c.self.inside.x c.x_after-x.result c.self.inside.tally c.tally_after-tally.result c.self.invariant c.stage_after-stage.ensures c.x_after-x.ensures c.tally_after-tally.ensures
