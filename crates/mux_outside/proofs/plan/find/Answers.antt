use Rattle.mux_outside.proofs.ScriptLemmas.{over_place}
use Rattle.std.proofs.Common.{◌∙◌, sym}
use Rattle.mux_outside.proofs.plan.find.Goals as goal

pub loop-step-preserved : goal.loop-step-preserved
loop-step-preserved c =
    over_place _ c.args.steps.now c.loop-step.step c.loop-step.offset c.index-steps-step.result c.loop-step-test.true c.index-steps-step.is (sym c.is_due.ensures ∙ c.if-is_due.false)
    ∙ c.loop-step.invariant
