use Rattle.conf_command.proofs.WalkLemmas.{walks_on, walk_ends, walk_done}
use Rattle.conf_command.proofs.walk.walk_over.Goals as goal

pub returns-in-Some : goal.returns-in-Some
returns-in-Some c = rw c.word-word.ensures (walk_ends c.args.steps.now c.loop-i.i c.index-steps-i.result _ _ _ _ c.loop-i-test.true c.index-steps-i.is c.in-Some.ensures c.loop-i.invariant)

pub loop-i-preserved : goal.loop-i-preserved
loop-i-preserved c = walks_on c.args.steps.now c.loop-i.i c.index-steps-i.result _ _ _ _ _ c.loop-i-test.true c.index-steps-i.is c.in_default.ensures c.mode_behind-mode.ensures c.going_behind-going.ensures c.loop-i.invariant

pub returns : goal.returns
returns c = walk_done c.args.steps.now c.loop-i.i _ _ _ c.loop-i-test.false c.loop-i.invariant
