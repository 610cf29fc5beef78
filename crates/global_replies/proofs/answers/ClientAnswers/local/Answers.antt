use Rattle.std.proofs.Common.{arith, true, false}
use Rattle.std.proofs.lemmas.Grind.{common_steps}
use Rattle.global_replies.proofs.Answering.{refusal-goes-on}
use Rattle.global_replies.proofs.answers.ClientAnswers.local.Goals as goal

pub returns-then-is_empty-clause-stands : goal.returns-then-is_empty-clause-stands
returns-then-is_empty-clause-stands c = refusal-goes-on c.args.self.now c.args.self.now true (grind (arith, common_steps)) (grind (arith, common_steps))

pub returns-clause-stands : goal.returns-clause-stands
returns-clause-stands c = refusal-goes-on c.args.self.now c.push.new.self.items false (grind (arith, common_steps)) (grind (arith, common_steps))
