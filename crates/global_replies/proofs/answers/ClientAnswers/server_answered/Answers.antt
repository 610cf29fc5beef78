use Rattle.std.proofs.Common.{arith}
use Rattle.std.proofs.lemmas.Grind.{common_steps}
use Rattle.global_replies.proofs.Answering.{answer-goes-on}
use Rattle.global_replies.proofs.answers.ClientAnswers.server_answered.Goals as goal

pub returns-clause-stands : goal.returns-clause-stands
returns-clause-stands c = answer-goes-on c.args.self.now _ c.leading-refusals.result (grind (arith, common_steps)) (grind (arith, common_steps))
