use Rattle.std.proofs.Common.{arith, Some}
use Rattle.std.proofs.lemmas.Grind.{common_steps}
use Rattle.global_replies.proofs.Queues.{reply-goes-on}
use Rattle.global_replies.proofs.askers.Askers.answered.Goals as goal

pub returns-clause-stands : goal.returns-clause-stands
returns-clause-stands c = reply-goes-on c.args.self.now _ (Some (c.in_ok-asked.asked.client, c.in_ok-asked.asked.what)) (grind (arith, common_steps)) (grind (arith, common_steps))
