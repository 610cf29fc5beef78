use Rattle.std.proofs.Common.{rules}
use Rattle.global_replies.proofs.Answering.{sent-goes-on}
use Rattle.global_replies.proofs.answers.ClientAnswers.awaited.Goals as goal

pub returns-clause-stands : goal.returns-clause-stands
returns-clause-stands c = sent-goes-on c.args.self.now c.push.new.self.items (search rules)
