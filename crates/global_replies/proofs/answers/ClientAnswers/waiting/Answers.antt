use Rattle.std.proofs.Common.{rules}
use Rattle.global_replies.proofs.Answering.{leaves-unanswered}
use Rattle.global_replies.proofs.answers.ClientAnswers.waiting.Goals as goal

pub returns-clause-stands : goal.returns-clause-stands
returns-clause-stands c = leaves-unanswered c.args.self.now c.len.result (search rules)
