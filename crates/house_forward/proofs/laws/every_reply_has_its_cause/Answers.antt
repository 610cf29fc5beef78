use Rattle.house_forward.proofs.Caused.{each-served, each-answer}
use Rattle.house_forward.proofs.Refused.{each-refused}
use Rattle.house_forward.proofs.laws.every_reply_has_its_cause.Goals as goal

pub returns : goal.returns
returns c = record { served = each-served; refused = each-refused; answers = each-answer }
