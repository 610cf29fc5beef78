use Rattle.house_forward.proofs.Greeting.{each-greets}
use Rattle.house_forward.proofs.laws.the_greeting_is_sent_once_and_first.Goals as goal

pub returns : goal.returns
returns c = each-greets
