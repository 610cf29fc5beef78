use Rattle.house_forward.proofs.Starting.{each-start}
use Rattle.house_forward.proofs.laws.at_rest_each_forwarding_of_the_start_has_begun.Goals as goal

pub returns : goal.returns
returns c = each-start
