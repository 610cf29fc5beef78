use Rattle.house_forward.proofs.Resolving.{each-awaits}
use Rattle.house_forward.proofs.laws.at_rest_asks_wait_for_the_server.Goals as goal

pub returns : goal.returns
returns c = each-awaits
