use Rattle.house_forward.proofs.Doing.{each-happens}
use Rattle.house_forward.proofs.laws.calls_make_things_happen.Goals as goal

pub returns : goal.returns
returns c = each-happens
