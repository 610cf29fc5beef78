use Rattle.house_forward.proofs.Quieting.{each-quiet}
use Rattle.house_forward.proofs.laws.a_quiet_house_is_at_rest.Goals as goal

pub returns : goal.returns
returns c = each-quiet
