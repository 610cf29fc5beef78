use Rattle.house_forward.proofs.Lived.{each-rests}
use Rattle.house_forward.proofs.laws.relays_of_a_quiet_house_rest.Goals as goal

pub returns : goal.returns
returns c = each-rests
