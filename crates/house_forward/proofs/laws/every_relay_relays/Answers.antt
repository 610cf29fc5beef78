use Rattle.house_forward.proofs.Lived.{each-relays, each-keeps}
use Rattle.house_forward.proofs.laws.every_relay_relays.Goals as goal

pub returns : goal.returns
returns c = record { relays = each-relays; keeps = each-keeps }
