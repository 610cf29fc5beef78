use Rattle.house_relay.proofs.Whole.{relays, keeps}
use Rattle.house_relay.proofs.laws.relays_relay.Goals as goal

pub returns : goal.returns
returns c = record { relays = relays; keeps = keeps }
