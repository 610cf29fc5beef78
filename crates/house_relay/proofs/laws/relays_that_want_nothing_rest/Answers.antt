use Rattle.house_relay.proofs.Resting.{silent, rests}
use Rattle.house_relay.proofs.laws.relays_that_want_nothing_rest.Goals as goal

pub returns : goal.returns
returns c = record { silent = silent; rests = rests }
