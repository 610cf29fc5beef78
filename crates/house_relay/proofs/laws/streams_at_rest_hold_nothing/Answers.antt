use Rattle.house_relay.proofs.Whole.{empty-at-rest}
use Rattle.house_relay.proofs.laws.streams_at_rest_hold_nothing.Goals as goal

pub returns : goal.returns
returns c = empty-at-rest
