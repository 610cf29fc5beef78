use Rattle.std.proofs.Common.{rules}
use Rattle.house_relay.specs.Acts.{outcome_in, before_in, behind_in, replies_in}
use Rattle.house_relay.proofs.relay.Relay.dynamic.Goals as goal

pub returns : goal.returns
unfolding outcome_in before_in behind_in replies_in
returns c = search rules
