use Rattle.mux_peers.proofs.Adds.{losses-add-for-one}
use Rattle.mux_peers.proofs.laws.losses_add_for_one.Goals as goal

pub returns : goal.returns
returns c = losses-add-for-one
