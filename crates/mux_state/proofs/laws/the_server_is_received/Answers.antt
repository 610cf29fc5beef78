use Rattle.mux_state.proofs.Receiving.{goes-heard}
use Rattle.mux_state.proofs.laws.the_server_is_received.Goals as goal

pub returns : goal.returns
returns c = goes-heard
