use Rattle.mux_state.proofs.Comes.{goes-in}
use Rattle.mux_state.proofs.laws.a_client_comes.Goals as goal

pub returns : goal.returns
returns c = goes-in
