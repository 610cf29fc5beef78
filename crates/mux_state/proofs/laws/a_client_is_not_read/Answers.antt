use Rattle.mux_state.proofs.Still.{goes-unheard}
use Rattle.mux_state.proofs.laws.a_client_is_not_read.Goals as goal

pub returns : goal.returns
returns g c = goes-unheard g.H.Asks.may
