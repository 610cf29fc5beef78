use Rattle.mux_state.proofs.Gains.{goes-gained}
use Rattle.mux_state.proofs.laws.a_client_is_received.Goals as goal

pub returns : goal.returns
returns g c = goes-gained g.H.Asks.may
