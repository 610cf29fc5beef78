use Rattle.mux_state.proofs.Loses.{goes-lost}
use Rattle.mux_state.proofs.Still.{goes-unlost}
use Rattle.mux_state.proofs.laws.a_client_is_lost.Goals as goal

pub returns : goal.returns
returns c = record { goes = goes-lost; stays = goes-unlost }
