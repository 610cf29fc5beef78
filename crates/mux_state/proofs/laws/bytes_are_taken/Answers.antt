use Rattle.mux_state.proofs.Takes.{goes-took}
use Rattle.mux_state.proofs.laws.bytes_are_taken.Goals as goal

pub returns : goal.returns
returns c = goes-took
