use Rattle.mux_state.proofs.Over.{goes-over}
use Rattle.mux_state.proofs.laws.an_end_stays.Goals as goal

pub returns : goal.returns
returns c = goes-over
