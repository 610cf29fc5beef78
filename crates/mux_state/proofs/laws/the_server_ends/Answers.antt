use Rattle.mux_state.proofs.Over.{goes-ended, goes-failed, goes-unwritten}
use Rattle.mux_state.proofs.laws.the_server_ends.Goals as goal

pub returns : goal.returns
returns c = record { ends = goes-ended; fails = goes-failed; unwritten = goes-unwritten }
