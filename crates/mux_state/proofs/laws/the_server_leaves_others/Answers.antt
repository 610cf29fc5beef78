use Rattle.mux_state.proofs.Others.{heard-leaves-idle}
use Rattle.mux_state.proofs.laws.the_server_leaves_others.Goals as goal

pub returns : goal.returns
returns c = heard-leaves-idle
