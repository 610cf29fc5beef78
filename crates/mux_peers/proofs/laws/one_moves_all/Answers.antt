use Rattle.mux_peers.proofs.Ones.{one-moves-all}
use Rattle.mux_peers.proofs.laws.one_moves_all.Goals as goal

pub returns : goal.returns
returns c = one-moves-all
