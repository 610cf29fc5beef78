use Rattle.mux_pieces.proofs.Pieces.{goes-on}
use Rattle.mux_pieces.proofs.laws.journals_go_on_alike.Goals as goal

pub returns : goal.returns
returns c = goes-on
