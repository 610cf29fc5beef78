use Rattle.mux_pieces.proofs.Pieces.{parts-alike}
use Rattle.mux_pieces.proofs.laws.parts_give_alike.Goals as goal

pub returns : goal.returns
returns c = parts-alike
