use Rattle.mux_pieces.proofs.Orders.{bytes-make}
use Rattle.mux_pieces.proofs.laws.bytes_make_items.Goals as goal

pub returns : goal.returns
returns c = bytes-make
