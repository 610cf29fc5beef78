-- A longer log has more of the client's items.
use Rattle.mux_isolation.proofs.Renamed.{more-items}
use Rattle.mux_isolation.proofs.laws.cuts_cut_items.Goals as goal

pub returns : goal.returns
returns c = more-items
