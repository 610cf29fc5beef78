-- A client's view is one of its own rows.
use Rattle.mux_isolation.proofs.Views.{cut-view}
use Rattle.mux_isolation.proofs.laws.cuts_keep_views.Goals as goal

pub returns : goal.returns
returns c = cut-view
