-- Rows of others leave a client's view.
use Rattle.mux_isolation.proofs.Views.{idle-view}
use Rattle.mux_isolation.proofs.laws.idle_rows_leave_views.Goals as goal

pub returns : goal.returns
returns c = idle-view
