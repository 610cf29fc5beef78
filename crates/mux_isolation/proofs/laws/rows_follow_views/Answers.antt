-- A client's rows follow its view.
use Rattle.mux_isolation.proofs.Views.{steps-alike}
use Rattle.mux_isolation.proofs.laws.rows_follow_views.Goals as goal

pub returns : goal.returns
returns c = steps-alike
