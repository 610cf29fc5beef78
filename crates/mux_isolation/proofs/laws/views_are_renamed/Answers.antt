-- So is what is seen of it.
use Rattle.mux_isolation.proofs.AllRuns.{views-alone}
use Rattle.mux_isolation.proofs.laws.views_are_renamed.Goals as goal

pub returns : goal.returns
returns c = views-alone
