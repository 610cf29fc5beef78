-- Isolation holds over all runs.
use Rattle.mux_isolation.proofs.AllRuns.{isolation}
use Rattle.mux_isolation.proofs.laws.isolation.Goals as goal

pub returns : goal.returns
returns c = isolation
