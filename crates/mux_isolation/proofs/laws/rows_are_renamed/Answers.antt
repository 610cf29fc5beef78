-- Each row of a client is its row alone.
use Rattle.mux_isolation.proofs.AllRuns.{rows-alone}
use Rattle.mux_isolation.proofs.laws.rows_are_renamed.Goals as goal

pub returns : goal.returns
returns c = rows-alone
