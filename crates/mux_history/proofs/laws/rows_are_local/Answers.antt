-- The answer of the law.
use Rattle.mux_history.proofs.Locality.{rows-local}
use Rattle.mux_history.proofs.laws.rows_are_local.Goals as goal

pub returns : goal.returns
returns c = rows-local
