-- The answer of the law.
use Rattle.mux_history.proofs.Written.{adds-up}
use Rattle.mux_history.proofs.laws.written_adds_up.Goals as goal

pub returns : goal.returns
returns c = adds-up
