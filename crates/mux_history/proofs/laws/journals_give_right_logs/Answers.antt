-- The answer of the law.
use Rattle.mux_history.proofs.Journals.{logs-right}
use Rattle.mux_history.proofs.laws.journals_give_right_logs.Goals as goal

pub returns : goal.returns
returns c = logs-right
