-- The answer of the law.
use Rattle.mux_history.proofs.OwnRows.{idle_row}
use Rattle.mux_history.proofs.laws.others_stay.Goals as goal

pub returns : goal.returns
returns c = idle_row
