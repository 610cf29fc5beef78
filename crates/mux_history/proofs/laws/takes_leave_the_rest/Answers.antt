-- The answer of the law.
use Rattle.mux_history.proofs.PendingSteps.{take-leaves}
use Rattle.mux_history.proofs.laws.takes_leave_the_rest.Goals as goal

pub returns : goal.returns
returns c = take-leaves
