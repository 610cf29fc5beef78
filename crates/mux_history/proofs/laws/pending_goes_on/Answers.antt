-- The answer of the law.
use Rattle.mux_history.proofs.PendingSteps.{pending-step}
use Rattle.mux_history.proofs.laws.pending_goes_on.Goals as goal

pub returns : goal.returns
returns c = pending-step
