-- The answer of the law.
use Rattle.mux_history.proofs.CurrentSteps.{current-step}
use Rattle.mux_history.proofs.laws.current_goes_on.Goals as goal

pub returns : goal.returns
returns c = current-step
