-- The answer of the law.
use Rattle.mux_history.proofs.Steps.{held-step}
use Rattle.mux_history.proofs.laws.held_goes_on.Goals as goal

pub returns : goal.returns
returns c = held-step
