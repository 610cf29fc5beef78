-- The answer of the law.
use Rattle.mux_history.proofs.Picks.{picks-taken}
use Rattle.mux_history.proofs.laws.picks_are_taken.Goals as goal

pub returns : goal.returns
returns c = picks-taken
