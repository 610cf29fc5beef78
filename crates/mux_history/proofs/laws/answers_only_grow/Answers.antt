-- The answer of the law.
use Rattle.mux_history.proofs.Answered.{answers-grow}
use Rattle.mux_history.proofs.laws.answers_only_grow.Goals as goal

pub returns : goal.returns
returns c = answers-grow
