-- The answer of the law.
use Rattle.mux_history.proofs.RightLogs.{numbers-apart}
use Rattle.mux_history.proofs.laws.numbers_are_apart.Goals as goal

pub returns : goal.returns
returns c = numbers-apart
