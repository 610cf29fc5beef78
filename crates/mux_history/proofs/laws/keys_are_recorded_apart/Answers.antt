-- The answer of the law.
use Rattle.mux_history.proofs.SameKeys.{is-key, key-is}
use Rattle.mux_history.proofs.laws.keys_are_recorded_apart.Goals as goal

pub returns : goal.returns
returns c = λ a b. (key-is a b, is-key a b)
