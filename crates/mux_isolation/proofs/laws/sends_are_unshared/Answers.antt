-- What is sent.
use Rattle.mux_isolation.proofs.AllRuns.{sends-alone}
use Rattle.mux_isolation.proofs.laws.sends_are_unshared.Goals as goal

pub returns : goal.returns
returns c = sends-alone
