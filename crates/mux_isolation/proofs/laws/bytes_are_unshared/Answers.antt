-- Byte for byte.
use Rattle.mux_isolation.proofs.AllRuns.{gives-alone}
use Rattle.mux_isolation.proofs.laws.bytes_are_unshared.Goals as goal

pub returns : goal.returns
returns c = gives-alone
