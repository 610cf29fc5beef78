-- The answer of the law.
use Rattle.mux_history.proofs.FullLists.{full-of-channels}
use Rattle.mux_history.proofs.worked.limits.a_client_has_at_most_256_channels.Goals as goal

pub returns : goal.returns
returns c = full-of-channels
