-- The answer of the law.
use Rattle.std.proofs.Common.{sym}
use Rattle.mux_history.proofs.Local.{channels-local}
use Rattle.mux_history.proofs.ForwardsLocal.{forwardings-local}
use Rattle.mux_history.proofs.Askers.{asks-local}
use Rattle.mux_history.proofs.laws.look_ups_are_local.Goals as goal

pub returns : goal.returns
returns c = λ k rows. record { channels = sym (channels-local k rows); forwardings = sym (forwardings-local k rows); asks = sym (asks-local k rows) }
