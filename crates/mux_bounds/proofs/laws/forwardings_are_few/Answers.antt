-- A client has few forwardings.
use Rattle.mux_history.proofs.RightLogs.{right-known}
use Rattle.mux_bounds.proofs.Offers.{forwardings-bounded}
use Rattle.mux_bounds.proofs.laws.forwardings_are_few.Goals as goal

pub returns : goal.returns
returns c = λ policy pid picks given marks left rows lawful right. forwardings-bounded policy pid rows (right-known policy pid picks given marks left rows lawful right)
