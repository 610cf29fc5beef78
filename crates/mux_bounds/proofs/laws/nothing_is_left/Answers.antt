-- Closed matters leave nothing.
use Rattle.mux_history.proofs.RightLogs.{right-known}
use Rattle.mux_bounds.proofs.Closed.{leaves-nothing}
use Rattle.mux_bounds.proofs.laws.nothing_is_left.Goals as goal

pub returns : goal.returns
returns c = λ policy pid picks given marks left rows lawful right. leaves-nothing policy pid rows (right-known policy pid picks given marks left rows lawful right)
