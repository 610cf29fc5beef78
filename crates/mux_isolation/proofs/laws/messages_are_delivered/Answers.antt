-- What the server sends is recorded.
use Rattle.mux_history.proofs.RightLogs.{right-known}
use Rattle.mux_isolation.proofs.Delivered.{delivered}
use Rattle.mux_isolation.proofs.laws.messages_are_delivered.Goals as goal

pub returns : goal.returns
returns c = λ policy pid picks given marks left rows lawful right. delivered policy pid rows (right-known policy pid picks given marks left rows lawful right)
