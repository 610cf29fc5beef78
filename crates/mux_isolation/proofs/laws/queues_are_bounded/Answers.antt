-- Queues are bounded.
use Rattle.mux_history.proofs.RightLogs.{right-known}
use Rattle.mux_isolation.proofs.Bounded.{queues-bounded}
use Rattle.mux_isolation.proofs.laws.queues_are_bounded.Goals as goal

pub returns : goal.returns
returns c = λ policy pid picks given marks left rows lawful right. queues-bounded policy pid rows (right-known policy pid picks given marks left rows lawful right)
