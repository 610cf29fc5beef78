-- Replies reach their askers.
use Rattle.mux_history.proofs.RightLogs.{right-known}
use Rattle.mux_isolation.proofs.Replied.{askers-served}
use Rattle.mux_isolation.proofs.laws.askers_are_served.Goals as goal

pub returns : goal.returns
returns c = λ policy pid picks given marks left rows lawful right. askers-served policy pid rows (right-known policy pid picks given marks left rows lawful right)
