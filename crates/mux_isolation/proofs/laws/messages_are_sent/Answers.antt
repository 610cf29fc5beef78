-- What a client sends goes up.
use Rattle.mux_history.proofs.RightLogs.{right-known}
use Rattle.mux_isolation.proofs.Passed.{passed}
use Rattle.mux_isolation.proofs.laws.messages_are_sent.Goals as goal

pub returns : goal.returns
returns c = λ policy pid picks given marks left rows lawful right. passed policy pid rows (right-known policy pid picks given marks left rows lawful right)
