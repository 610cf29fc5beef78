-- The answer of the law.
use Rattle.mux_history.proofs.RightLogs.{right-known}
use Rattle.mux_history.proofs.Indexed.{one-index}
use Rattle.mux_history.proofs.laws.one_index_serves.Goals as goal

pub returns : goal.returns
returns c = λ policy pid picks given marks left rows lawful right. one-index policy pid rows (right-known policy pid picks given marks left rows lawful right)
