-- A client holds few channels.
use Rattle.mux_history.proofs.RightLogs.{right-known}
use Rattle.mux_bounds.proofs.Few.{channels-bounded}
use Rattle.mux_bounds.proofs.laws.channels_are_few.Goals as goal

pub returns : goal.returns
returns c = λ policy pid picks given marks left rows lawful right. channels-bounded policy pid rows (right-known policy pid picks given marks left rows lawful right)
