-- The answer of the law.
use Rattle.mux_history.proofs.RightLogs.{right-known}
use Rattle.mux_history.proofs.Rooms.{rooms-hold}
use Rattle.mux_history.proofs.laws.rooms_never_fall.Goals as goal

pub returns : goal.returns
returns c = λ policy pid picks given marks left rows lawful right. rooms-hold policy pid rows (right-known policy pid picks given marks left rows lawful right)
