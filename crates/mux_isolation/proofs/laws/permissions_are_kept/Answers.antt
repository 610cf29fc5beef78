-- What is opened and listened on is permitted.
use Rattle.mux_history.proofs.RightLogs.{right-known}
use Rattle.mux_isolation.proofs.Allowed.{ups-allowed}
use Rattle.mux_isolation.proofs.Recorded.{downs-allowed}
use Rattle.mux_isolation.proofs.Mays.{permissions}
use Rattle.mux_isolation.proofs.laws.permissions_are_kept.Goals as goal

pub returns : goal.returns
returns c = λ policy pid picks given marks left rows lawful right. permissions policy rows (ups-allowed policy pid rows (right-known policy pid picks given marks left rows lawful right)) (downs-allowed policy pid rows (right-known policy pid picks given marks left rows lawful right))
