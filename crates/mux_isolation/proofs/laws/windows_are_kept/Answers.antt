-- Data is within its window.
use Rattle.mux_history.proofs.RightLogs.{right-known}
use Rattle.mux_isolation.proofs.Allowed.{ups-allowed}
use Rattle.mux_isolation.proofs.Recorded.{downs-allowed}
use Rattle.mux_isolation.proofs.Mays.{windows}
use Rattle.mux_isolation.proofs.laws.windows_are_kept.Goals as goal

pub returns : goal.returns
returns c = λ policy pid picks given marks left rows lawful right. windows policy rows (ups-allowed policy pid rows (right-known policy pid picks given marks left rows lawful right)) (downs-allowed policy pid rows (right-known policy pid picks given marks left rows lawful right))
