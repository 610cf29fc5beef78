-- The answer of the law.
use Rattle.mux_history.proofs.AskersSteps.{askers-go-on}
use Rattle.mux_history.proofs.RightLogs.{right-known}
use Rattle.mux_history.proofs.laws.askers_go_on.Goals as goal

pub returns : goal.returns
returns c = λ policy pid picks given marks left rows lawful right. askers-go-on policy pid rows (right-known policy pid picks given marks left rows lawful right)
