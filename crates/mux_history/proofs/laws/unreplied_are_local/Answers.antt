-- The answer of the law.
use Rattle.mux_history.proofs.AskersSteps.{each-local}
use Rattle.mux_history.proofs.RightLogs.{LogKnown, right-known}
use Rattle.mux_history.proofs.laws.unreplied_are_local.Goals as goal

pub returns : goal.returns
returns c = λ policy pid picks given marks left rows lawful right.
    let known : LogKnown policy pid rows = right-known policy pid picks given marks left rows lawful right in
    each-local policy pid rows known.each known.orderly
