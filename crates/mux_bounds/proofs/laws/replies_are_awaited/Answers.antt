-- Replies come after their requests.
use Rattle.mux_history.proofs.RightLogs.{LogKnown, right-known}
use Rattle.mux_bounds.proofs.Early.{each-awaited}
use Rattle.mux_bounds.proofs.laws.replies_are_awaited.Goals as goal

pub returns : goal.returns
returns c = λ policy pid picks given marks left rows lawful right.
    let known : LogKnown policy pid rows = right-known policy pid picks given marks left rows lawful right in
    each-awaited policy pid rows known.each known.orderly
