-- A client has few requests without a reply.
use Rattle.mux_history.proofs.RightLogs.{right-known}
use Rattle.mux_bounds.proofs.Asked.{requests-bounded}
use Rattle.mux_bounds.proofs.laws.requests_are_few.Goals as goal

pub returns : goal.returns
returns c = λ policy pid picks given marks left rows lawful right. requests-bounded policy pid rows (right-known policy pid picks given marks left rows lawful right)
