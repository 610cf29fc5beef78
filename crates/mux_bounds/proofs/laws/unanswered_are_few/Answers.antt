-- A client that is not lost has few requests without an answer.
use Rattle.mux_history.proofs.RightLogs.{right-known}
use Rattle.mux_bounds.proofs.Unanswered.{unanswered-bounded}
use Rattle.mux_bounds.proofs.laws.unanswered_are_few.Goals as goal

pub returns : goal.returns
returns c = λ policy pid picks given marks left rows lawful right. unanswered-bounded policy pid rows (right-known policy pid picks given marks left rows lawful right)
