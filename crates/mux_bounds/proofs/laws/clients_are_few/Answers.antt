-- Few clients have open matters.
use Rattle.mux_history.proofs.RightLogs.{right-known}
use Rattle.mux_bounds.proofs.Matters.{matters-bounded}
use Rattle.mux_bounds.proofs.laws.clients_are_few.Goals as goal

pub returns : goal.returns
returns c = λ policy pid picks given marks left rows lawful right. matters-bounded policy pid rows (right-known policy pid picks given marks left rows lawful right)
