-- The master's own words are few.
use Rattle.mux_history.proofs.RightLogs.{right-known}
use Rattle.mux_isolation.proofs.OwnSayings.{own-words}
use Rattle.mux_isolation.proofs.laws.master_sends_little.Goals as goal

pub returns : goal.returns
returns c = λ policy pid picks given marks left rows lawful right. own-words policy pid rows (right-known policy pid picks given marks left rows lawful right)
