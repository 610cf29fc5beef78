-- What was accepted, too.
use Rattle.mux_history.specs.Journal.{log_of_journal}
use Rattle.mux_history.specs.Settings.{by_lists}
use Rattle.mux_history.proofs.Journals.{logs-right}
use Rattle.mux_isolation.proofs.AllRuns.{gives-alone}
use Rattle.mux_isolation.proofs.Bytes.{takes-alike}
use Rattle.mux_isolation.proofs.laws.takes_are_unshared.Goals as goal

pub returns : goal.returns
returns c = λ policy pid picks given marks lawful fresh takes.
    takes-alike (by_lists policy pid picks given) marks takes
    (gives-alone policy pid picks given marks 0 (log_of_journal (by_lists policy pid picks given) marks) lawful ((logs-right policy pid picks given marks).whole fresh))
