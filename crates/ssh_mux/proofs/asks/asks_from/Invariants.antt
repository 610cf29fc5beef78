use Rattle.std.proofs.Common.{◌≡◌, drop}
use Rattle.ssh_mux.specs.Asks.{asks_from}
use Rattle.ssh_mux.proofs.AskLemmas.{behind}
use Rattle.ssh_mux.proofs.asks.asks_from.Given as goal

abbrev pub invariant-loop-line : goal.invariant-loop-line
invariant-loop-line l = behind l.asks (asks_from (drop l.line-index l.lines)) ≡ asks_from l.lines
