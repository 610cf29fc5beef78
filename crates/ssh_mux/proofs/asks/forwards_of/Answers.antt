use Rattle.ssh_mux.proofs.AskLemmas.{may-forward}
use Rattle.ssh_mux.proofs.asks.forwards_of.Goals as goal

pub returns-clause-may : goal.returns-clause-may
returns-clause-may c = may-forward c.args.asked.now.lines _ c.requires.named (rw c.as_slice.ensures at c.in_ok-what.ensures)
