use Rattle.std.proofs.Common.{◌≡◌, map, drop}
use Rattle.mux_history.specs.Policy.{read_entries}
use Rattle.forward_rules.specs.Allows.{owned_entry_of}
use Rattle.forward_rules.proofs.Lists.{behind}
use Rattle.forward_rules.proofs.reading.read_entries.Given as goal

abbrev pub invariant-loop-at : goal.invariant-loop-at
invariant-loop-at l = read_entries 0 l.texts ≡ behind (map owned_entry_of l.entries.items) (read_entries l.at (drop l.at l.texts))
