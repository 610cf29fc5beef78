use Rattle.std.proofs.Common.{◌≡◌, map, drop}
use Rattle.mux_history.specs.Policy.{is_for}
use Rattle.mux_history.specs.Rows.{any_of}
use Rattle.forward_rules.specs.Allows.{owned_entry_of}
use Rattle.conn_messages.specs.Keys.{key_of}
use Rattle.forward_rules.proofs.entry.any_for.Given as goal

abbrev pub invariant-loop-entry : goal.invariant-loop-entry
invariant-loop-entry l = any_of (is_for (key_of l.key)) (map owned_entry_of l.entries) ≡ any_of (is_for (key_of l.key)) (map owned_entry_of (drop l.entry-index l.entries))
