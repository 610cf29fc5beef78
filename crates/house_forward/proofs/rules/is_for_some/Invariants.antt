use Rattle.std.proofs.Common.{◌≡◌, drop}
use Rattle.std.specs.List.{list_any}
use Rattle.house_forward.specs.Rules.{is_listen_entry_for}
use Rattle.house_forward.proofs.rules.is_for_some.Given as goal

abbrev pub invariant-loop-entry : goal.invariant-loop-entry
invariant-loop-entry l = list_any (is_listen_entry_for l.host l.port) l.entries ≡ list_any (is_listen_entry_for l.host l.port) (drop l.entry-index l.entries)
