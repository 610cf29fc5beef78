use Rattle.std.proofs.Common.{◌≡◌, ◌++◌, drop}
use Rattle.std.specs.Prelude.{map}
use Rattle.std.specs.List.{flat_map}
use Rattle.forward_rules.specs.Allows.{owned_entry_of}
use Rattle.ssh_mux.specs.Here.{ends_permitted}
use Rattle.ssh_mux.proofs.here.ends_of.Given as goal

abbrev pub invariant-loop-entry : goal.invariant-loop-entry
invariant-loop-entry l = l.ends ++ flat_map ends_permitted (map owned_entry_of (drop l.entry-index l.entries)) ≡ flat_map ends_permitted (map owned_entry_of l.entries)
