use Rattle.std.proofs.Common.{◌≡◌, ◌++◌, drop}
use Rattle.std.specs.List.{flat_map}
use Rattle.conf_rules.specs.Listing.{listed_line}
use Rattle.conf_output.proofs.spelling.put_names.Given as goal

abbrev pub invariant-loop-text : goal.invariant-loop-text
invariant-loop-text l = l.out ++ flat_map (listed_line l.name) (drop l.text-index l.names) ≡ l.initial.out ++ flat_map (listed_line l.name) l.names
