use Rattle.std.proofs.Common.{◌≡◌, ◌++◌, drop}
use Rattle.std.specs.List.{flat_map}
use Rattle.conf_rules.specs.Rows.{values_among}
use Rattle.ssh_mux.specs.Asks.{forward_kind_of_key}
use Rattle.ssh_mux.specs.Starts.{value_starts}
use Rattle.ssh_mux.proofs.starts.add_starts.Given as goal

abbrev pub invariant-loop-other : goal.invariant-loop-other
invariant-loop-other l = l.asks ++ flat_map (value_starts (forward_kind_of_key l.key)) (values_among l.key (drop l.other-index l.given)) ≡ l.initial.asks ++ flat_map (value_starts (forward_kind_of_key l.key)) (values_among l.key l.given)
