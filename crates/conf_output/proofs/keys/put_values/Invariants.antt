use Rattle.std.proofs.Common.{◌≡◌, ◌++◌, drop}
use Rattle.std.specs.List.{flat_map}
use Rattle.conf_rules.specs.Values.{spelled_value}
use Rattle.conf_rules.specs.Rows.{values_among}
use Rattle.conf_output.specs.Shown.{lines_of_key}
use Rattle.conf_output.proofs.keys.put_values.Given as goal

abbrev pub invariant-loop-other : goal.invariant-loop-other
invariant-loop-other l = l.out ++ lines_of_key l.key (flat_map spelled_value (values_among l.key (drop l.other-index l.given))) ≡ l.initial.out ++ lines_of_key l.key (flat_map spelled_value (values_among l.key l.given))
