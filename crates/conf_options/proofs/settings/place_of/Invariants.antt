use Rattle.std.proofs.Common.{◌≡◌, [], take}
use Rattle.conf_rules.specs.Rows.{values_among}
use Rattle.conf_options.proofs.settings.place_of.Given as goal

abbrev pub invariant-loop-i : goal.invariant-loop-i
invariant-loop-i l = values_among l.key (take l.i l.all) ≡ []
