use Rattle.std.proofs.Common.{◌≡◌, ◌++◌, drop, flat_map}
use Rattle.conf_rules.specs.CommandLine.{line_in}
use Rattle.conf_command.proofs.sound.lines_of.Given as goal

abbrev pub invariant-loop-step : goal.invariant-loop-step
invariant-loop-step l = l.lines ++ flat_map line_in (drop l.step-index l.steps) ≡ flat_map line_in l.steps
