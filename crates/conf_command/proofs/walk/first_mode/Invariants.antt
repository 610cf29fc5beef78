use Rattle.std.proofs.Common.{◌≡◌, drop}
use Rattle.conf_rules.specs.CommandLine.{first_mode}
use Rattle.conf_command.proofs.walk.first_mode.Given as goal

abbrev pub invariant-loop-step : goal.invariant-loop-step
invariant-loop-step l = first_mode (drop l.step-index l.steps) ≡ first_mode l.steps
