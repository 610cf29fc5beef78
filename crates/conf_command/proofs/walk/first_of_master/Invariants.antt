use Rattle.std.proofs.Common.{◌≡◌, drop}
use Rattle.conf_rules.specs.CommandLine.{first_of_master}
use Rattle.conf_command.proofs.walk.first_of_master.Given as goal

abbrev pub invariant-loop-step : goal.invariant-loop-step
invariant-loop-step l = first_of_master (drop l.step-index l.steps) ≡ first_of_master l.steps
