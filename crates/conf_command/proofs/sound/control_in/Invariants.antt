use Rattle.std.proofs.Common.{◌≡◌, drop}
use Rattle.conf_rules.specs.declared.control.MasterCommand.TheVariants.{Check}
use Rattle.conf_rules.specs.CommandLine.{control_in}
use Rattle.conf_command.proofs.sound.control_in.Given as goal

abbrev pub invariant-loop-step : goal.invariant-loop-step
invariant-loop-step l = control_in l.control (drop l.step-index l.steps) ≡ control_in Check l.steps
