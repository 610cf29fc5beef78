use Rattle.std.proofs.Common.{◌≡◌, drop}
use Rattle.conf_rules.specs.CommandLine.{host_in}
use Rattle.conf_command.proofs.sound.host_in.Given as goal

abbrev pub invariant-loop-step : goal.invariant-loop-step
invariant-loop-step l = host_in (drop l.step-index l.steps) ≡ host_in l.steps
