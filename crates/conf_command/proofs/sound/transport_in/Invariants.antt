use Rattle.std.proofs.Common.{◌≡◌, None, drop}
use Rattle.conf_rules.specs.CommandLine.{transport_in}
use Rattle.conf_command.proofs.sound.transport_in.Given as goal

abbrev pub invariant-loop-step : goal.invariant-loop-step
invariant-loop-step l = transport_in l.transport (drop l.step-index l.steps) ≡ transport_in None l.steps
