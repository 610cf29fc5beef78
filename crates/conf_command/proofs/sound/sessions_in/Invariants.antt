use Rattle.std.proofs.Common.{◌≡◌, drop, true}
use Rattle.conf_rules.specs.CommandLine.{sessions_in}
use Rattle.conf_command.proofs.sound.sessions_in.Given as goal

abbrev pub invariant-loop-step : goal.invariant-loop-step
invariant-loop-step l = sessions_in l.sessions (drop l.step-index l.steps) ≡ sessions_in true l.steps
