use Rattle.std.proofs.Common.{◌≡◌, drop}
use Rattle.conf_rules.specs.declared.asked.ConfigFrom.TheVariants.{Standard}
use Rattle.conf_rules.specs.CommandLine.{from_in}
use Rattle.conf_command.proofs.sound.from_in.Given as goal

abbrev pub invariant-loop-step : goal.invariant-loop-step
invariant-loop-step l = from_in l.from (drop l.step-index l.steps) ≡ from_in Standard l.steps
