use Rattle.std.proofs.Common.{◌≡◌, ◌++◌, drop}
use Rattle.conf_rules.specs.CommandLine.{permit_words}
use Rattle.conf_command.proofs.permits.permits_of.Given as goal

abbrev pub invariant-loop-step : goal.invariant-loop-step
invariant-loop-step l = l.all ++ permit_words l.list (drop l.step-index l.steps) ≡ permit_words l.list l.steps
