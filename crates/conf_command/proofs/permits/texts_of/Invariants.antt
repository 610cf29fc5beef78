use Rattle.std.proofs.Common.{◌≡◌, ◌++◌, drop}
use Rattle.conf_rules.specs.CommandLine.{texts_of}
use Rattle.conf_command.proofs.permits.texts_of.Given as goal

abbrev pub invariant-loop-permit : goal.invariant-loop-permit
invariant-loop-permit l = l.texts ++ texts_of (drop l.permit-index l.permit-items) ≡ texts_of l.permit-items
