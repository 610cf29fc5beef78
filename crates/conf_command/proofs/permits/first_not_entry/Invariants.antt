use Rattle.std.proofs.Common.{◌≡◌, drop}
use Rattle.conf_rules.specs.Permissions.{first_not_entry}
use Rattle.conf_command.proofs.permits.first_not_entry.Given as goal

abbrev pub invariant-loop-permit : goal.invariant-loop-permit
invariant-loop-permit l = first_not_entry (drop l.permit-index l.permits) ≡ first_not_entry l.permits
