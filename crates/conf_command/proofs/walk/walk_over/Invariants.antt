use Rattle.std.proofs.Common.{◌≡◌, false, None, take, drop}
use Rattle.std.specs.Option.{option_map}
use Rattle.conf_rules.specs.CommandLine.{walk_from}
use Rattle.conf_command.specs.Shown.{shown_mode_of}
use Rattle.conf_command.specs.Walks.{behind_sound}
use Rattle.conf_command.proofs.walk.walk_over.Given as goal

abbrev pub invariant-loop-i : goal.invariant-loop-i
invariant-loop-i l = walk_from None false l.steps ≡ behind_sound (take l.i l.steps) (walk_from (option_map shown_mode_of l.mode) l.going (drop l.i l.steps))
