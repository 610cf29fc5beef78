use Rattle.std.proofs.Common.{◌≡◌, ◌+◌, ◌++◌, drop}
use Rattle.conf_rules.specs.Options.{Free}
use Rattle.conf_rules.specs.CommandLine.{steps_from}
use Rattle.conf_command.specs.Shown.{shown_next_word}
use Rattle.conf_command.proofs.options.steps_of.Given as goal

abbrev pub invariant-loop-i : goal.invariant-loop-i
invariant-loop-i l = l.steps ++ steps_from (l.i + 1) (shown_next_word l.next) (drop l.i l.words) ≡ steps_from 1 Free l.words
