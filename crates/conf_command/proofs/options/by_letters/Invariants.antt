use Rattle.std.proofs.Common.{◌≡◌, ◌++◌, length}
use Rattle.conf_rules.specs.Options.{by_letters}
use Rattle.conf_command.proofs.options.by_letters.Given as goal

abbrev pub invariant-loop-byte : goal.invariant-loop-byte
invariant-loop-byte l = record {
  steps : l.steps ++ (by_letters l.at l.left).steps ≡ l.fn.steps ++ (by_letters l.at l.word).steps;
  next : (by_letters l.at l.left).next ≡ (by_letters l.at l.word).next;
}

abbrev pub decreases-loop-byte : goal.decreases-loop-byte
decreases-loop-byte l = length l.left
