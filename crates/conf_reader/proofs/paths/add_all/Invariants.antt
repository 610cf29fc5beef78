use Rattle.std.proofs.Common.{◌≡◌, ◌++◌}
use Rattle.conf_reader.proofs.paths.add_all.Given as goal

abbrev pub invariant-loop-text : goal.invariant-loop-text
invariant-loop-text l = l.texts ≡ l.initial.texts ++ l.yielded
