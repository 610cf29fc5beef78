use Rattle.std.proofs.Common.{◌≡◌, ◌++◌, take}
use Rattle.conf_options.proofs.patterns.push_copies.Given as goal

abbrev pub invariant-loop-text : goal.invariant-loop-text
invariant-loop-text l = l.kept ≡ l.initial.kept ++ take l.text-index l.texts
