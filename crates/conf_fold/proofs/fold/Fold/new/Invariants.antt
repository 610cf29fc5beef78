use Rattle.std.proofs.Common.{◌≡◌, drop}
use Rattle.conf_rules.specs.Recorded.{Recorded}
use Rattle.conf_fold.proofs.AskedLemmas.{SoFar}
use Rattle.conf_fold.proofs.fold.Fold.new.Given as goal

abbrev pub invariant-loop-line : goal.invariant-loop-line
invariant-loop-line l = (recorded : Recorded) → recorded.asked ≡ l.asked → SoFar recorded l.fold (drop l.line-index l.asked.lines)
