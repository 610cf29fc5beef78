use Rattle.std.proofs.Common.{◌≡◌, ◌+◌, length}
use Rattle.conf_rules.specs.Patterns.{some_suffix}
use Rattle.conf_match.specs.Pieces.{takes_name, PatternFits}
use Rattle.conf_match.proofs.stars.some_suffix.Given as goal

abbrev pub invariant-loop-ts : goal.invariant-loop-ts
invariant-loop-ts l = record {
  here : some_suffix (takes_name l.syntax l.p) l.t ≡ some_suffix (takes_name l.syntax l.pattern) l.name;
  fits : PatternFits l.syntax l.p;
}

abbrev pub decreases-loop-ts : goal.decreases-loop-ts
decreases-loop-ts l = length l.p + length l.t
