use Rattle.std.proofs.Common.{◌≡◌, ◌≤◌, ℕ, true, drop, length}
use Rattle.conf_match.specs.Pieces.{takes_name, PatternFits}
use Rattle.conf_match.proofs.stars.to_star.Given as goal

abbrev pub invariant-loop-piece : goal.invariant-loop-piece
invariant-loop-piece l = record {
  here : takes_name l.syntax l.p l.t ≡ takes_name l.syntax l.pattern l.name;
  further : (k : ℕ) → takes_name l.syntax l.pattern (drop k l.name) ≡ true → takes_name l.syntax l.p (drop k l.t) ≡ true;
  shorter : length l.p ≤ length l.pattern;
  no_longer : length l.t ≤ length l.name;
  fits : PatternFits l.syntax l.p;
}

abbrev pub decreases-loop-piece : goal.decreases-loop-piece
decreases-loop-piece l = length l.p
