use Rattle.std.proofs.Common.{◌≡◌, ◌-◌, ◌≤◌, length, drop}
use Rattle.conf_rules.specs.Criteria.{criteria_from, read_criteria}
use Rattle.conf_match.specs.CriterionPlace.{with_criteria_before}
use Rattle.conf_match.proofs.criteria.read_criteria.Given as goal

abbrev pub invariant-loop-place : goal.invariant-loop-place
invariant-loop-place l = record {
  within : l.place.word ≤ length l.all;
  read : with_criteria_before l.criteria (criteria_from l.place.word l.place.may (drop l.place.word l.all)) ≡ read_criteria l.all;
}

abbrev pub decreases-loop-place : goal.decreases-loop-place
decreases-loop-place l = length l.all - l.place.word
