use Rattle.std.proofs.Common.{◌≡◌, ◌+◌, ◌≤◌, map, drop}
use Rattle.forward_rules.specs.Listing.{listed_forward_of}
use Rattle.forward_rules.specs.Step.{unanswered_cancels}
use Rattle.forward_rules.proofs.forwards.cancels_in.Given as goal

abbrev pub invariant-loop-f : goal.invariant-loop-f
invariant-loop-f l = record {
  counted : l.count + unanswered_cancels l.client (map listed_forward_of (drop l.f-index l.listed)) ≡ unanswered_cancels l.client (map listed_forward_of l.listed);
  few : l.count ≤ l.f-index;
}
