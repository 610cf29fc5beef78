use Rattle.std.proofs.Common.{◌≡◌, ◌+◌, ◌≤◌, map, drop}
use Rattle.forward_rules.specs.Listing.{listed_forward_of}
use Rattle.forward_rules.specs.Step.{forward_count_of}
use Rattle.forward_rules.proofs.forwards.count_in.Given as goal

abbrev pub invariant-loop-f : goal.invariant-loop-f
invariant-loop-f l = record {
  counted : l.count + forward_count_of (map listed_forward_of (drop l.f-index l.listed)) l.client ≡ forward_count_of (map listed_forward_of l.listed) l.client;
  few : l.count ≤ l.f-index;
}
