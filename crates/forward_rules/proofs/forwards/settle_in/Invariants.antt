use Rattle.std.proofs.Common.{◌≡◌, ◌++◌, drop, map, take}
use Rattle.forward_rules.specs.Listing.{listed_forward_of}
use Rattle.forward_rules.specs.Step.{without_cancel_of}
use Rattle.forward_rules.proofs.forwards.settle_in.Given as goal

abbrev pub invariant-loop-f : goal.invariant-loop-f
invariant-loop-f l = map listed_forward_of l.listed ≡ map (without_cancel_of l.client l.rank) (map listed_forward_of (take l.f-index l.initial.listed)) ++ map listed_forward_of (drop l.f-index l.initial.listed)
