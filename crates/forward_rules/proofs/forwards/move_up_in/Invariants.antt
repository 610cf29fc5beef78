use Rattle.std.proofs.Common.{◌≡◌, ◌++◌, drop, map, take}
use Rattle.forward_rules.specs.Listing.{listed_forward_of}
use Rattle.forward_rules.specs.Taking.{moved_up_of}
use Rattle.forward_rules.proofs.forwards.move_up_in.Given as goal

abbrev pub invariant-loop-f : goal.invariant-loop-f
invariant-loop-f l = map listed_forward_of l.listed ≡ map (moved_up_of l.client l.rank) (map listed_forward_of (take l.f-index l.initial.listed)) ++ map listed_forward_of (drop l.f-index l.initial.listed)
