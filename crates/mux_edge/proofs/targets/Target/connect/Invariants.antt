use Rattle.std.proofs.Common.{◌≡◌, ◌≤◌}
use Rattle.mux_edge.specs.Targets.{addresses_left_of}
use Rattle.mux_edge.proofs.targets.Target.connect.Given as goal

-- nothing but the count of those that were tried changes, and that grows
abbrev pub invariant-loop-address : goal.invariant-loop-address
invariant-loop-address g l =
    (l.self ≡ record l.fn.self { tried = l.self.tried }) × (l.fn.self.tried ≤ l.self.tried)

abbrev pub decreases-loop-address : goal.decreases-loop-address
decreases-loop-address g l = addresses_left_of l.self
