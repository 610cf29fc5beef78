use Rattle.std.proofs.Common.{◌≡◌, ◌++◌, map, take, drop}
use Rattle.house_forward.specs.Forwardings.{forwarding_changed}
use Rattle.house_forward.proofs.forwardings.change_all.Given as goal

abbrev pub invariant-loop-f : goal.invariant-loop-f
invariant-loop-f l = l.f-items ≡ map (forwarding_changed l.change l.serial) (take l.f-index l.initial.f-items) ++ drop l.f-index l.initial.f-items
