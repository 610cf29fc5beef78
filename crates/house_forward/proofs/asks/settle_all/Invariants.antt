use Rattle.std.proofs.Common.{◌≡◌, ◌++◌, map, take, drop}
use Rattle.house_forward.specs.Asks.{settle_one}
use Rattle.house_forward.proofs.asks.settle_all.Given as goal

abbrev pub invariant-loop-w : goal.invariant-loop-w
invariant-loop-w l = l.w-items ≡ map (settle_one l.forwarding l.opening l.at l.outcome) (take l.w-index l.initial.w-items) ++ drop l.w-index l.initial.w-items
