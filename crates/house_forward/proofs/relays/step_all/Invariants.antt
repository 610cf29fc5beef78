use Rattle.std.proofs.Common.{◌≡◌, ◌++◌, map, take, drop}
use Rattle.house_forward.specs.Links.{link_after}
use Rattle.house_forward.proofs.relays.step_all.Given as goal

abbrev pub invariant-loop-l : goal.invariant-loop-l
invariant-loop-l l = l.l-items ≡ map (link_after l.step l.stream) (take l.l-index l.initial.l-items) ++ drop l.l-index l.initial.l-items
