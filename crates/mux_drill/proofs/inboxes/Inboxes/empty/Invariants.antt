use Rattle.std.proofs.Common.{◌≡◌, [], replicate}
use Rattle.mux_drill.proofs.inboxes.Inboxes.empty.Given as goal

abbrev pub invariant-loop-i : goal.invariant-loop-i
invariant-loop-i l = l.boxes.items ≡ replicate l._i []
