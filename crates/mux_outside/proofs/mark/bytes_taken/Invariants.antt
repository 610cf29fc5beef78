use Rattle.std.proofs.Common.{◌≡◌, ◌++◌, drop}
use Rattle.mux_outside.specs.Marks.{bytes_taken}
use Rattle.mux_outside.proofs.mark.bytes_taken.Given as goal

abbrev pub invariant-loop-mark : goal.invariant-loop-mark
invariant-loop-mark l = l.all ++ bytes_taken l.stream (drop l.mark-index l.marks) ≡ bytes_taken l.stream l.marks
