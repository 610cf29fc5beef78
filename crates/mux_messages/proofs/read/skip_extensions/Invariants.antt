use Rattle.std.proofs.Common.{length}
use Rattle.mux_messages.proofs.Pairs.{Skipping}
use Rattle.mux_messages.proofs.read.skip_extensions.Given as goal

abbrev pub invariant-loop-fields : goal.invariant-loop-fields
invariant-loop-fields l = Skipping l.fn.fields.cursor l.fn.fields.at l.fields.cursor l.fields.at

abbrev pub decreases-loop-fields : goal.decreases-loop-fields
decreases-loop-fields l = length l.fields.cursor
