-- Each stream keeps its socket.
use Rattle.mux_edge.specs.Recorded.{SocketsStay}
use Rattle.mux_edge.proofs.table.note_begun.Given as goal

abbrev pub invariant-loop-at : goal.invariant-loop-at
invariant-loop-at g l = SocketsStay l.initial.entries l.entries
