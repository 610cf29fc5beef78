-- Each stream keeps its socket.
use Rattle.mux_edge.specs.Recorded.{SocketsStay}
use Rattle.mux_edge.proofs.table.look.note_all.Given as goal

abbrev pub invariant-loop-event : goal.invariant-loop-event
invariant-loop-event g l = SocketsStay l.initial.entries l.entries
