-- Nothing has filled the piece so far, the listening is as it was, no stream has lost bytes, and
-- the master's own streams are within their limit.
use Rattle.std.proofs.Common.{◌≡◌}
use Rattle.mux_edge.specs.Recorded.{LosesNone}
use Rattle.mux_edge.specs.StreamTable.{StaysFew}
use Rattle.mux_edge.proofs.sockets.Sockets.next.Given as goal

abbrev pub invariant-loop : goal.invariant-loop
invariant-loop g l = record {
  piece : l.into ≡ l.initial.into;
  listener : l.self.table.listener ≡ l.initial.self.table.listener;
  bytes : LosesNone g.U.Socket.remaining g.T.Socket.remaining g.U.Socket.contents g.T.Socket.contents l.fn.self.table l.self.table;
  few : StaysFew l.fn.self.table l.self.table;
}
