use Rattle.std.proofs.Common.{◌++◌}
use Rattle.mux_peers.specs.State.{clients_and_queue}
use Rattle.mux_peers.proofs.ServerPieces.{ServerLoop, left_of}
use Rattle.mux_peers.proofs.server.Server.got.Given as goal

abbrev pub invariant-loop-self : goal.invariant-loop-self
invariant-loop-self l = ServerLoop (l.fn.self.rest ++ l.fn.bytes) (clients_and_queue l.fn.clients l.fn.core l.fn.up) (clients_and_queue l.clients l.core l.up) l.fn.self l.self l.ended

abbrev pub decreases-loop-self : goal.decreases-loop-self
decreases-loop-self l = left_of l.ended l.self.rest
