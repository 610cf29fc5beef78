-- Nothing is written.
use Rattle.std.proofs.Common.{◌≡◌}
use Rattle.mux_edge.specs.Recorded.{of_socket}
use Rattle.mux_edge.proofs.closing.ClosingStream.gives_more.Given as goal

abbrev pub invariant-loop : goal.invariant-loop
invariant-loop g l =
    of_socket g.U.Socket.contents g.T.Socket.contents l.self.stream
    ≡ of_socket g.U.Socket.contents g.T.Socket.contents l.fn.self.stream
