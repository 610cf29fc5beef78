use Rattle.mux_peers.proofs.Refusing.{Refusing}
use Rattle.mux_peers.proofs.peer.Peer.refuse.Given as goal

abbrev pub invariant-loop-left : goal.invariant-loop-left
invariant-loop-left l = Refusing l.refusals l.left l.fn.self l.self

abbrev pub decreases-loop-left : goal.decreases-loop-left
decreases-loop-left l = l.left
