use Rattle.mux_edge.proofs.Bytes.{none_after, sockets_kept}
use Rattle.mux_edge.proofs.sockets.Sockets.look.Goals as goal

pub returns-clause-bytes : goal.returns-clause-bytes
returns-clause-bytes g c = none_after _ _ _ _ _ _ _ c.look.ensures.bytes (sockets_kept _ _ _ _ _ _ c.begin_round.ensures.sockets c.begin_round.ensures.outbox)
