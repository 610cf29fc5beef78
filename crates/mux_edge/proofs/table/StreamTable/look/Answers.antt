use Rattle.mux_edge.proofs.Bytes.{none_after, sockets_kept}
use Rattle.mux_edge.proofs.Few.{few_after}
use Rattle.mux_edge.proofs.table.StreamTable.look.Goals as goal

pub returns-clause-bytes : goal.returns-clause-bytes
returns-clause-bytes g c = none_after _ _ _ _ _ _ _ c.hand_on.ensures.bytes (sockets_kept _ _ _ _ _ _ c.look_on.ensures.sockets c.look_on.ensures.outbox)

pub returns-clause-few : goal.returns-clause-few
returns-clause-few g c = few_after c.hand_on.ensures.rest.few c.look_on.ensures.few
