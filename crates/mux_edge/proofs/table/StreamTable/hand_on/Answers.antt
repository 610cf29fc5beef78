use Rattle.std.proofs.Common.{refl}
use Rattle.mux_edge.proofs.Bytes.{entries_kept, none_after, of_hand_on, sockets_kept}
use Rattle.mux_edge.proofs.table.StreamTable.hand_on.Goals as goal

pub returns-then-self-clause-bytes : goal.returns-then-self-clause-bytes
returns-then-self-clause-bytes g c = entries_kept _ _ _ _ c.args.self.now c.args.self.now (λ n. refl) refl

pub returns-clause-bytes : goal.returns-clause-bytes
returns-clause-bytes g c = none_after _ _ _ _ _ _ _
    (of_hand_on _ _ _ _ _ _ c.give-given.ensures.connected c.give-given.ensures.unread c.give-given.ensures.given c.give-given.ensures.rest)
    (sockets_kept _ _ _ _ _ _ c.note_given.ensures.sockets c.note_given.ensures.outbox)
