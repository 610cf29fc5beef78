use Rattle.std.proofs.Common.{ap, refl, subst}
use Rattle.mux_core.specs.Calls.{LeavesUnsent}
use Rattle.mux_peers.specs.declared.standing.Standing.TheVariants.{Lost}
use Rattle.mux_peers.specs.State.{PeerState}
use Rattle.mux_peers.proofs.Losses.{gone-loses}
use Rattle.mux_peers.proofs.peer.Peer.lose.Goals as goal

pub returns-clause-loses : goal.returns-clause-loses
returns-clause-loses c =
    let peer : PeerState = record { number = c.self.inside.number; standing = Lost Rattle.std.specs.Prelude.None; queue = c.self.inside.queue.waiting } in
    gone-loses c.args.core.now c.gone.new.self c.args.self.now peer c.args.up.now c.gone.new.up (ap (λ (t : PeerState). t.number) c.self.view_is) refl (ap (λ (t : PeerState). t.queue) c.self.view_is)
    (subst (λ k. LeavesUnsent c.args.core.now c.gone.new.self k c.args.up.now c.gone.new.up) (ap (λ (t : PeerState). t.number) c.self.view_is) c.gone.ensures.unsent)
