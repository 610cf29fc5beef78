use Rattle.std.proofs.Common.{sym, ap, ◌∙◌, refl, ◌||◌}
use Rattle.mux_peers.specs.declared.run_change.RunChange.{RunChange}
use Rattle.mux_peers.specs.State.{PeerState}
use Rattle.mux_peers.proofs.Bodied.{follows-on, follows-full, follows-drop, goes-by}
use Rattle.mux_peers.proofs.peer.Peer.follows.Goals as goal

pub returns-in-Drops-clause-follows : goal.returns-in-Drops-clause-follows
returns-in-Drops-clause-follows c = follows-drop c.args.decision.now c.in-Drops.why c.args.core.now c.drop_for.new.core c.args.self.now c.drop_for.new.self c.args.up.now c.drop_for.new.up c.args.change.now c.in-Drops.is c.drop_for.ensures.peer c.drop_for.ensures.unsent

pub returns-in-Some-clause-follows : goal.returns-in-Some-clause-follows
returns-in-Some-clause-follows c = follows-full c.args.decision.now c.in-Some.why c.args.core.now c.drop_for-in-Some.new.core c.args.self.now c.record_frame-in-Goes.new.self c.drop_for-in-Some.new.self c.args.up.now c.drop_for-in-Some.new.up c.args.change.now
    (goes-by c.args.decision.now.effect c.in-Goes.is).0 c.in_ok-why-in-Goes.ensures.queue (sym c.in_ok-why-in-Goes.ensures.full ∙ c.in-Some.is)
    c.drop_for-in-Some.ensures.peer c.drop_for-in-Some.ensures.recorded

pub returns-in-None-clause-follows : goal.returns-in-None-clause-follows
returns-in-None-clause-follows c =
    let peer : PeerState = record { number = c.self-in-None.inside.number; standing = c.standing_by-self-inside.result; queue = c.self-in-None.inside.queue.waiting } in
    let change : RunChange = record { stops = c.args.change.now.stops || c.stops.result; ended = c.args.change.now.ended } in
    follows-on c.args.decision.now c.args.core.now c.args.self.now c.record_frame-in-Goes.new.self peer c.args.up.now c.args.change.now change
    (goes-by c.args.decision.now.effect c.in-Goes.is).0 c.in_ok-why-in-Goes.ensures.queue (sym c.in_ok-why-in-Goes.ensures.full ∙ c.in-None.is)
    (ap (λ (t : PeerState). t.number) c.self-in-None.view_is) (λ s stood. c.standing_by-self-inside.ensures s stood (goes-by c.args.decision.now.effect c.in-Goes.is).1) (ap (λ (t : PeerState). t.queue) c.self-in-None.view_is)
    (ap (λ b. c.args.change.now.stops || b) c.stops.ensures) refl
