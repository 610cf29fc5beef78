use Rattle.std.proofs.Common.{◌≡◌, sym, subst, ◌∷◌}
use Rattle.proxy_frames.specs.Queued.{with_bytes}
use Rattle.proxy_frames.specs.State.{QueueState}
use Rattle.house_relay.specs.Acts.{Refuses}
use Rattle.house_relay.specs.Dialing.{dialog_refusal_of}
use Rattle.house_relay.specs.Relay.{RelayRepresents, answered_in}
use Rattle.house_relay.specs.declared.line.ChannelState.{ChannelState}
use Rattle.house_relay.specs.declared.line.ChannelState.TheVariants.{Over}
use Rattle.house_relay.proofs.Answerings.{refuses}
use Rattle.house_relay.proofs.relay.Relay.refused.Goals as goal

pub returns-clause-stands : goal.returns-clause-stands
returns-clause-stands c = λ dials acts s.
    let r = c.args.self.now in
    let queue : c.refuse.new.queue ≡ with_bytes (dialog_refusal_of c.in-Opened.version c.args.reason) r.queue =
    c.in_ok-refuse.ensures in
    subst (λ (l : ChannelState). RelayRepresents dials (answered_in l (Refuses c.args.reason) ∷ acts)
    (record r { line = Over; queue = c.refuse.new.queue }))
    (sym c.in-Opened.is)
    (subst (λ (q : QueueState). RelayRepresents dials (Refuses c.args.reason ∷ acts) (record r { line = Over; queue = q })) (sym queue)
    (refuses r c.in-Opened.version c.args.reason dials acts c.in-Opened.is s))
