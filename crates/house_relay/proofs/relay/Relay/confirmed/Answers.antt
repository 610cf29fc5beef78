use Rattle.std.proofs.Common.{◌≡◌, ◌∙◌, sym, ap, subst, length, ◌∷◌}
use Rattle.proxy_frames.specs.Queued.{with_bytes}
use Rattle.proxy_frames.specs.State.{QueueState}
use Rattle.house_relay.specs.Acts.{Confirms}
use Rattle.house_relay.specs.Dialing.{grant_of}
use Rattle.house_relay.specs.ChannelState.{fresh_live}
use Rattle.house_relay.specs.Relay.{RelayRepresents, answered_in}
use Rattle.house_relay.specs.declared.line.Live.{Live as LiveState}
use Rattle.house_relay.specs.declared.line.ChannelState.{ChannelState}
use Rattle.house_relay.specs.declared.line.ChannelState.TheVariants.{Live}
use Rattle.house_relay.proofs.Answerings.{confirms}
use Rattle.house_relay.proofs.relay.Relay.confirmed.Goals as goal

pub returns-clause-stands : goal.returns-clause-stands
returns-clause-stands c = λ dials acts s.
    let r = c.args.self.now in
    let queue : c.grant.new.queue ≡ with_bytes (grant_of c.in-Opened.version) r.queue = c.in_ok-grant.ensures in
    let live : c.new.result ≡ fresh_live c.args.remote c.args.window c.args.maximum
    (length (with_bytes (grant_of c.in-Opened.version) r.queue).waiting) =
    c.new.ensures
    ∙ ap (fresh_live c.args.remote c.args.window c.args.maximum)
    (c.len-replies.ensures ∙ ap (λ (q : QueueState). length q.waiting) queue) in
    subst (λ (l : ChannelState). RelayRepresents dials (answered_in l Confirms ∷ acts) (record r { line = Live c.new.result; queue = c.grant.new.queue }))
    (sym c.in-Opened.is)
    (subst (λ (q : QueueState). RelayRepresents dials (Confirms ∷ acts) (record r { line = Live c.new.result; queue = q })) (sym queue)
    (subst (λ (l : LiveState). RelayRepresents dials (Confirms ∷ acts)
    (record r { line = Live l; queue = with_bytes (grant_of c.in-Opened.version) r.queue })) (sym live)
    (confirms r c.in-Opened.version c.args.remote c.args.window c.args.maximum dials acts c.in-Opened.is s)))
