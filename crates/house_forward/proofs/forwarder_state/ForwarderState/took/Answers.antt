use Rattle.std.proofs.Common.{◌∙◌, refl, sym, subst, ℕ, List, take}
use Rattle.std.specs.Prelude.{find}
use Rattle.std.specs.List.{position}
use Rattle.house_forward.specs.ForwardingState.{forwarding_state_of}
use Rattle.house_forward.specs.Going.{RelayGoesAt, TakesOf}
use Rattle.house_forward.specs.Links.{is_relay_stream, link_queue_in, queue_at}
use Rattle.house_forward.proofs.Queues.{front-at, none-taken}
use Rattle.house_forward.proofs.Traces.{takes}
use Rattle.house_forward.proofs.forwarder_state.ForwarderState.took.Goals as goal

pub returns-clause-takes : goal.returns-clause-takes
returns-clause-takes c =
    let now = c.args.self.now in
    let t = c.args.stream in
    let ls = now.relays.all.items in
    let new = c.took.new.self.all.items in
    let front = front-at ls t c.args.n c.requires.fits in
    takes t (take c.args.n (queue_at ls t)) ls new now.framer now.stage
    (forwarding_state_of now.rules now.greeted now.forwardings now.asks)
    (λ none. front ∙ none-taken ls t c.args.n (link_queue_in (find (is_relay_stream t) ls)) refl none)
    (subst (λ (bytes : List ℕ). RelayGoesAt (position (is_relay_stream t) ls) (TakesOf bytes) ls new) (sym front) c.took.ensures.takes)
