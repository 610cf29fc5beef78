use Rattle.std.proofs.Common.{◌≡◌, ◌∙◌, refl, sym, ap, subst, List, ℕ, true, Some, length, arith}
use Rattle.std.specs.Prelude.{find, IfSome}
use Rattle.std.specs.List.{list_any, sum_by}
use Rattle.mux_outside.specs.declared.order.Order.TheVariants.{Listen}
use Rattle.house_forward.specs.ForwardingState.{forwarding_state_of, ForwardingsGo, OrdersListener, EndsListener}
use Rattle.house_forward.specs.Due.{link_due}
use Rattle.house_forward.specs.Known.{open_asks}
use Rattle.house_forward.specs.Links.{is_offered, streams_of, ConnectsAt}
use Rattle.house_forward.specs.RelayTraces.{ForwardingStateGoes, OrdersSocket, forwarder_held_of}
use Rattle.house_forward.specs.State.{held_in}
use Rattle.house_forward.specs.declared.asks.Waiting.{Waiting}
use Rattle.house_forward.specs.declared.relays.Relays.{Relays}
use Rattle.house_forward.proofs.Traces.{obeys, orders-socket, forwarding_state-goes}
use Rattle.house_forward.proofs.Leading.{one-is, forwarding_state-by}
use Rattle.house_forward.proofs.Leaving.{ended-more}
use Rattle.house_forward.proofs.Numbering.{listen-known, same-known}
use Rattle.house_forward.proofs.forwarder_state.ForwarderState.order.Goals as goal

pub returns-in-Some-clause-gives : goal.returns-in-Some-clause-gives
returns-in-Some-clause-gives c =
    let now = c.args.self.now in
    obeys c.in-Some.order now.ordering now.relays.all.items c.order.new.self.all.items now.framer now.stage
    (forwarding_state_of now.rules now.greeted now.forwardings now.asks) c.in-Some.ensures.obeys

pub returns-in-Some-offer-clause-gives : goal.returns-in-Some-offer-clause-gives
returns-in-Some-offer-clause-gives c =
    let now = c.args.self.now in
    let same : c.order.new.self ≡ now.relays = c.in_default.ensures.silent refl in
    let o = c.in-Some-offer in
    let links = c.order.new.self.all.items in
    let there = subst (λ (t : List ℕ). IfSome (find is_offered links) (λ l. ConnectsAt t o.port l.stream)) o.host.same o.ensures.gives in
    subst (λ (r : Relays). OrdersSocket o.host.other o.port (forwarder_held_of r now.framer now.stage now.rules now.greeted now.forwardings now.asks)
    (forwarder_held_of c.offer.new.self now.framer now.stage now.rules now.greeted now.forwardings now.asks)) same
    (orders-socket o.host.other o.port links c.offer.new.self.all.items now.framer now.stage
    (forwarding_state_of now.rules now.greeted now.forwardings now.asks) (one-is (list_any is_offered links) o.ensures.exact) there o.ensures.awaits)

pub returns-in-Listen-clause-gives : goal.returns-in-Listen-clause-gives
returns-in-Listen-clause-gives c =
    let now = c.args.self.now in
    let first : c.order.new.self ≡ now.relays = c.in_default.ensures.silent refl in
    let second : c.offer.new.self ≡ c.order.new.self = c.in_default-offer.ensures.silent refl in
    let l = c.in-Listen in
    let fs = c.order-2.new.self in
    let asks = c.order-2.new.asks in
    let goes = rw l.is at c.in_ok-host.ensures.orders in
    subst (λ (r : Relays). ForwardingStateGoes (OrdersListener l.host.other l.port) (held_in now)
    (forwarder_held_of r now.framer now.stage now.rules now.greeted fs asks)) (sym (second ∙ first))
    (forwarding_state-by (OrdersListener l.host.other l.port) now.relays now.framer now.stage now.rules now.greeted now.forwardings now.asks fs asks
    (subst (λ (t : List ℕ). ForwardingsGo (OrdersListener t l.port) now.forwardings now.asks fs asks) l.host.same goes))

pub returns-in-Unlisten-clause-gives : goal.returns-in-Unlisten-clause-gives
returns-in-Unlisten-clause-gives c =
    let now = c.args.self.now in
    let first : c.order.new.self ≡ now.relays = c.in_default.ensures.silent refl in
    let second : c.offer.new.self ≡ c.order.new.self = c.in_default-offer.ensures.silent refl in
    let u = c.in-Unlisten in
    let fs = c.order-2.new.self in
    let asks = c.order-2.new.asks in
    let goes = rw u.is at c.in_ok-host.ensures.orders in
    let new = forwarder_held_of c.offer.new.self now.framer now.stage now.rules now.greeted fs asks in
    forwarding_state-goes (EndsListener u.listener) (held_in now) new
    (subst (λ (r : Relays). ForwardingStateGoes (EndsListener u.listener) (held_in now)
    (forwarder_held_of r now.framer now.stage now.rules now.greeted fs asks)) (sym (second ∙ first))
    (forwarding_state-by (EndsListener u.listener) now.relays now.framer now.stage now.rules now.greeted now.forwardings now.asks fs asks goes))

pub invariant_of-self-in-Listen : goal.invariant_of-self-in-Listen
invariant_of-self-in-Listen c =
    let l = c.in-Listen in
    let fs = c.args.self.now.forwardings in
    record {
      there = (listen-known l.host.one l.port fs c.args.self.now.asks c.order-2.new.self c.order-2.new.asks
          (rw l.is at c.in_ok-host.ensures.orders) fs.in_order).first;
    }

pub returns-in-Listen-clause-known : goal.returns-in-Listen-clause-known
returns-in-Listen-clause-known c =
    let now = c.args.self.now in
    let l = c.in-Listen in
    let first : c.order.new.self ≡ now.relays = c.in_default.ensures.silent refl in
    let second : c.offer.new.self ≡ c.order.new.self = c.in_default-offer.ensures.silent refl in
    let k = listen-known l.host.one l.port now.forwardings now.asks c.order-2.new.self c.order-2.new.asks
    (rw l.is at c.in_ok-host.ensures.orders) now.forwardings.in_order in
    same-known _ _ _ _ _ _ _ _ k.listeners (ap (λ (r : Relays). streams_of r.all.items) (second ∙ first)) (ap open_asks k.waiting)
    (ap (λ (t : List ℕ). Some (Listen t l.port)) (sym l.host.same))

pub returns-in-Listen-clause-first : goal.returns-in-Listen-clause-first
returns-in-Listen-clause-first c =
    let goes = rw c.in-Listen.is at c.in_ok-host.ensures.orders in
    record { connects = tt; listens = (goes c.args.self.now.rules true).there }

pub returns-in-Listen-clause-due : goal.returns-in-Listen-clause-due
returns-in-Listen-clause-due c =
    let now = c.args.self.now in
    let l = c.in-Listen in
    let first : c.order.new.self ≡ now.relays = c.in_default.ensures.silent refl in
    let second : c.offer.new.self ≡ c.order.new.self = c.in_default-offer.ensures.silent refl in
    let k = listen-known l.host.one l.port now.forwardings now.asks c.order-2.new.self c.order-2.new.asks
    (rw l.is at c.in_ok-host.ensures.orders) now.forwardings.in_order in
    let due = k.due in
    let links = ap (λ (r : Relays). sum_by link_due r.all.items) (second ∙ first) in
    let count = ap (λ (ws : List Waiting). length ws) k.waiting in
    omega (arith, due, links, count)

pub returns-in-Unlisten-clause-fits : goal.returns-in-Unlisten-clause-fits
returns-in-Unlisten-clause-fits c =
    let now = c.args.self.now in
    let u = c.in-Unlisten in
    let goes = rw u.is at c.in_ok-host.ensures.orders in
    (ended-more u.listener (forwarding_state_of c.args.self.now.rules true now.forwardings now.asks) (forwarding_state_of c.args.self.now.rules true c.order-2.new.self c.order-2.new.asks)
    (goes c.args.self.now.rules true)).among

pub returns-in-Unlisten-clause-known : goal.returns-in-Unlisten-clause-known
returns-in-Unlisten-clause-known c =
    let now = c.args.self.now in
    let u = c.in-Unlisten in
    let first : c.order.new.self ≡ now.relays = c.in_default.ensures.silent refl in
    let second : c.offer.new.self ≡ c.order.new.self = c.in_default-offer.ensures.silent refl in
    let goes = rw u.is at c.in_ok-host.ensures.orders in
    let e = ended-more u.listener (forwarding_state_of c.args.self.now.rules true now.forwardings now.asks) (forwarding_state_of c.args.self.now.rules true c.order-2.new.self c.order-2.new.asks)
    (goes c.args.self.now.rules true) in
    same-known _ _ _ _ _ _ _ _ e.listeners (ap (λ (r : Relays). streams_of r.all.items) (second ∙ first)) e.same.asks refl

pub returns-in-Unlisten-clause-due : goal.returns-in-Unlisten-clause-due
returns-in-Unlisten-clause-due c =
    let now = c.args.self.now in
    let u = c.in-Unlisten in
    let first : c.order.new.self ≡ now.relays = c.in_default.ensures.silent refl in
    let second : c.offer.new.self ≡ c.order.new.self = c.in_default-offer.ensures.silent refl in
    let goes = rw u.is at c.in_ok-host.ensures.orders in
    let e = ended-more u.listener (forwarding_state_of c.args.self.now.rules true now.forwardings now.asks) (forwarding_state_of c.args.self.now.rules true c.order-2.new.self c.order-2.new.asks)
    (goes c.args.self.now.rules true) in
    let due = e.due in
    let links = ap (λ (r : Relays). sum_by link_due r.all.items) (second ∙ first) in
    let count = e.same.count in
    omega (arith, due, links, count)
