use Rattle.std.proofs.Common.{sym, ap, ◌∙◌, ◌≡◌, Some}
use Rattle.house_forward.specs.Forwardings.{next_listener_order}
use Rattle.house_forward.specs.declared.forwardings.ForwardingWant.TheVariants as want
use Rattle.house_forward.proofs.ForwardingStates.{ends-listener, orders-listener}
use Rattle.house_forward.proofs.InOrder.{listens-first}
use Rattle.house_forward.proofs.forwardings.Forwardings.order.Goals as goal

pub order_listen-requires : goal.order_listen-requires
order_listen-requires c =
    listens-first c.args.asks.now.waiting.items c.args.self.now.all.items (sym c.in_ok-next.ensures ∙ ap (λ w. Some w) c.in-Listen.is)

pub returns-in-Listen-clause-orders : goal.returns-in-Listen-clause-orders
returns-in-Listen-clause-orders c =
    let listen : next_listener_order c.args.asks.now.waiting.items c.args.self.now.all.items ≡ Some want.Listen =
    sym c.in_ok-next.ensures ∙ ap (λ w. Some w) c.in-Listen.is in
    let l = c.order_listen in
    orders-listener l.result c.args.self.now c.args.asks.now l.new.self listen l.ensures.listens l.ensures.ordered l.ensures.others

pub returns-in-Unlisten-clause-orders : goal.returns-in-Unlisten-clause-orders
returns-in-Unlisten-clause-orders c =
    let u = c.in-Unlisten in
    let unlisten : next_listener_order c.args.asks.now.waiting.items c.args.self.now.all.items ≡ Some (want.Unlisten u.serial u.listener) =
    sym c.in_ok-next.ensures ∙ ap (λ w. Some w) u.is in
    ends-listener u.listener u.serial c.args.self.now c.args.asks.now c.unlisten.new.self c.settle.new.self unlisten
    c.unlisten.ensures.all c.unlisten.ensures.others c.settle.ensures.waiting c.settle.ensures.done
