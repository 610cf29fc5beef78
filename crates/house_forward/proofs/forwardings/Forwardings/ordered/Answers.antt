use Rattle.std.proofs.Common.{sym, ap, refl, set, Some, None}
use Rattle.house_forward.specs.ForwardingState.{ForwardingState, forwarding_state_of}
use Rattle.house_forward.specs.Forwardings.{to_listen}
use Rattle.house_forward.specs.declared.forwarding.Forwarding.{Forwarding}
use Rattle.house_forward.specs.declared.forwarding.Stage.TheVariants.{Listening}
use Rattle.house_forward.proofs.ForwardingStates.{makes-listener, same-forwarding_states}
use Rattle.house_forward.proofs.InOrder.{none-waits, waits-serial, made}
use Rattle.house_forward.proofs.Numbered.{numbered-first}
use Rattle.house_forward.proofs.Placed.{placed-set}
use Rattle.house_forward.proofs.Refusing.{first-refused}
use Rattle.house_forward.proofs.forwardings.Forwardings.ordered.Goals as goal

pub invariant_of-self : goal.invariant_of-self
invariant_of-self c =
    let g : Forwarding = record c.index_mut-f.result.now { stage = Listening c.in-Some-listener.listener } in
    let m = made c.args.self.now.all.items c.in-Some.i c.in-Some-listener.listener g c.index_mut-f.result.now (sym c.in-Some.ensures) c.args.self.now.in_order refl in
    record {
      in_order = m.in_order;
      placed = placed-set c.args.self.now.all.items c.in-Some.i g refl c.args.self.now.placed;
      numbered = numbered-first to_listen c.args.self.now.all.items c.in-Some.i g c.index_mut-f.result.now c.args.self.now.serials (sym c.in-Some.ensures) c.index_mut-f.ensures.value refl c.args.self.now.numbered;
    }

pub returns-in_default-clause-makes : goal.returns-in_default-clause-makes
returns-in_default-clause-makes c = absurd (none-waits c.args.self.now.all.items (sym c.in_default.ensures) c.requires)

pub returns-in-Some-listener-clause-makes : goal.returns-in-Some-listener-clause-makes
returns-in-Some-listener-clause-makes c =
    let now = c.args.self.now in
    let asks = c.args.asks.now in
    let l = c.in-Some-listener in
    let f = c.index_mut-f in
    let g : Forwarding = record f.result.now { stage = Listening l.listener } in
    let settled = c.settle.new.self in
    rw l.is (λ rules greeted.
    let old = forwarding_state_of rules greeted now asks in
    let new : ForwardingState = record old { all = set now.all.items c.in-Some.i g; waiting = settled.waiting.items; done = settled.done } in
    makes-listener (Some l.listener) old new c.requires (rw (sym c.in-Some.ensures) (f.result.now, f.ensures.value, refl))
    (same-forwarding_states new _ refl refl refl refl refl refl
    (rw (waits-serial now.all.items c.in-Some.i f.result.now (sym c.in-Some.ensures) f.ensures.value) c.settle.ensures.waiting)
    c.settle.ensures.done))

pub returns-in-None-clause-makes : goal.returns-in-None-clause-makes
returns-in-None-clause-makes c =
    let now = c.args.self.now in
    let asks = c.args.asks.now in
    let fail = c.fail.new.self in
    let refuse = c.refuse.new.self in
    rw c.in-None.is (λ rules greeted.
    let old = forwarding_state_of rules greeted now asks in
    let new = forwarding_state_of rules greeted fail refuse in
    makes-listener None old new c.requires (rw (sym c.in-Some.ensures) c.fail.ensures.all)
    (same-forwarding_states new _ refl refl refl c.fail.ensures.serials
    (first-refused to_listen now.all.items c.in-Some.i now.refused fail.refused (sym c.in-Some.ensures) c.fail.ensures.refused)
    (ap (λ q. q.items) c.fail.ensures.requests)
    (rw (waits-serial now.all.items c.in-Some.i c.index.result.now (sym c.in-Some.ensures) c.index.ensures) c.refuse.ensures.waiting)
    c.refuse.ensures.done))
