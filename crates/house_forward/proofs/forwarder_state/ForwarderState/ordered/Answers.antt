use Rattle.std.proofs.Common.{rules, ◌≡◌, ◌∙◌, refl, sym, ap, true, arith}
use Rattle.house_forward.specs.ForwardingState.{MakesListener, forwarding_state_of}
use Rattle.house_forward.specs.Known.{known_of, ordering_of}
use Rattle.house_forward.specs.RelayTraces.{forwarder_held_of}
use Rattle.house_forward.specs.State.{held_in, known_in}
use Rattle.house_forward.proofs.ForwardingStates.{fits-fresh}
use Rattle.house_forward.proofs.Leaving.{made-more}
use Rattle.house_forward.proofs.Numbering.{same-known, listen-numbered, connect-numbered}
use Rattle.house_forward.proofs.Leading.{connects, listens, forwarding_state-by, made-so, listened-so}
use Rattle.house_forward.proofs.forwarder_state.ForwarderState.ordered.Goals as goal
use Rattle.house_forward.proofs.forwarder_state.ForwarderState.ordered.Goals.{in-Some-Listen, in-Some-Connect}

pub returns-clause-makes : goal.returns-clause-makes
returns-clause-makes c =
    let now = c.args.self.now in
    let number = c.args.number in
    elim c.match-self-2.branch [
      | in-Some-Listen w ↦ (let is : listens now.ordering ≡ true = first_of (search rules, grind arith) in
          let fs = w.ordered.new.self in
          let asks = w.ordered.new.asks in
          rw w.self-is (listened-so now.ordering number (held_in now) (forwarder_held_of now.relays now.framer now.stage now.rules now.greeted fs asks) is
          (fits-fresh number (known_of now.forwardings.all.items now.relays.all.items now.asks.waiting.items now.ordering) c.requires.fits)
          (forwarding_state-by (MakesListener number) now.relays now.framer now.stage now.rules now.greeted now.forwardings now.asks fs asks w.ordered.ensures.makes)))
      | in-Some-Connect w ↦ (let is : connects now.ordering ≡ true = first_of (search rules, grind arith) in
          rw w.self-is (made-so now.ordering number (held_in now)
          (forwarder_held_of w.made.new.self now.framer now.stage now.rules now.greeted now.forwardings now.asks) is refl w.made.ensures.makes))
    ]

pub returns-clause-known : goal.returns-clause-known
returns-clause-known c =
    let now = c.args.self.now in
    let number = c.args.number in
    let none = ap ordering_of c.take.ensures.after in
    elim c.match-self-2.branch [
      | in-Some-Listen w ↦ (let is : listens now.ordering ≡ true = first_of (search rules, grind arith) in
          let m = made-more number (forwarding_state_of c.args.self.now.rules true now.forwardings now.asks) (forwarding_state_of c.args.self.now.rules true w.ordered.new.self w.ordered.new.asks)
          (w.ordered.ensures.makes c.args.self.now.rules true) now.forwardings.in_order in
          rw w.self-is (same-known _ _ _ _ _ _ _ _ m.listeners refl m.same.asks none ∙ sym (listen-numbered now.ordering number (known_in now) is)))
      | in-Some-Connect w ↦ (let is : connects now.ordering ≡ true = first_of (search rules, grind arith) in
          rw w.self-is (same-known _ _ _ _ _ _ _ _ refl w.made.ensures.streams refl none ∙ sym (connect-numbered now.ordering number (known_in now) is)))
    ]

pub returns-clause-due : goal.returns-clause-due
returns-clause-due c =
    let now = c.args.self.now in
    λ some. elim c.match-self-2.branch [
      | in-Some-Listen w ↦ (let m = made-more c.args.number (forwarding_state_of c.args.self.now.rules true now.forwardings now.asks) (forwarding_state_of c.args.self.now.rules true w.ordered.new.self w.ordered.new.asks)
          (w.ordered.ensures.makes c.args.self.now.rules true) now.forwardings.in_order in
          let due = m.due in
          let count = m.same.count in
          rw w.self-is (omega (arith, due, count)))
      | in-Some-Connect w ↦ (let due = w.made.ensures.due in rw w.self-is (omega (arith, due)))
    ]
