use Rattle.std.proofs.Common.{refl, ap}
use Rattle.mux_outside.specs.House.{Quiet}
use Rattle.mux_outside.specs.HouseCalls.{Turns, Joined}
use Rattle.house_forward.specs.ForwardingState.{forwarding_state_of}
use Rattle.house_forward.specs.RelayTraces.{Follows}
use Rattle.house_forward.specs.State.{held_in}
use Rattle.house_forward.proofs.Traces.{joins, gets, ends, is-writable, fails}
use Rattle.house_forward.proofs.Going.{on-ok}
use Rattle.house_forward.proofs.Leading.{relays-alone, same-forwarding_state}
use Rattle.house_forward.proofs.Resting.{held-at-rest}
use Rattle.house_forward.proofs.Streams.{ended-streams, writable-streams, failed-streams}
use Rattle.house_forward.proofs.forwarder_state.ForwarderState.turn.Goals as goal

pub got-requires-clause-rests : goal.got-requires-clause-rests
got-requires-clause-rests c =
    let fits = rw c.in-Got.is at c.requires.fits in
    let now = c.args.self.now in
    held-at-rest now.greeted now.forwardings.all.items now.relays.all.items now.asks.waiting.items c.in-Got.stream
    (ap (λ (q : Quiet). q.says) fits.1) (ap (λ (q : Quiet). q.orders) fits.1) fits.0.loud

pub returns-in-End-clause-known : goal.returns-in-End-clause-known
returns-in-End-clause-known c =
    rw (c.in-End.is, c.step.ensures.steps, ended-streams c.in-End.stream c.args.self.now.relays.all.items) refl

pub returns-in-Writable-clause-known : goal.returns-in-Writable-clause-known
returns-in-Writable-clause-known c =
    rw (c.in-Writable.is, c.step-in-Writable.ensures.steps, writable-streams c.in-Writable.stream c.args.self.now.relays.all.items) refl

pub returns-in-Failed-clause-known : goal.returns-in-Failed-clause-known
returns-in-Failed-clause-known c =
    rw (c.in-Failed.is, c.step-in-Failed.ensures.steps, failed-streams c.in-Failed.stream c.args.self.now.relays.all.items) refl

pub returns-in-Joined-clause-follows : goal.returns-in-Joined-clause-follows
returns-in-Joined-clause-follows c =
    let now = c.args.self.now in
    let new = c.joined.new.self in
    let l = c.in-Joined.listener in
    let t = c.in-Joined.stream in
    let forwarding_state = forwarding_state_of now.rules now.greeted now.forwardings now.asks in
    rw c.in-Joined.is (on-ok c.joined.result (λ j. relays-alone (Follows (Turns (Joined l t))) (held_in now) new.relays.all.items now.framer new.framer now.stage new.stage
    forwarding_state (forwarding_state_of new.rules new.greeted new.forwardings new.asks) c.joined.ensures.others.framer c.joined.ensures.others.stage
    (same-forwarding_state now.rules new.rules now.greeted new.greeted now.forwardings new.forwardings now.asks new.asks c.joined.ensures.others.rules c.joined.ensures.others.greeted
    c.joined.ensures.others.forwardings c.joined.ensures.others.asks)
    (joins l t now.relays.all.items new.relays.all.items now.framer now.stage forwarding_state j))
    c.joined.ensures.joins)

pub returns-in-Got-clause-follows : goal.returns-in-Got-clause-follows
returns-in-Got-clause-follows c =
    let fits = rw c.in-Got.is at c.requires.fits in
    let now = c.args.self.now in
    let rests = held-at-rest now.greeted now.forwardings.all.items now.relays.all.items now.asks.waiting.items c.in-Got.stream
    (ap (λ (q : Quiet). q.says) fits.1) (ap (λ (q : Quiet). q.orders) fits.1) fits.0.loud in
    rw c.in-Got.is (on-ok c.got.result (λ reads. gets c.in-Got.stream c.in-Got.bytes.now now.relays.all.items c.got.new.self.all.items
    rests fits.3 fits.0.loud reads now.framer now.stage (forwarding_state_of now.rules now.greeted now.forwardings now.asks)) c.got.ensures.reads)

pub returns-in-End-clause-follows : goal.returns-in-End-clause-follows
returns-in-End-clause-follows c =
    let now = c.args.self.now in
    rw (c.in-End.is, c.step.ensures.steps) (ends c.in-End.stream now.relays.all.items now.framer now.stage (forwarding_state_of now.rules now.greeted now.forwardings now.asks))

pub returns-in-Writable-clause-follows : goal.returns-in-Writable-clause-follows
returns-in-Writable-clause-follows c =
    let now = c.args.self.now in
    rw (c.in-Writable.is, c.step-in-Writable.ensures.steps)
    (is-writable c.in-Writable.stream now.relays.all.items now.framer now.stage (forwarding_state_of now.rules now.greeted now.forwardings now.asks))

pub returns-in-Failed-clause-follows : goal.returns-in-Failed-clause-follows
returns-in-Failed-clause-follows c =
    let now = c.args.self.now in
    rw (c.in-Failed.is, c.step-in-Failed.ensures.steps)
    (fails c.in-Failed.stream now.relays.all.items now.framer now.stage (forwarding_state_of now.rules now.greeted now.forwardings now.asks))
