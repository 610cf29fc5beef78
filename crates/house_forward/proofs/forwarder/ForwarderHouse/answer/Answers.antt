use Rattle.std.proofs.Common.{rules, refl, ap, Some, None, arith}
use Rattle.mux_outside.specs.HouseCalls.{Marks}
use Rattle.mux_outside.specs.declared.house_mark.HouseMark.TheVariants.{HouseAnswer}
use Rattle.house_forward.specs.ForwardingState.{GivesFirstAnswer}
use Rattle.house_forward.specs.State.{held_in, known_in}
use Rattle.house_forward.proofs.Answering.{is-answer}
use Rattle.house_forward.proofs.Calling.{no-ordering}
use Rattle.house_forward.proofs.Traces.{forwarding_state-goes}
use Rattle.house_forward.proofs.ForwardingStates.{gives-answer}
use Rattle.house_forward.proofs.States.{hands-on}
use Rattle.house_forward.proofs.forwarder.ForwarderHouse.answer.Goals as goal

pub returns-clause-gave : goal.returns-clause-gave
returns-clause-gave g c =
    let has = c.args.self.now.has in
    let none = no-ordering has.ordering c.requires in
    let a = c.in_ok-client in
    let asks = c.answer.new.self in
    let k = is-answer has.asks.waiting.items (Some (a.client, a.id, a.reply)) asks.waiting.items a.ensures.exact a.ensures.taken in
    record {
      known = ap (λ asks'. record (known_in has) { asks = asks' }) k.asks;
      must = refl;
      recorded = first_of (search rules, grind arith);
      stands = hands-on (Marks (HouseAnswer a.client a.id a.reply)) has _ none none refl refl refl
          (forwarding_state-goes (GivesFirstAnswer a.client a.id a.reply) (held_in has) _
          (gives-answer a.client a.id a.reply (Some (a.client, a.id, a.reply)) has.relays has.framer has.stage has.rules has.greeted has.forwardings has.asks asks refl
          a.ensures.exact a.ensures.taken a.ensures.done));
    }

pub returns-in_err-client-clause-exact : goal.returns-in_err-client-clause-exact
returns-in_err-client-clause-exact g c =
    let e = c.in_err-client.ensures in
    rw c.from_residual.ensures (is-answer c.args.self.now.has.asks.waiting.items None c.answer.new.self.waiting.items e.exact e.taken).silent

pub returns-clause-fits : goal.returns-clause-fits
returns-clause-fits g c =
    let a = c.in_ok-client in
    (is-answer c.args.self.now.has.asks.waiting.items (Some (a.client, a.id, a.reply)) c.answer.new.self.waiting.items a.ensures.exact a.ensures.taken).fits

pub returns-clause-exact : goal.returns-clause-exact
returns-clause-exact g c =
    let a = c.in_ok-client in
    (is-answer c.args.self.now.has.asks.waiting.items (Some (a.client, a.id, a.reply)) c.answer.new.self.waiting.items a.ensures.exact a.ensures.taken).silent

pub invariant_of-self-2 : goal.invariant_of-self-2
invariant_of-self-2 g c =
    let a = c.in_ok-client in
    let count = (is-answer c.args.self.now.has.asks.waiting.items (Some (a.client, a.id, a.reply)) c.answer.new.self.waiting.items a.ensures.exact a.ensures.taken).count in
    let room = c.args.self.now.room in
    let marks = c.note.ensures.marks in
    omega (arith, count, room, marks)
