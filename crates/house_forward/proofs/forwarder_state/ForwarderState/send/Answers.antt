use Rattle.std.proofs.Common.{rules, ◌≡◌, ◌∙◌, refl, sym, ap, true, false, arith}
use Rattle.std.proofs.lemmas.Bool.{false≢true}
use Rattle.std.specs.Prelude.{find}
use Rattle.house_forward.specs.ForwardingState.{forwarding_state_of}
use Rattle.house_forward.specs.Forwardings.{has_request, listeners_of}
use Rattle.house_forward.specs.State.{held_in, known_in}
use Rattle.house_forward.proofs.ForwardingStates.{requests-one, no-request, greets-first}
use Rattle.house_forward.proofs.Leading.{says-one}
use Rattle.house_forward.proofs.Leaving.{says-same}
use Rattle.house_forward.proofs.States.{says-so}
use Rattle.house_forward.proofs.forwarder_state.ForwarderState.send.Goals as goal

pub returns-then-not-self-clause-says : goal.returns-then-not-self-clause-says
returns-then-not-self-clause-says c =
    let now = c.args.self.now in
    let none : now.greeted ≡ false = first_of (search rules, grind arith) in
    λ yes. record {
      goes = greets-first c.put_whole.new.into (held_in now) c.in_ok-put_whole.ensures.bytes none;
      greeted = refl;
      first = λ no. c.in_ok-put_whole.ensures.bytes;
    }

pub returns-in-Some-clause-says : goal.returns-in-Some-clause-says
returns-in-Some-clause-says c =
    let now = c.args.self.now in
    let said = c.in_ok-said.ensures in
    let which = c.in_ok-request.ensures in
    let greeted : now.greeted ≡ true = first_of (search rules, grind arith) in
    λ yes. record {
      goes = requests-one c.in_ok-request.field-0 c.in-Some.request c.request.new.into now.relays now.framer now.stage now.rules now.greeted now.forwardings
          c.said.new.self now.asks greeted c.in-Some.is which.exact which.which which.spelled said.all said.requests said.serials said.refused;
      greeted = greeted;
      first = λ no. absurd (false≢true (sym no ∙ greeted));
    }

pub returns-clause-says : goal.returns-clause-says
returns-clause-says c =
    let now = c.args.self.now in
    let greeted : now.greeted ≡ true = first_of (search rules, grind arith) in
    says-so c.send.result c.send.new.into now _ greeted refl (says-one c.send.result c.send.new.into now.relays.all.items c.send.new.self.all.items now.framer now.stage
    (forwarding_state_of now.rules now.greeted now.forwardings now.asks) greeted
    (no-request (find has_request now.forwardings.all.items) c.in_ok-request.field-0 c.in_default.is c.in_ok-request.ensures.exact)
    c.send.ensures.exact c.send.ensures.spelled c.send.ensures.says)

pub returns-in-Some-clause-same : goal.returns-in-Some-clause-same
returns-in-Some-clause-same c =
    let now = c.args.self.now in
    let listeners = ap listeners_of c.in_ok-said.ensures.all ∙ (says-same c.in-Some.request now.forwardings.all.items).listeners in
    record { known = ap (λ ls. record (known_in now) { listeners = ls }) listeners; ordering = refl; must = refl }

pub returns-in-Some-clause-forwardings : goal.returns-in-Some-clause-forwardings
returns-in-Some-clause-forwardings c =
    let same = (says-same c.in-Some.request c.args.self.now.forwardings.all.items).count in
    rw c.in_ok-said.ensures.all (omega (arith, same))
