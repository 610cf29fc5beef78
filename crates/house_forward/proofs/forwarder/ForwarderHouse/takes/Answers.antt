use Rattle.std.proofs.Common.{rules, ◌≡◌, ◌∙◌, refl, ap, false, [], ◌∷◌, arith}
use Rattle.mux_outside.specs.HouseCalls.{Receives}
use Rattle.house_forward.specs.State.{held_in}
use Rattle.house_forward.specs.declared.forwarder_state.ForwarderState.{ForwarderState}
use Rattle.house_forward.proofs.Calling.{leads-on, takes-in, no-ordering, since-on}
use Rattle.house_forward.proofs.Greeted.{greeted-on}
use Rattle.house_forward.proofs.Leading.{leads-first}
use Rattle.house_forward.proofs.forwarder.ForwarderHouse.takes.Goals as goal

pub loop-self-init : goal.loop-self-init
loop-self-init g c = record {
  recorded = first_of (search rules, grind arith);
  known = first_of (search rules, grind arith);
  must = first_of (search rules, grind arith);
  ordering = first_of (search rules, grind arith);
  greeted = first_of (search rules, grind arith);
  leads = leads-first _;
}

pub loop-self-preserved : goal.loop-self-preserved
loop-self-preserved g c = record {
  recorded = first_of (search rules, grind arith);
  known = first_of (search rules, grind arith);
  must = first_of (search rules, grind arith);
  ordering = first_of (search rules, grind arith);
  greeted = first_of (search rules, grind arith);
  leads = leads-on c.in_ok-receive.field-0 _ c.loop-self.self.has c.reserve.new.self.has (held_in c.receive.new.self) (first_of (search rules, grind arith)) c.reserve.ensures.has
      c.loop-self.invariant.leads c.in_ok-receive.ensures.receives;
}

pub returns-clause-stands : goal.returns-clause-stands
returns-clause-stands g c =
    let has = c.args.self.now.has in
    let taken = c.take.new.self in
    let new = c.receive.new.self in
    let none : c.in_ok-receive.field-0 ≡ false = first_of (search rules, grind arith) in
    let on = c.loop-self.invariant in
    let reserved = c.reserve.ensures.has in
    λ calls h. record {
      since = since-on has.ordering new.ordering calls (Receives c.args.bytes.now) (held_in has) (held_in new) (no-ordering has.ordering c.requires)
          (c.receive.ensures.stays.same.ordering ∙ ap (λ (x : ForwarderState). x.ordering) reserved ∙ on.ordering) refl
          (takes-in c.args.bytes.now has taken c.loop-self.self.has c.reserve.new.self.has c.in_ok-receive.field-0 (held_in new)
          c.take.ensures.others c.in_ok-take.ensures.heard on.leads reserved none c.in_ok-receive.ensures.receives) h.since;
      greeting = greeted-on has.greeted new.greeted calls (Receives c.args.bytes.now ∷ [])
          (c.receive.ensures.stays.greeted ∙ ap (λ (x : ForwarderState). x.greeted) reserved ∙ on.greeted ∙ ap (λ (x : ForwarderState). x.greeted) c.take.ensures.others)
          refl h.greeting;
    }
