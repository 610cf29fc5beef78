use Rattle.std.proofs.Common.{rules, ◌≡◌, ◌∙◌, refl, ap, true, arith}
use Rattle.mux_outside.specs.HouseCalls.{Marks}
use Rattle.mux_outside.specs.declared.house_mark.HouseMark.TheVariants.{HouseSaid}
use Rattle.house_forward.specs.RelayTraces.{RelaySendsIn}
use Rattle.house_forward.specs.State.{held_in}
use Rattle.house_forward.specs.declared.forwarder_state.ForwarderState.{ForwarderState}
use Rattle.house_forward.proofs.Calling.{from-same, no-ordering, since-on}
use Rattle.house_forward.proofs.Greeted.{greeted-said}
use Rattle.house_forward.proofs.forwarder.ForwarderHouse.says.Goals as goal

pub returns-clause-gave : goal.returns-clause-gave
returns-clause-gave g c =
    let has = c.args.self.now.has in
    let none = no-ordering has.ordering c.requires in
    let new = c.send.new.self in
    let said : c.in_ok-send.field-0 ≡ true = first_of (search rules, grind arith) in
    let says = c.in_ok-send.ensures.says said in
    record {
      known = first_of (search rules, grind arith);
      must = first_of (search rules, grind arith);
      recorded = first_of (search rules, grind arith);
      stands = λ calls h. record {
        since = since-on has.ordering new.ordering calls (Marks (HouseSaid c.send.new.into)) (held_in has) (held_in new) none
            (c.send.ensures.same.ordering ∙ ap (λ (x : ForwarderState). x.ordering) c.reserve.ensures.has ∙ none) refl
            (from-same (RelaySendsIn c.send.new.into) has c.reserve.new.self.has (held_in new) c.reserve.ensures.has says.goes) h.since;
        greeting = greeted-said has.greeted new.greeted calls c.send.new.into says.greeted
            (λ no. says.first (ap (λ (x : ForwarderState). x.greeted) c.reserve.ensures.has ∙ no)) h.greeting;
      };
    }
