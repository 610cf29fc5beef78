use Rattle.std.proofs.Common.{rules, ◌≡◌, ◌∙◌, refl, sym, ap, subst, Some, arith}
use Rattle.mux_outside.specs.House.{Known, order_marks}
use Rattle.mux_outside.specs.HouseCalls.{calls_of}
use Rattle.house_forward.specs.Known.{ordering_of}
use Rattle.house_forward.specs.RelayTraces.{GivesOrder}
use Rattle.house_forward.specs.State.{held_in, known_in}
use Rattle.house_forward.specs.declared.forwarder_state.ForwarderState.{ForwarderState}
use Rattle.house_forward.proofs.Calling.{stands-given, no-ordering}
use Rattle.house_forward.proofs.Greeted.{greeted-on, given-silent}
use Rattle.house_forward.proofs.forwarder.ForwarderHouse.order.Goals as goal
use Rattle.house_forward.proofs.forwarder.ForwarderHouse.order.Goals.{in-Some, in_default}

pub returns-clause-gave : goal.returns-clause-gave
returns-clause-gave g c =
    let has = c.args.self.now.has in
    let given = Some c.in_ok-order.order in
    let new = c.match-mark_of.self.has in
    let gives = c.in_ok-order.ensures in
    let same : new ≡ c.order.new.self =
    elim c.match-mark_of.branch [ in-Some w ↦ rw w.self-is refl | in_default w ↦ rw w.self-is refl ] in
    record {
      known = first_of (search rules, grind arith);
      must = first_of (search rules, grind arith);
      recorded = first_of (search rules, grind arith);
      stands = λ calls h. record {
        since = stands-given given (known_in has) has.ordering new.ordering calls (held_in has) (held_in new) (no-ordering has.ordering c.requires) c.requires
            (ap (λ (x : ForwarderState). ordering_of x.ordering) same ∙ ap (λ (k : Known). k.ordering) gives.known)
            (subst (λ (x : ForwarderState). GivesOrder given x.ordering (held_in has) (held_in x)) (sym same) gives.gives) h.since;
        greeting = greeted-on has.greeted new.greeted calls (calls_of (order_marks given))
            (ap (λ (x : ForwarderState). x.greeted) same ∙ gives.word.greeted) (given-silent given) h.greeting;
      };
    }
