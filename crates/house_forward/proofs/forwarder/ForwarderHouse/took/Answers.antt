use Rattle.std.proofs.Common.{◌∙◌, refl, [], ◌∷◌, take}
use Rattle.mux_outside.specs.HouseCalls.{Takes}
use Rattle.house_forward.specs.Links.{queue_at}
use Rattle.house_forward.specs.State.{held_in}
use Rattle.house_forward.proofs.Calling.{no-ordering, since-taken}
use Rattle.house_forward.proofs.Traces.{stands-taken}
use Rattle.house_forward.proofs.Greeted.{greeted-on}
use Rattle.house_forward.proofs.forwarder.ForwarderHouse.took.Goals as goal

pub returns-clause-stands : goal.returns-clause-stands
returns-clause-stands g c =
    let has = c.args.self.now.has in
    let none = no-ordering has.ordering c.requires.ordering in
    let new = c.took.new.self in
    let bytes = take c.args.n (queue_at has.relays.all.items c.args.stream) in
    let call = Takes c.args.stream bytes in
    λ calls h. record {
      since = since-taken has.ordering new.ordering calls call (held_in has) (held_in new) none (c.took.ensures.others.ordering ∙ none)
          (stands-taken calls c.args.stream bytes (held_in has) (held_in new) c.took.ensures.takes) h.since;
      greeting = greeted-on has.greeted new.greeted calls (call ∷ []) c.took.ensures.others.greeted refl h.greeting;
    }
