use Rattle.std.proofs.Common.{rules, ◌∙◌, refl, ap, arith}
use Rattle.mux_outside.specs.House.{start_ask_of}
use Rattle.mux_outside.specs.HouseCalls.{Marks}
use Rattle.mux_outside.specs.declared.house_mark.HouseMark.TheVariants.{HouseAsked}
use Rattle.house_forward.specs.ForwardingState.{ForwardingState, IsClientAsk}
use Rattle.house_forward.specs.RelayTraces.{Follows}
use Rattle.house_forward.specs.State.{held_in}
use Rattle.house_forward.specs.declared.forwarder_state.ForwarderState.{ForwarderState}
use Rattle.house_forward.proofs.Calling.{from-same, no-ordering}
use Rattle.house_forward.proofs.Traces.{forwarding_state-goes}
use Rattle.house_forward.proofs.States.{hands-on}
use Rattle.house_forward.proofs.forwarder.ForwarderAsks.ask.Goals as goal

pub returns-clause-gave : goal.returns-clause-gave
returns-clause-gave g c =
    let has = c.args.self.now.has in
    let none = no-ordering has.ordering c.requires in
    let new = c.ask.new.self in
    let ask = start_ask_of c.args.what.now in
    let goes = c.in_ok-reply.ensures.goes in
    let mark = Marks (HouseAsked c.args.client c.args.id c.args.opening ask c.in_ok-reply.reply) in
    record {
      known = first_of (search rules, grind arith);
      must = first_of (search rules, grind arith);
      recorded = first_of (search rules, grind arith);
      stands = hands-on mark has new none (c.ask.ensures.ordering ∙ ap (λ (x : ForwarderState). x.ordering) c.reserve.ensures.has ∙ none) refl refl
          (ap (λ (d : ForwardingState). d.greeted) goes.1.others ∙ ap (λ (x : ForwarderState). x.greeted) c.reserve.ensures.has)
          (from-same (Follows mark) has c.reserve.new.self.has (held_in new) c.reserve.ensures.has
          (forwarding_state-goes (IsClientAsk c.args.client c.args.id c.args.opening ask c.in_ok-reply.reply) (held_in c.reserve.new.self.has) (held_in new) goes));
    }
