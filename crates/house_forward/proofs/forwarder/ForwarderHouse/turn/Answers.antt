use Rattle.std.proofs.Common.{◌∙◌, refl, ap}
use Rattle.mux_outside.specs.HouseCalls.{Turns, happening_of}
use Rattle.house_forward.specs.RelayTraces.{Follows}
use Rattle.house_forward.specs.State.{held_in}
use Rattle.house_forward.specs.declared.forwarder_state.ForwarderState.{ForwarderState}
use Rattle.house_forward.proofs.Calling.{from-same, no-ordering}
use Rattle.house_forward.proofs.Going.{on-ok}
use Rattle.house_forward.proofs.States.{hands-on}
use Rattle.house_forward.proofs.forwarder.ForwarderHouse.turn.Goals as goal

pub returns-clause-stands : goal.returns-clause-stands
returns-clause-stands g c =
    let has = c.args.self.now.has in
    let none = no-ordering has.ordering c.requires.ordering in
    let new = c.turn.new.self in
    let call = Turns (happening_of c.args.t) in
    on-ok c.turn.result (λ goes. hands-on call has new none
    (c.turn.ensures.others.ordering ∙ ap (λ (x : ForwarderState). x.ordering) c.reserve.ensures.has ∙ none) refl refl
    (c.turn.ensures.others.greeted ∙ ap (λ (x : ForwarderState). x.greeted) c.reserve.ensures.has)
    (from-same (Follows call) has c.reserve.new.self.has (held_in new) c.reserve.ensures.has goes)) c.turn.ensures.follows
