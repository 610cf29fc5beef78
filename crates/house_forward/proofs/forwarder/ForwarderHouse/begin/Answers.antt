use Rattle.std.proofs.Common.{◌∙◌, refl, ap, []}
use Rattle.mux_outside.specs.House.{Known}
use Rattle.mux_outside.specs.HouseCalls.{Begins}
use Rattle.house_forward.specs.ForwardingState.{ForwardingState, BeginsWith}
use Rattle.house_forward.specs.RelayTraces.{Follows}
use Rattle.house_forward.specs.State.{held_in}
use Rattle.house_forward.specs.declared.forwarder_state.ForwarderState.{ForwarderState}
use Rattle.house_forward.proofs.Calling.{from-same, no-ordering}
use Rattle.house_forward.proofs.Traces.{forwarding_state-goes}
use Rattle.house_forward.proofs.Going.{on-ok}
use Rattle.house_forward.proofs.States.{hands-on}
use Rattle.house_forward.proofs.forwarder.ForwarderHouse.begin.Goals as goal

pub returns-clause-stands : goal.returns-clause-stands
returns-clause-stands g c =
    let has = c.args.self.now.has in
    let none = no-ordering has.ordering (ap (λ (k : Known). k.ordering) c.requires.blank.nothing) in
    let middle = c.reserve.new.self.has in
    let new = c.begin.new.self in
    let call = Begins c.args.starts.now in
    on-ok c.begin.result (λ goes h. hands-on call has new none
    (c.begin.ensures.ordering ∙ ap (λ (x : ForwarderState). x.ordering) c.reserve.ensures.has ∙ none) refl refl
    (ap (λ (d : ForwardingState). d.greeted) goes.1.others ∙ ap (λ (x : ForwarderState). x.greeted) c.reserve.ensures.has)
    (from-same (Follows call) has middle (held_in new) c.reserve.ensures.has
    (forwarding_state-goes (BeginsWith c.args.starts.now) (held_in middle) (held_in new) goes)) [] h) c.begin.ensures.begins
