use Rattle.std.proofs.Common.{◌≡◌, true, refl, sym, ap, ◌∙◌, subst}
use Rattle.std.proofs.lemmas.Result.{on_ok_weaker}
use Rattle.mux_state.specs.Ready.{IsEngineReady}
use Rattle.mux_state.specs.Shown.{state_of}
use Rattle.mux_state.specs.State.{EngineState}
use Rattle.mux_state.specs.Steps.{is_client_served}
use Rattle.mux_state.proofs.Lists.{true_false}
use Rattle.mux_state.proofs.Written.{gone_on, lose-written}
use Rattle.mux_state.proofs.engine.Engine.lose.Goals as goal

pub returns-clause-loses : goal.returns-clause-loses
returns-clause-loses c =
    let parts : EngineState = state_of c.self.inside in
    on_ok_weaker c.list_waiting.result
    (λ waits served. lose-written c.args.self.now parts (gone_on parts c.lose.new.self c.lose.new.core c.lose.new.up c.list_waiting.new.list)
    c.args.client c.lose.new.self c.lose.new.core c.lose.new.up c.list_waiting.new.list c.self.view_is refl record {
      served = ap (λ (x : EngineState). is_client_served x.clients c.args.client) c.self.view_is ∙ served;
      policy = c.lose.ensures.policy;
      loses = c.lose.ensures.loses;
      notes = c.in_ok-lose.ensures.notes;
      waits = waits;
    }) c.list_waiting.ensures

pub returns-clause-ready : goal.returns-clause-ready
returns-clause-ready c =
    let was : IsEngineReady (state_of c.self.inside) = subst IsEngineReady (sym c.self.view_is) c.requires.ready in
    on_ok_weaker c.list_waiting.result
    (λ waits. record { room = c.lose.ensures.keeps.room was.room; cuts = was.cuts; well = was.well }) c.list_waiting.ensures

-- the client is served
pub returns-clause-stays : goal.returns-clause-stays
returns-clause-stays c =
    let here : is_client_served c.args.self.now.clients c.args.client ≡ true = ap (λ (x : EngineState). is_client_served x.clients c.args.client) (sym c.self.view_is) ∙ (sym c.is_served.ensures ∙ c.if-not-is_served.false) in
    on_ok_weaker c.list_waiting.result (λ waits gone. true_false (sym here ∙ gone)) c.list_waiting.ensures
