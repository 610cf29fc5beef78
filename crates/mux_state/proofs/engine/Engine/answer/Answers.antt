use Rattle.std.proofs.Common.{◌≡◌, true, refl, sym, ap, ◌∙◌, subst}
use Rattle.std.proofs.lemmas.Result.{on_ok_weaker}
use Rattle.mux_state.specs.Ready.{IsEngineReady}
use Rattle.mux_state.specs.Shown.{state_of}
use Rattle.mux_state.specs.State.{EngineState, numbers}
use Rattle.mux_state.specs.Steps.{is_client_served}
use Rattle.mux_state.proofs.Lists.{true_false}
use Rattle.mux_state.proofs.Written.{answer-written, gone_on}
use Rattle.mux_state.proofs.engine.Engine.answer.Goals as goal

pub returns-clause-answers : goal.returns-clause-answers
returns-clause-answers c =
    let parts : EngineState = state_of c.self.inside in
    on_ok_weaker c.list_waiting.result
    (λ waits served. answer-written c.args.self.now parts (gone_on parts c.answered.new.self c.answered.new.core c.answered.new.up c.list_waiting.new.list)
    c.args.client c.args.id c.args.reply c.answered.new.self c.answered.new.core c.answered.new.up c.list_waiting.new.list c.self.view_is refl record {
      served = ap (λ (x : EngineState). is_client_served x.clients c.args.client) c.self.view_is ∙ served;
      policy = c.answered.ensures.rest.policy;
      answers = c.in_ok-answered.ensures.answers;
      waits = waits;
    }) c.list_waiting.ensures

pub returns-clause-ready : goal.returns-clause-ready
returns-clause-ready c =
    let was : IsEngineReady (state_of c.self.inside) = subst IsEngineReady (sym c.self.view_is) c.requires.ready in
    on_ok_weaker c.list_waiting.result
    (λ waits. record { room = c.in_ok-answered.ensures.rest.keeps.room was.room; cuts = was.cuts; well = was.well }) c.list_waiting.ensures

-- the client is served
pub returns-clause-stays : goal.returns-clause-stays
returns-clause-stays c =
    let here : is_client_served c.args.self.now.clients c.args.client ≡ true = ap (λ (x : EngineState). is_client_served x.clients c.args.client) (sym c.self.view_is) ∙ (sym c.is_served.ensures ∙ c.if-not-is_served.false) in
    on_ok_weaker c.list_waiting.result (λ waits gone. true_false (sym here ∙ gone)) c.list_waiting.ensures

-- ---- who is here

pub returns-clause-numbers : goal.returns-clause-numbers
returns-clause-numbers c = on_ok_weaker c.list_waiting.result
    (λ waits. c.in_ok-answered.ensures.rest.keeps.numbers_same ∙ ap (λ (x : EngineState). numbers x.clients) c.self.view_is) c.list_waiting.ensures
