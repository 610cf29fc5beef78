use Rattle.std.proofs.Common.{◌≡◌, true, Some, ◌&&◌, not, refl, sym, ap, ◌∙◌, subst}
use Rattle.std.proofs.lemmas.Result.{on_ok_weaker}
use Rattle.mux_peers.proofs.Heeding.{applies_any}
use Rattle.mux_peers.proofs.Starved.{on-err}
use Rattle.mux_state.specs.Ready.{IsEngineReady}
use Rattle.mux_state.specs.Shown.{state_of}
use Rattle.mux_state.specs.State.{EngineState, numbers}
use Rattle.mux_state.specs.Steps.{is_client_read}
use Rattle.mux_state.proofs.Lists.{true_false}
use Rattle.mux_state.proofs.Starved.{some-heard, some-shown}
use Rattle.mux_state.proofs.Written.{gain-written, gain_new}
use Rattle.mux_state.proofs.engine.Engine.got_from_client.Goals as goal

pub returns-clause-gains : goal.returns-clause-gains
returns-clause-gains g c =
    let parts : EngineState = state_of c.self.inside in
    let here : is_client_read c.args.self.now.clients c.args.client ≡ true = ap (λ (x : EngineState). is_client_read x.clients c.args.client) (sym c.self.view_is) ∙ (sym c.is_received.ensures ∙ c.if-not-is_received.false) in
    on_ok_weaker c.list_waiting.result
    (λ waits. record {
      gains = λ read. gain-written g.H.Asks.may (Some c.args.asks.now) (Some c.got.new.asks) c.args.self.now parts (gain_new parts c.got.new.self c.got.new.core c.got.new.up c.in_ok-heard.heard c.list_waiting.new.list (c.self.inside.listening && not c.in_ok-heard.heard.stops))
          c.args.client c.args.bytes.now c.got.new.self c.got.new.core c.got.new.up c.in_ok-heard.heard c.list_waiting.new.list (c.self.inside.listening && not c.in_ok-heard.heard.stops) c.self.view_is refl record {
            read = ap (λ (x : EngineState). is_client_read x.clients c.args.client) c.self.view_is ∙ read;
            receives = c.in_ok-heard.ensures.receives;
            listens = refl;
            waits = waits;
          };
      stays = λ gone. true_false (sym here ∙ gone);
      policy = c.in_ok-heard.ensures.policy ∙ ap (λ (x : EngineState). x.core.policy) c.self.view_is;
      numbers_are = c.in_ok-heard.ensures.keeps.numbers_same ∙ ap (λ (x : EngineState). numbers x.clients) c.self.view_is;
    }) c.list_waiting.ensures

pub returns-clause-applies : goal.returns-clause-applies
returns-clause-applies g c = applies_any c.list_waiting.result c.in_ok-heard.ensures.applies

-- ---- what was requested if memory ran out

pub returns-in_err-heard-clause-cut : goal.returns-in_err-heard-clause-cut
returns-in_err-heard-clause-cut g c = on-err c.from_residual.result
    (some-shown g.H.Asks.may (g.H.Asks.state c.args.house.now).recorded (g.H.Asks.state c.got.new.house).recorded c.args.client c.args.bytes.now (state_of c.self.inside) c.args.self.now c.self.view_is c.in_err-heard.ensures.cut)

pub returns-clause-cut : goal.returns-clause-cut
returns-clause-cut g c = on-err c.list_waiting.result
    (some-shown g.H.Asks.may (g.H.Asks.state c.args.house.now).recorded (g.H.Asks.state c.got.new.house).recorded c.args.client c.args.bytes.now (state_of c.self.inside) c.args.self.now c.self.view_is
    (some-heard g.H.Asks.may c.self.inside.pid c.args.bytes.now c.self.inside.core c.got.new.core c.self.inside.up c.got.new.up c.in_ok-heard.heard c.args.client c.self.inside.clients c.got.new.self
    (sym c.is_received.ensures ∙ c.if-not-is_received.false) c.in_ok-heard.ensures.receives c.in_ok-heard.ensures.applies))

-- ---- the room that is kept

pub returns-clause-ready : goal.returns-clause-ready
returns-clause-ready g c =
    let was : IsEngineReady (state_of c.self.inside) = subst IsEngineReady (sym c.self.view_is) c.requires.ready in
    on_ok_weaker c.list_waiting.result
    (λ waits. record { room = c.in_ok-heard.ensures.keeps.room was.room; cuts = was.cuts; well = was.well }) c.list_waiting.ensures

-- ---- the client is read

pub returns-clause-untold : goal.returns-clause-untold
returns-clause-untold g c =
    let here : is_client_read c.args.self.now.clients c.args.client ≡ true = ap (λ (x : EngineState). is_client_read x.clients c.args.client) (sym c.self.view_is) ∙ (sym c.is_received.ensures ∙ c.if-not-is_received.false) in
    λ gone. true_false (sym here ∙ gone)

pub returns-in_err-heard-clause-untold : goal.returns-in_err-heard-clause-untold
returns-in_err-heard-clause-untold g c =
    let here : is_client_read c.args.self.now.clients c.args.client ≡ true = ap (λ (x : EngineState). is_client_read x.clients c.args.client) (sym c.self.view_is) ∙ (sym c.is_received.ensures ∙ c.if-not-is_received.false) in
    λ gone. true_false (sym here ∙ gone)
