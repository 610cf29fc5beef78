use Rattle.std.proofs.Common.{refl, sym, ◌∙◌, subst}
use Rattle.std.proofs.lemmas.Result.{on_ok_weaker}
use Rattle.mux_state.specs.Ready.{IsEngineReady}
use Rattle.mux_state.specs.Shown.{state_of}
use Rattle.mux_state.specs.State.{EngineState}
use Rattle.mux_state.proofs.Others.{heard-leaves-idle}
use Rattle.mux_state.proofs.Written.{receive-written, receive_new}
use Rattle.mux_state.proofs.engine.Engine.got_from_server.Goals as goal

pub returns-clause-heard : goal.returns-clause-heard
returns-clause-heard c =
    let parts : EngineState = state_of c.self.inside in
    on_ok_weaker c.list_waiting.result
    (λ waits. receive-written c.args.self.now parts (receive_new parts c.got.new.clients c.got.new.core c.got.new.up c.got.new.self c.list_waiting.new.list c.in_ok-self-inside.field-0)
    c.args.bytes.now c.got.new.clients c.got.new.core c.got.new.up c.got.new.self c.list_waiting.new.list c.in_ok-self-inside.field-0 c.self.view_is refl record {
      receives = c.in_ok-self-inside.ensures.receives;
      waits = waits;
    }) c.list_waiting.ensures

pub returns-clause-others : goal.returns-clause-others
returns-clause-others c = on_ok_weaker c.list_waiting.result (λ h. heard-leaves-idle c.args.self.now _ c.args.bytes.now c.requires.goes h) (returns-clause-heard c)

pub returns-clause-ready : goal.returns-clause-ready
returns-clause-ready c =
    let was : IsEngineReady (state_of c.self.inside) = subst IsEngineReady (sym c.self.view_is) c.requires.ready in
    on_ok_weaker c.list_waiting.result
    (λ waits on. record {
      room = c.in_ok-self-inside.ensures.room was.room;
      cuts = c.in_ok-self-inside.ensures.receives.receiving.framing on ∙ was.cuts;
      well = c.in_ok-self-inside.ensures.receives.receiving.fault on;
    }) c.list_waiting.ensures
