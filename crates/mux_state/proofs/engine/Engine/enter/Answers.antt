use Rattle.std.proofs.Common.{refl, sym, subst}
use Rattle.std.proofs.lemmas.Result.{on_ok_weaker}
use Rattle.mux_state.specs.Ready.{IsEngineReady}
use Rattle.mux_state.specs.Shown.{state_of}
use Rattle.mux_state.specs.State.{EngineState}
use Rattle.mux_state.proofs.Written.{enter-written, enter_new, room-entered}
use Rattle.mux_state.proofs.engine.Engine.enter.Goals as goal

pub returns-clause-enters : goal.returns-clause-enters
returns-clause-enters c =
    let parts : EngineState = state_of c.self.inside in
    on_ok_weaker c.list_waiting.result
    (λ waits. enter-written c.args.self.now parts (enter_new parts c.take_in.new.clients.all c.take_in.new.core c.reserve_farewells.new.up c.take_in.new.refused c.take_in.new.clients.leaving c.list_waiting.new.list)
    c.args.client c.take_in.new.clients c.take_in.new.core c.reserve_farewells.new.up c.take_in.new.refused c.list_waiting.new.list c.self.view_is refl record {
      policy = c.in_ok-take_in.ensures.policy;
      waiting = c.in_ok-reserve_farewells.ensures.waiting;
      takes_in = c.in_ok-take_in.ensures.takes_in;
      waits = waits;
    }) c.list_waiting.ensures

pub returns-clause-ready : goal.returns-clause-ready
returns-clause-ready c =
    let was : IsEngineReady (state_of c.self.inside) = subst IsEngineReady (sym c.self.view_is) c.requires.ready in
    on_ok_weaker c.list_waiting.result
    (λ waits. record {
      room = room-entered c.args.client c.in_ok-take_in.ensures.takes_in.let_in c.self.inside.clients.all c.take_in.new.clients.all c.reserve_farewells.new.up c.in_ok-take_in.ensures.takes_in.clients_are c.in_ok-reserve_farewells.ensures.one_more;
      cuts = was.cuts;
      well = was.well;
    }) c.list_waiting.ensures
