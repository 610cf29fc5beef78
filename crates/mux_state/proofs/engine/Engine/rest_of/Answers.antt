use Rattle.std.proofs.Common.{◌≡◌, false}
use Rattle.std.specs.Prelude.{is_some}
use Rattle.mux_state.specs.Shown.{state_of}
use Rattle.mux_state.specs.State.{EngineState}
use Rattle.mux_state.proofs.Rests.{client-rest, server-rest}
use Rattle.mux_state.proofs.engine.Engine.rest_of.Goals as goal

pub returns-then-stream-eq0-clause-short : goal.returns-then-stream-eq0-clause-short
returns-then-stream-eq0-clause-short c =
    let parts : EngineState = state_of c.self.inside in
    let on : is_some c.self.inside.ended ≡ false = cc (c.is_some.ensures, c.if-is_some.false) in
    λ picked given marks closed st. server-rest c.args.self.now parts c.rest_len.result picked given marks closed c.self.view_is c.rest_len.ensures on st

pub returns-clause-short : goal.returns-clause-short
returns-clause-short c =
    let parts : EngineState = state_of c.self.inside in
    let on : is_some c.self.inside.ended ≡ false = cc (c.is_some.ensures, c.if-is_some.false) in
    λ picked given marks closed st. client-rest c.args.self.now parts c.args.stream c.rest_of.result picked given marks closed c.self.view_is c.rest_of.ensures.exact c.rest_of.ensures.unheard on st
