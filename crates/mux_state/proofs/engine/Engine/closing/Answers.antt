use Rattle.std.proofs.Common.{◌≡◌, [], subst}
use Rattle.mux_state.specs.State.{EngineState}
use Rattle.mux_state.proofs.Sound.{none-refused}
use Rattle.mux_state.proofs.engine.Engine.closing.Goals as goal

pub returns-clause-none : goal.returns-clause-none
returns-clause-none c = subst (λ (s : EngineState). s.leaving ≡ [] → s.refused ≡ []) c.self.view_is (none-refused _ c.self.invariant)
