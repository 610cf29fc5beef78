use Rattle.std.proofs.Common.{ap, ◌∙◌}
use Rattle.mux_state.specs.State.{EngineState}
use Rattle.mux_state.proofs.engine.Engine.listening.Goals as goal

pub returns-clause-stands : goal.returns-clause-stands
returns-clause-stands c = λ picked given marks closed st picks replies. ap (λ (s : EngineState). s.listening) c.self.view_is ∙ (st.at picks replies).rows.listening_is
