use Rattle.std.proofs.Common.{◌++◌, [], ap, ◌∙◌, length}
use Rattle.mux_outside.specs.Streams.{among}
use Rattle.mux_state.specs.State.{EngineState}
use Rattle.mux_state.specs.Stands.{log}
use Rattle.mux_state.proofs.Queues.{waits-output}
use Rattle.mux_state.proofs.engine.Engine.waiting.Goals as goal

pub returns-clause-waits : goal.returns-clause-waits
returns-clause-waits c = λ picked given marks closed st t unclosed picks replies.
    ap (λ (s : EngineState). among t s.waiting) c.self.view_is
    ∙ waits-output (length picked) st.asks c.args.self.now closed (log c.args.self.now (picked ++ picks) (given ++ replies) marks) t (st.at picks replies).rows unclosed

pub returns-clause-listed : goal.returns-clause-listed
returns-clause-listed c = λ picked given marks closed st. ap (λ (s : EngineState). s.waiting) c.self.view_is ∙ (st.at [] []).rows.waiting_is
