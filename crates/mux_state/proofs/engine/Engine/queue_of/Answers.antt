use Rattle.std.proofs.Common.{◌++◌, ◌∙◌, length}
use Rattle.mux_state.specs.Stands.{log}
use Rattle.mux_state.proofs.Bounded.{short-here}
use Rattle.mux_state.proofs.Queues.{queue-pending}
use Rattle.mux_state.proofs.engine.Engine.queue_of.Goals as goal

pub returns-clause-waits : goal.returns-clause-waits
returns-clause-waits c = λ picked given marks closed st unclosed picks replies.
    c.do_queue_of-bytes.ensures ∙ queue-pending (length picked) st.asks c.args.self.now closed (log c.args.self.now (picked ++ picks) (given ++ replies) marks) c.args.stream (st.at picks replies).rows unclosed

pub returns-clause-bounded : goal.returns-clause-bounded
returns-clause-bounded c = λ picked given marks closed st lawful unclosed. short-here c.args.self.now c.args.stream _ picked given marks closed c.do_queue_of-bytes.ensures st lawful unclosed
