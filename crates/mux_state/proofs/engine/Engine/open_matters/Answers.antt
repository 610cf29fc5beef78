use Rattle.std.proofs.Common.{◌≡◌, false, ◌++◌, List, ap, subst, sym, ◌∙◌}
use Rattle.std.specs.Prelude.{is_some}
use Rattle.mux_history.specs.Rows.{Row, is_run_over}
use Rattle.mux_core.specs.Stands as core
use Rattle.mux_state.specs.State.{EngineState}
use Rattle.mux_state.specs.Stands.{log}
use Rattle.mux_state.proofs.Over.{some-end}
use Rattle.mux_state.proofs.engine.Engine.open_matters.Goals as goal

pub returns : goal.returns
returns c = record {
  stands = λ picked given marks closed st none picks replies.
      let rows : List Row = log c.args.self.now (picked ++ picks) (given ++ replies) marks in
      let v = (st.at picks replies).rows in
      let live : is_run_over rows ≡ false = sym (some-end rows) ∙ ap is_some (sym v.ended_is ∙ none) in
      c.open_matters.ensures rows (subst (λ (s : EngineState). core.CoreRepresents s.core rows) (sym c.self.view_is) (v.fit.core live));
}
