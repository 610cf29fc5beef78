-- Once a client can read the answer to its STOP_LISTENING or TERMINATE, no client is accepted any
-- more.
use Rattle.std.specs.Prelude.{◌≡◌, true, false, List, None}
use Rattle.mux_outside.specs.Seen.{Seen}
use Rattle.mux_outside.specs.declared.mark.Mark.{Mark}
use Rattle.mux_outside.specs.declared.mark.Mark.TheVariants.{Takes}
use Rattle.mux_history.specs.Journal.{log_of_journal}
use Rattle.mux_history.specs.Log.{Setting}
use Rattle.mux_history.specs.Promises.{is_still_accepting}
use Rattle.mux_history.specs.Rows.{Row, is_run_over}
use Rattle.mux_state.specs.State.{EngineState}

-- clients may be accepted: no row so far ended the run, and none serves STOP_LISTENING
pub record MayLetIn (rows : List Row) : Type 0 where
  pub goes_on : is_run_over rows ≡ false
  pub listening : is_still_accepting rows ≡ true

-- where a stream accepted bytes while the wire accepted clients, they may be accepted
abbrev pub AnswersInSilence : Setting → List Mark → Mark → Type 0
AnswersInSilence setting before (Takes stream bytes accepts) =
    accepts ≡ true → MayLetIn (log_of_journal setting before)
AnswersInSilence setting before mark = Unit {0}

-- the wire accepts clients only where the engine does
abbrev pub AcceptsAs : Seen → EngineState → Type 0
AcceptsAs seen s = seen.listens ≡ true → (s.ended ≡ None) × (s.listening ≡ true)
