-- What the history has of the forwarder: no row drops it.
use Rattle.std.specs.Prelude.{ℕ, ◌≡◌, ◌≢◌, ◌<◌, ◌^◌, Bool, false, List, ◌∷◌, Option}
use Rattle.mux_outside.specs.House.{HouseState}
use Rattle.mux_outside.specs.HouseCalls.{Begins, HouseCall}
use Rattle.mux_outside.specs.Seen.{Seen}
use Rattle.mux_outside.specs.declared.starts.Starts.{Starts}
use Rattle.mux_outside.specs.declared.house_mark.HouseMark.{HouseMark}
use Rattle.mux_outside.specs.declared.house.HouseReply.{HouseReply}
use Rattle.mux_outside.specs.declared.mark.Mark.{Mark}
use Rattle.mux_history.specs.declared.ended.Ended.{Ended}
use Rattle.mux_history.specs.declared.ended.Ended.TheVariants.{OutOfMemory}
use Rattle.mux_history.specs.declared.limits.TheConstants.{HOUSE}
use Rattle.mux_history.specs.Journal.{IsLawful, log_of_journal}
use Rattle.mux_history.specs.Log.{Setting}
use Rattle.mux_history.specs.Policy.{Policy}
use Rattle.mux_history.specs.Promises.{SpeaksInTime, Throughout, WaitsAt}
use Rattle.mux_history.specs.Right.{AreFresh}
use Rattle.mux_history.specs.Rows.{is_lost, rows_of}
use Rattle.mux_history.specs.Settings.{by_lists}
use Rattle.mux_history.specs.Wires.{ReadsWhenAsked}
use Rattle.mux_engine.specs.Answers.{AnswersOpen}
use Rattle.mux_engine.specs.Called.{calls_in}
use Rattle.mux_engine.specs.Places.{IsOfOthers}
use Rattle.mux_engine.specs.Run.{IsRun, setting_of}
use Rattle.house_forward.specs.RelayTraces.{Trace, TraceReaches, first_trace, accepted_length_in}
use Rattle.ssh_mux.specs.Starts.{BeganWith, BegunRests}

-- ---- journals

-- A journal that a wire can give, with what is promised of its waits, of what the forwarder sends
-- and of what it answers. Nothing happens to a stream with its number, and each number was fresh.
-- The forwarder began with some forwardings, after which its calls that the journal has lead to
-- this trace.
pub record IsHoused (setting : Setting) (journal : List Mark) (trace : Trace) : Type 0 where
  pub lawful : IsLawful journal
  pub asked : Throughout ReadsWhenAsked journal
  pub waits : Throughout (WaitsAt setting) journal
  pub speaks : Throughout (SpeaksInTime setting) journal
  pub answered : Throughout (AnswersOpen setting) journal
  pub others : Throughout IsOfOthers journal
  pub fresh : AreFresh (log_of_journal setting journal)
  pub starts : Starts
  pub reached : TraceReaches first_trace (Begins starts ∷ calls_in setting journal) trace

-- then no row drops the forwarder, whatever is permitted, numbers are picked, clients and the
-- server send
abbrev pub HouseStays : Type 0
HouseStays = (policy : Policy) (pid : ℕ) (picks : List ℕ) (replies : List HouseReply) (journal : List Mark) (trace : Trace)
    → IsHoused (by_lists policy pid picks replies) journal trace
    → is_lost (rows_of HOUSE (log_of_journal (by_lists policy pid picks replies) journal)) ≡ false

-- ---- runs of the program

-- whatever calls the forwarder represents, they lead to a trace, unless its own streams accepted
-- 2^64 bytes or more in all
abbrev pub LeadsOn : (List HouseCall → Type 0) → Type 0
LeadsOn stands = (calls : List HouseCall) → stands calls → accepted_length_in calls < 2 ^ 64
    → (trace : Trace) × TraceReaches first_trace calls trace

-- no row drops the forwarder in a run that it began with some forwardings, unless memory ran out or
-- its own streams accepted so much
abbrev pub RunsKeep : {T : Type 0} → (HouseReply → Type 0) → (T → HouseState) → T → Type 0
RunsKeep May state house = (present : Bool) (starts : Starts) (policy : Policy) (pid turns : ℕ)
    (before : Option (List HouseMark)) (start : Option (List Mark)) (seen : Seen)
    (refused : Option ℕ) (answer : Ended)
    → (run : IsRun May (BegunRests state present starts).rests (BeganWith starts)
    (state house) present policy pid turns before (state house).recorded start seen refused
    answer)
    → answer ≢ OutOfMemory
    → accepted_length_in (calls_in (setting_of policy pid run.choices) run.wire.journal) < 2 ^ 64
    → is_lost (rows_of HOUSE run.log.rows) ≡ false
