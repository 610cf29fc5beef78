-- The moments of a run at which something is promised of the forwarder.
use Rattle.std.specs.Prelude.{◌≡◌, ℕ, List, ◌∷◌, ◌++◌}
use Rattle.mux_outside.specs.HouseCalls.{Begins, HouseCall, Marks}
use Rattle.mux_outside.specs.declared.house_mark.HouseMark.{HouseMark}
use Rattle.mux_outside.specs.declared.mark.Mark.{Mark}
use Rattle.mux_outside.specs.declared.mark.Mark.TheVariants.{House, Waits}
use Rattle.mux_outside.specs.declared.shown.Shown.{Shown}
use Rattle.mux_outside.specs.declared.starts.Starts.{Starts}
use Rattle.mux_outside.specs.declared.turn.Want.TheVariants.{Read}
use Rattle.mux_history.specs.Log.{Setting}
use Rattle.mux_engine.specs.Called.{calls_in}
use Rattle.house_forward.specs.ForwarderEvents.{Does, ForwarderEvent, Happen, Leave}
use Rattle.house_forward.specs.ForwardingState.{ForwardingState}
use Rattle.house_forward.specs.RelayTraces.{Follows, Trace, TraceReaches, first_trace}

-- a run of the program as its forwarder has it: the forwardings that it began with, and the journal
pub record ForwarderRun : Type 0 where
  pub setting : Setting
  pub starts : Starts
  pub journal : List Mark

-- the forwarder's calls up to a moment: its beginning, then what the marks up to there hand to it
abbrev pub calls_up_to : ForwarderRun → List Mark → List HouseCall
calls_up_to run earlier = Begins run.starts ∷ calls_in run.setting earlier

-- a moment of the run, after the earlier of its marks: the calls up to there lead to this trace
pub record IsMoment (run : ForwarderRun) (earlier : List Mark) (trace : Trace) : Type 0 where
  pub later : List Mark
  pub are : run.journal ≡ later ++ earlier
  pub reached : TraceReaches first_trace (calls_up_to run earlier) trace

-- this is so at each moment, whichever trace its calls lead to
abbrev pub AtEachMoment : ForwarderRun → (List Mark → Trace → Type 0) → Type 0
AtEachMoment run So = (earlier : List Mark) (trace : Trace) → IsMoment run earlier trace → So earlier trace

-- at each moment its calls lead to some trace
abbrev pub HasMoments : ForwarderRun → Type 0
HasMoments run = (later earlier : List Mark) → run.journal ≡ later ++ earlier
    → (trace : Trace) × IsMoment run earlier trace

-- a mark of the forwarder in the run, after the earlier marks, and the trace before and after it
pub record IsMarked (run : ForwarderRun) (mark : HouseMark) (earlier : List Mark) (old new : Trace) :
    Type 0 where
  pub later : List Mark
  pub are : run.journal ≡ later ++ House mark ∷ earlier
  pub reached : TraceReaches first_trace (calls_up_to run earlier) old
  pub follows : Follows (Marks mark) old new

-- this is so wherever the run has this mark, by the calls before it and by the trace before it
abbrev pub WhereverMarked : ForwarderRun → HouseMark → (List HouseCall → Trace → Type 0) → Type 0
WhereverMarked run mark So = (earlier : List Mark) (old new : Trace)
    → IsMarked run mark earlier old new → So (calls_up_to run earlier) old

-- an event of the run, after those before it, and what these leave and it leaves
pub record IsRunEvent (run : ForwarderRun) (event : ForwarderEvent) (before : List ForwarderEvent)
    (old new : ForwardingState) : Type 0 where
  pub earlier : List Mark
  pub trace : Trace
  pub moment : IsMoment run earlier trace
  pub later : List ForwarderEvent
  pub happened : Happen first_trace (calls_up_to run earlier) (later ++ event ∷ before) trace
  pub left : Leave before old
  pub does : Does event old new

-- this is so wherever this event is one of the run
abbrev pub AtEachEvent : ForwarderRun → ForwarderEvent
    → (List ForwarderEvent → ForwardingState → ForwardingState → Type 0) → Type 0
AtEachEvent run event So = (before : List ForwarderEvent) (old new : ForwardingState)
    → IsRunEvent run event before old new → So before old new

-- at each wait at which more is read, the calls before it lead to a trace of which this is so
abbrev pub AtEachRead : ForwarderRun → (List Mark → Trace → Type 0) → Type 0
AtEachRead run So = (later earlier : List Mark) (waiting streams : List ℕ) (shown : Shown)
    → run.journal ≡ later ++ Waits waiting Read streams shown ∷ earlier
    → (trace : Trace) × IsMoment run earlier trace × So earlier trace
