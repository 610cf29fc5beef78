-- What is always known of a wire, and what each call leaves of it.
use Rattle.std.specs.Prelude.{ℕ, Bool, true, false, List, [], ◌∷◌, ◌++◌, Result, Ok, Err, Option, Some, None}
use Rattle.std.specs.Option.{option_map}
use Rattle.mux_outside.specs.CallCounts.{CallCounts, no_calls, calls_after_open, calls_after_wait, calls_after_write}
use Rattle.mux_outside.specs.Seen.{Seen, nothing_seen, seen_after_open, seen_after_join, seen_after_turn, seen_after_write, moved_by_turn, moved_by_write, without_record}
use Rattle.mux_outside.specs.Tally.{no_tally}
use Rattle.mux_outside.specs.Wire.{openings_of, joinings_of}
use Rattle.mux_outside.specs.declared.file_error.FileError.{FileError}
use Rattle.mux_outside.specs.declared.mark.Mark.{Mark}
use Rattle.mux_outside.specs.declared.mark.OpenCall.{OpenCall}
use Rattle.mux_outside.specs.declared.turn.Tally.{Tally}
use Rattle.mux_outside.specs.declared.turn.Turn.{Turn}
use Rattle.mux_outside.specs.declared.turn.Turn.TheVariants.{Accepted, Got, End, Writable, Failed, Joined, NoMemory}
use Rattle.mux_outside.specs.declared.turn.Want.{Want}
use Rattle.mux_outside.specs.declared.turn.Wrote.{Wrote}
use Rattle.mux_outside.specs.declared.turn.Wrote.TheVariants.{NoMemory as NoMemoryToWrite}

-- what is seen of it: its marks, if it records them, its streams and its clients; the arguments of
-- each call of `open` and of `join`, if it records them; how often it was called, and gave what;
-- and what it counted of a drill
pub record WireState : Type 0 where
  pub seen : Seen
  pub openings : Option (List OpenCall)
  pub joinings : Option (List (List ℕ))
  pub calls : CallCounts
  pub tally : Tally

-- that of a wire that was never called and records nothing
abbrev pub nothing_called : WireState
nothing_called = record {
  seen = nothing_seen;
  openings = None;
  joinings = None;
  calls = no_calls;
  tally = no_tally;
}

-- the same of a wire that records these arguments of its calls of open and of join, and these marks
abbrev pub recording : List OpenCall → List (List ℕ) → List Mark → WireState → WireState
recording openings joinings marks state = record state {
  seen = record state.seen { recorded = Some marks };
  openings = Some openings;
  joinings = Some joinings;
}

-- the same of a wire that records nothing, and counts nothing of a drill
abbrev pub untelling : WireState → WireState
untelling state = record state {
  seen = without_record state.seen;
  openings = None;
  joinings = None;
  tally = no_tally;
}

-- ---- what each call leaves of it

-- after a call of open, and counted this of a drill
abbrev pub state_after_open : Result (Unit {0}) FileError → List ℕ → List ℕ → Tally → WireState
    → WireState
state_after_open answer control transport tally state = record state {
  seen = seen_after_open answer state.seen;
  openings = option_map (λ os. os ++ openings_of answer control transport) state.openings;
  calls = calls_after_open answer state.calls;
  tally = tally;
}

-- after a call of join
abbrev pub state_after_join : Result (Unit {0}) FileError → List ℕ → WireState → WireState
state_after_join answer control state = record state {
  seen = seen_after_join answer state.seen;
  joinings = option_map (λ js. js ++ joinings_of answer control) state.joinings;
}

-- after a call of wait that gave this turn, and counted this of a drill
abbrev pub state_after_wait : Turn → List ℕ → Want → List ℕ → Tally → WireState → WireState
state_after_wait turn waiting want bytes tally state = record state {
  seen = seen_after_turn turn waiting want bytes state.seen;
  calls = calls_after_wait turn state.calls;
  tally = tally;
}

-- after a call of write that had this answer, and counted this of a drill
abbrev pub state_after_write : Wrote → ℕ → List ℕ → Tally → WireState → WireState
state_after_write wrote stream bytes tally state = record state {
  seen = seen_after_write wrote stream bytes state.seen;
  calls = calls_after_write wrote state.calls;
  tally = tally;
}

-- after a call that changes only what is seen
abbrev pub seeing : (Seen → Seen) → WireState → WireState
seeing change state = record state { seen = change state.seen }

-- ---- the same except for what is recorded, and for what is counted of a drill

abbrev pub state_opened : Result (Unit {0}) FileError → WireState → WireState
state_opened answer state = record state {
  seen = seen_after_open answer state.seen;
  calls = calls_after_open answer state.calls;
}

abbrev pub state_waited : Turn → WireState → WireState
state_waited turn state = record state {
  seen = moved_by_turn turn state.seen;
  calls = calls_after_wait turn state.calls;
}

abbrev pub state_written : Wrote → ℕ → WireState → WireState
state_written answer stream state = record state {
  seen = moved_by_write answer stream state.seen;
  calls = calls_after_write answer state.calls;
}

-- while a write is under way: there is room for a stream that may block
abbrev pub state_in_write : ℕ → WireState → WireState
state_in_write stream state =
    seeing (λ seen. record seen { blocked = seen.blocked ++ stream ∷ [] }) state

-- whether a turn opens a stream, for which there has to be room
abbrev pub opens_stream : Turn → Bool
opens_stream (Accepted k) = true
opens_stream (Got t) = false
opens_stream (End t) = false
opens_stream (Writable t) = false
opens_stream (Failed t) = false
opens_stream (Joined l t) = true
opens_stream NoMemory = false

-- the turn that a wait gives: there may be no memory to keep it
abbrev pub turn_kept : {E : Type 0} → Result (Unit {0}) E → Turn → Turn
turn_kept (Ok x) turn = turn
turn_kept (Err e) turn = NoMemory

-- the answer that a write has: there may be no memory to keep it
abbrev pub answer_kept : {E : Type 0} → Result (Unit {0}) E → Wrote → Wrote
answer_kept (Ok x) wrote = wrote
answer_kept (Err e) wrote = NoMemoryToWrite
