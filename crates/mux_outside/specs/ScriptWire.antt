-- How a wire in memory follows its script.
use Rattle.std.specs.Prelude.{◌≡◌, ◌<◌, ◌≤◌, ◌⊎◌, ℕ, Bool, true, false, List, slice_index, Result, Ok, Err}
use Rattle.mux_outside.specs.Streams.{among}
use Rattle.mux_outside.specs.declared.file_error.FileError.{FileError}
use Rattle.mux_outside.specs.declared.file_error.FileError.TheVariants.{Failed, OutOfMemory}
use Rattle.mux_outside.specs.Counts.{counted}
use Rattle.mux_outside.specs.Seen.{Seen}
use Rattle.mux_outside.specs.WireLog.{nothing_logged}
use Rattle.mux_outside.specs.Script.{is_given, from_first, turn_of, piece_of, steps_after, steps_from, write_entry_at, write_answer}
use Rattle.mux_outside.specs.declared.script.Step.{Step}
use Rattle.mux_outside.specs.declared.script.WriteEntry.{WriteEntry}
use Rattle.mux_outside.specs.declared.turn.Want.{Want}
use Rattle.mux_outside.specs.declared.turn.Want.TheVariants.{Read, WriteOnly}
use Rattle.mux_outside.specs.declared.turn.Turn.{Turn}
use Rattle.mux_outside.specs.declared.turn.Turn.TheVariants.{Writable}
use Rattle.mux_outside.specs.declared.turn.Wrote.{Wrote}
use Rattle.mux_outside.specs.declared.own_streams.TheConstants.{LAST_OWN}
use Rattle.mux_outside.specs.declared.plan.Place.{Place}
use Rattle.mux_outside.specs.declared.script_wire.ScriptWire.{ScriptWire}

-- the steps from a place on without those that are skipped now
abbrev pub steps_ahead : Seen → List Step → Place → List Step
steps_ahead seen steps place = from_first (is_given seen) (steps_from steps place)

-- a turn is that of the next step that isn't skipped, and the place after it leaves those after it
pub record GivesStep (seen : Seen) (steps : List Step) (old new : Place) (turn : Turn)
    (before after : List ℕ) : Type 0 where
  pub turn_is : turn ≡ turn_of seen.last (steps_ahead seen steps old)
  pub piece_is : after ≡ piece_of (steps_ahead seen steps old) before
  pub left_are : steps_from steps new ≡ steps_after (steps_ahead seen steps old)

-- a turn is that the first waiting stream accepts bytes again, and no step was given
pub record FreesFirst (waiting : List ℕ) (old new : Place) (turn : Turn) (before after : List ℕ)
    : Type 0 where
  pub turn_is : turn ≡ Writable (slice_index waiting 0)
  pub piece_is : after ≡ before
  pub left_are : new ≡ old

-- the turn of a wait, the buffer and the place after it
abbrev pub GivesAt : Want → List ℕ → Seen → List Step → Place → Place → Turn → List ℕ → List ℕ
    → Type 0
GivesAt Read waiting seen steps old new turn before after =
    GivesStep seen steps old new turn before after
GivesAt WriteOnly waiting seen steps old new turn before after =
    FreesFirst waiting old new turn before after

-- the steps that are left stay
pub record KeepsSteps (old new : ScriptWire) : Type 0 where
  pub steps_kept : new.steps ≡ old.steps
  pub place_kept : new.place ≡ old.place

-- the entries that are left stay
pub record KeepsWrites (old new : ScriptWire) : Type 0 where
  pub writes_kept : new.writes ≡ old.writes
  pub written_kept : new.written ≡ old.written

-- which calls of open, listen and connect fail stays
pub record KeepsOpens (old new : ScriptWire) : Type 0 where
  pub fails_kept : new.fails ≡ old.fails
  pub opens_kept : new.opens ≡ old.opens

-- the script stays
pub record SameScript (old new : ScriptWire) : Type 0 where
  pub steps_kept : KeepsSteps old new
  pub writes_kept : KeepsWrites old new
  pub opens_kept : KeepsOpens old new

-- what a wait gives
pub record GivesNext (want : Want) (waiting : List ℕ) (old new : ScriptWire) (turn : Turn)
    (before after : List ℕ) : Type 0 where
  pub gives : GivesAt want waiting old.log.state.seen old.steps old.place new.place turn
      before after
  pub steps_kept : new.steps ≡ old.steps

-- a write followed its entry
pub record FollowsEntry (len : ℕ) (old new : ScriptWire) (wrote : Wrote) : Type 0 where
  pub wrote_is : wrote ≡ write_answer (write_entry_at old.writes old.written) len
  pub writes_kept : new.writes ≡ old.writes
  pub written_is : new.written ≡ counted old.written

-- a call of open that was counted, and whether it is one of those that fail
pub record CountsOpen (fails : Bool) (old new : ScriptWire) : Type 0 where
  pub number_fails : among (counted old.opens) old.fails ≡ fails
  pub opens_are : new.opens ≡ counted old.opens
  pub fails_kept : new.fails ≡ old.fails

-- a call of open fails exactly if its number is among those that fail, and isn't counted if memory
-- ran out
abbrev pub OpensByNumber : Result (Unit {0}) FileError → ScriptWire → ScriptWire → Type 0
OpensByNumber (Ok x) old new = CountsOpen false old new
OpensByNumber (Err Failed) old new = CountsOpen true old new
OpensByNumber (Err OutOfMemory) old new = KeepsOpens old new

-- a call of listen or connect fails where its number is among those that fail or none is left for
-- what was to be made, and isn't counted if memory ran out
abbrev pub MakesByNumber : Result ℕ FileError → ScriptWire → ScriptWire → Type 0
MakesByNumber (Ok n) old new = CountsOpen false old new × (old.log.state.seen.last_own < LAST_OWN)
MakesByNumber (Err Failed) old new =
    (among (counted old.opens) old.fails ≡ true) ⊎ (LAST_OWN ≤ old.log.state.seen.last_own)
MakesByNumber (Err OutOfMemory) old new = KeepsOpens old new

-- a wire at the start of its script
pub record Starts (w : ScriptWire) (steps : List Step) (writes : List WriteEntry) (fails : List ℕ)
    : Type 0 where
  pub steps_are : w.steps ≡ steps
  pub place_is : w.place ≡ record { step = 0; offset = 0 }
  pub writes_are : w.writes ≡ writes
  pub written_is : w.written ≡ 0
  pub fails_are : w.fails ≡ fails
  pub opens_are : w.opens ≡ 0
  pub log_is : w.log ≡ nothing_logged
