-- What a drill opens, how its run goes, and what it writes.
use Rattle.std.specs.Prelude.{◌≡◌, ℕ, Bool, false, IsTrue, ◌⊎◌, List, [], ◌∷◌, ◌++◌, codes, Option, None, Result, Ok, Err}
use Rattle.conf_rules.specs.Diagnostics.{NoMemory}
use Rattle.conf_rules.specs.Numbers.{digits_of}
use Rattle.conf_rules.specs.Texts.{Bytes}
use Rattle.mux_engine.specs.Run.{IsRun}
use Rattle.mux_engine.specs.Sides.{Resting, RestsOf}
use Rattle.mux_history.specs.declared.ended.Ended.{Ended}
use Rattle.mux_history.specs.Policy.{any_policy}
use Rattle.mux_outside.specs.NoHouse.{no_house}
use Rattle.mux_outside.specs.HouseCalls.{HouseCall}
use Rattle.mux_outside.specs.Seen.{Seen}
use Rattle.mux_outside.specs.WireState.{WireState}
use Rattle.mux_outside.specs.declared.file_error.FileError.TheVariants.{Failed}
use Rattle.mux_outside.specs.declared.house.HouseReply.{HouseReply}
use Rattle.mux_outside.specs.declared.house.HouseReply.TheVariants.{Refused}
use Rattle.mux_outside.specs.declared.mark.Mark.{Mark}
use Rattle.mux_outside.specs.declared.no_house.NoHouse.{NoHouse}
use Rattle.mux_outside.specs.declared.turn.Tally.{Tally}
use Rattle.mux_outside.specs.Sink.{TakesRecorded}
use Rattle.ssh_mux.specs.declared.ending.Ending.{Ending as MeantEnding}
use Rattle.ssh_mux.specs.declared.ending.Ending.TheVariants as endings
use Rattle.ssh_mux.specs.declared.status.Status.{Status}
use Rattle.ssh_mux.specs.declared.status.Status.TheVariants.{Done, Write, Open, Memory}
use Rattle.ssh_mux.specs.Answers.{has_no_line, so_far}
use Rattle.ssh_mux.specs.Ending.{ending_shown}
use Rattle.ssh_mux.specs.Err.{Reports}
use Rattle.ssh_mux.specs.Master.{ends_sharing}
use Rattle.ssh_mux.specs.Out.{HandsOver}
use Rattle.ssh_mux.specs.Sharing.{IsUnserved, OpensAt, recorded_as}
use Rattle.ssh_mux.specs.World.{World}

-- ---- texts

-- the transport: the three words after `--drill`, as they were given, with spaces between them
unfoldable pub drill_transport : List Bytes → Bytes
drill_transport (first ∷ seed ∷ clients ∷ messages ∷ more) =
    seed ++ (32 ∷ clients ++ (32 ∷ messages))
drill_transport words = []

-- a line of the summary
unfoldable pub count_line : Bytes → ℕ → Bytes
count_line name count = name ++ (digits_of count ++ 10 ∷ [])

-- the summary of what a wire has counted
unfoldable pub drill_text : Tally → Bytes
drill_text tally =
    count_line (codes "clients ") tally.clients
    ++ (count_line (codes "messages ") tally.messages
    ++ (count_line (codes "data-up ") tally.data_up
    ++ (count_line (codes "data-down ") tally.data_down
    ++ count_line (codes "closed ") tally.closed)))

-- ---- the run

-- the only reply of a master with no forwardings of its own
abbrev pub RefusesAll : HouseReply → Type 0
RefusesAll reply = reply ≡ Refused

-- it has no forwarder, so none waits
abbrev pub NoneRests : Resting
NoneRests = RestsOf {T = NoHouse} (λ house. no_house) false (record {})

-- it represents any calls
abbrev pub AnyCalls : List HouseCall → Type 0
AnyCalls calls = Unit {0}

-- What was written of the end of a run. Where it ended well: the summary, without a word; a prefix
-- of it where it could not be written; or nothing but the out-of-memory line. Else the line of
-- its ending.
abbrev pub DrillRecords : Result Status MeantEnding → Tally → Status
    → Option (List ℕ) → Option (List ℕ) → Option (List ℕ) → Option (List ℕ) → ℕ → ℕ → Type 0
DrillRecords (Ok due) tally Done out out' err err' faults faults' =
    TakesRecorded (Ok tt) out out' (drill_text tally) × (err' ≡ err)
DrillRecords (Ok due) tally Write out out' err err' faults faults' =
    TakesRecorded (Err Failed) out out' (drill_text tally) × (err' ≡ err)
DrillRecords (Ok due) tally Memory out out' err err' faults faults' =
    (out' ≡ out) × Reports Memory NoMemory err err' faults faults'
DrillRecords (Ok due) tally status out out' err err' faults faults' = ⊥
DrillRecords (Err ending) tally status out out' err err' faults faults' =
    (out' ≡ out) × Reports status (ending_shown ending) err err' faults faults'

-- A run that keeps its promises, for clients that are permitted anything and are sent process id 0,
-- and what was written of its end; `start` is what the wire recorded before, and `seen` is seen of
-- it in the end.
pub record IsDrilled (turns : ℕ) (start : Option (List Mark)) (seen : Seen) (tally : Tally)
    (status : Status) (out out' err err' : Option (List ℕ)) (faults faults' : ℕ) : Type 0 where
  pub answer : Ended
  pub run :
      IsRun RefusesAll NoneRests.rests AnyCalls no_house false any_policy 0 turns None None start
      seen None answer
  pub ends : DrillRecords (recorded_as answer) tally status out out' err err' faults faults'

-- nothing is served, and no summary is written
abbrev pub IsUndrilled :
    Option (List Mark) → Seen → Option (List ℕ) → Option (List ℕ) → Type 0
IsUndrilled start seen out out' = IsUnserved None None start seen × (out' ≡ out)

-- where the wire wasn't opened nothing is served
abbrev pub DrillServes : ℕ → Option (List Mark) → Seen → Tally → Status
    → Option (List ℕ) → Option (List ℕ) → Option (List ℕ) → Option (List ℕ) → ℕ → ℕ → Type 0
DrillServes turns start seen tally Open out out' err err' faults faults' =
    IsUndrilled start seen out out'
DrillServes turns start seen tally Memory out out' err err' faults faults' =
    IsUndrilled start seen out out'
    ⊎ IsDrilled turns start seen tally Memory out out' err err' faults faults'
DrillServes turns start seen tally status out out' err err' faults faults' =
    IsDrilled turns start seen tally status out out' err err' faults faults'

-- A drill: its wire was opened once, with an empty control path and its words for a transport,
-- unless memory ran out. It was served, and its end was reported.
pub record IsDrill (words : List Bytes) (turns : ℕ) (status : Status) (before after : World) :
    Type 0 where
  pub opened : OpensAt [] (drill_transport words) status before.wire.openings after.wire.openings
  pub served : DrillServes turns before.wire.seen.recorded after.wire.seen after.wire.tally status
      before.out.recorded after.out.recorded before.err.recorded after.err.recorded before.err.faults
      after.err.faults

-- ---- before a line is written

-- whether a drill ends so: as a master whose control path was found, which has no forwardings of
-- its own
abbrev pub ends_drilling : MeantEnding → Bool
ends_drilling endings.StartRefused = false
ends_drilling ending = ends_sharing ending

-- it ends without a line, or by such an ending
abbrev pub EndsDrill : Result Status MeantEnding → Type 0
EndsDrill (Ok status) = IsTrue (has_no_line status)
EndsDrill (Err ending) = IsTrue (ends_drilling ending)

-- where its run ended well, the summary was handed over
abbrev pub SumsUp : Result Status MeantEnding → Tally → Result Status MeantEnding
    → Option (List ℕ) → Option (List ℕ) → Type 0
SumsUp (Ok due) tally result out out' = HandsOver result (drill_text tally) out out'
SumsUp (Err ending) tally result out out' = (result ≡ Err ending) × (out' ≡ out)

-- a run that keeps its promises, and what was handed over of its end
pub record RunsDrill (turns : ℕ) (start : Option (List Mark)) (seen : Seen) (tally : Tally)
    (result : Result Status MeantEnding) (out out' : Option (List ℕ)) : Type 0 where
  pub answer : Ended
  pub run :
      IsRun RefusesAll NoneRests.rests AnyCalls no_house false any_policy 0 turns None None start
      seen None answer
  pub ends : SumsUp (recorded_as answer) tally result out out'

-- where the wire wasn't opened nothing is served
abbrev pub DrillShares : ℕ → Option (List Mark) → Seen → Tally
    → Result Status MeantEnding → Option (List ℕ) → Option (List ℕ) → Type 0
DrillShares turns start seen tally (Err endings.NotOpened) out out' =
    IsUndrilled start seen out out'
DrillShares turns start seen tally (Err endings.NoMemory) out out' =
    IsUndrilled start seen out out'
    ⊎ RunsDrill turns start seen tally (Err endings.NoMemory) out out'
DrillShares turns start seen tally result out out' =
    RunsDrill turns start seen tally result out out'

-- how a drill went
pub record DrillGoes (words : List Bytes) (turns : ℕ) (result : Result Status MeantEnding)
    (old new : WireState) (out out' : Option (List ℕ)) : Type 0 where
  pub ends : EndsDrill result
  pub opened : OpensAt [] (drill_transport words) (so_far result) old.openings new.openings
  pub shared : DrillShares turns old.seen.recorded new.seen new.tally result out out'
