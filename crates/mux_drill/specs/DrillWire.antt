-- What the calls of a drill's wire leave.
use Rattle.std.specs.Prelude.{◌≡◌, ◌≢◌, ℕ, List, length, Option, Some, None, Result, Ok, Err}
use Rattle.mux_outside.specs.Tally.{no_tally}
use Rattle.mux_outside.specs.WireLog.{nothing_logged}
use Rattle.mux_outside.specs.declared.file_error.FileError.{FileError}
use Rattle.mux_outside.specs.declared.file_error.FileError.TheVariants.{Failed as FailedFile, OutOfMemory}
use Rattle.mux_outside.specs.declared.turn.Tally.{Tally}
use Rattle.mux_outside.specs.declared.turn.Turn.{Turn}
use Rattle.mux_outside.specs.declared.turn.Turn.TheVariants.{End, Got, NoMemory}
use Rattle.mux_outside.specs.declared.turn.Want.{Want}
use Rattle.mux_outside.specs.declared.turn.Want.TheVariants.{Read, WriteOnly}
use Rattle.mux_outside.specs.declared.turn.Wrote.{Wrote}
use Rattle.mux_outside.specs.declared.turn.Wrote.TheVariants.{Took}
use Rattle.mux_drill.specs.Trace.{full_tally, tally_at}
use Rattle.mux_drill.specs.Inboxes.{with_more_bytes}
use Rattle.mux_drill.specs.Play.{next_turn, next_piece, next_play, IsNothing, PlayStarts}
use Rattle.mux_drill.specs.declared.plan.Plan.{Plan}
use Rattle.mux_drill.specs.declared.stage.DrillStage.TheVariants.{Ending}
use Rattle.mux_drill.specs.declared.drill_wire.DrillWire.{DrillWire}

-- what was counted
abbrev pub tally_of : DrillWire → Tally
tally_of w = tally_at w.play.trace

-- all clients have ended
abbrev pub IsDrillOver : DrillWire → Type 0
IsDrillOver w = w.play.trace.stage ≡ Ending

-- a wire that isn't open
pub record IsNewDrill (w : DrillWire) : Type 0 where
  pub play_is : IsNothing w.play
  pub log_is : w.log ≡ nothing_logged

-- what is played stays
abbrev pub SamePlay : DrillWire → DrillWire → Type 0
SamePlay old new = new.play ≡ old.play

-- a plan was read, and its play begins with nothing counted
pub record DrillBegins (plan : Option Plan) (new : DrillWire) (read : Plan) : Type 0 where
  pub plan_is : plan ≡ Some read
  pub starts : PlayStarts read new.play
  pub tally_is : tally_of new ≡ no_tally

-- no plan was read
pub record ReadsNone (plan : Option Plan) (old new : DrillWire) : Type 0 where
  pub plan_is : plan ≡ None
  pub same : SamePlay old new

-- a call of open succeeds exactly where its transport reads as a plan, unless memory runs out
abbrev pub DrillOpens : Result (Unit {0}) FileError → Option Plan → DrillWire → DrillWire → Type 0
DrillOpens (Ok x) plan old new = DrillBegins plan new new.play.trace.plan
DrillOpens (Err FailedFile) plan old new = ReadsNone plan old new
DrillOpens (Err OutOfMemory) plan old new = SamePlay old new

-- a wait gave the next turn
pub record PlaysNext (old new : DrillWire) (turn : Turn) (bytes : List ℕ) : Type 0 where
  pub turn_is : turn ≡ next_turn old.play old.log.state.seen
  pub piece_is : (t : ℕ) → turn ≡ Got t → bytes ≡ next_piece old.play
  pub play_is : new.play ≡ next_play old.play old.log.state.seen

-- what a wait plays: the next turn where streams are read, and nothing if none is or if memory runs
-- out
pub record Plays (want : Want) (turn : Turn) (bytes : List ℕ) (old new : DrillWire) : Type 0 where
  pub given : want ≡ Read → turn ≢ NoMemory → PlaysNext old new turn bytes
  pub idle : want ≡ WriteOnly → SamePlay old new
  pub starved : turn ≡ NoMemory → SamePlay old new

-- where the server's stream ends the drill is over and all of the plan is counted, and where it is
-- over nothing more is
pub record CountsToTheEnd (turn : Turn) (old new : DrillWire) : Type 0 where
  pub drilled : turn ≡ End 0 → tally_of new ≡ full_tally old.play.trace.plan
  pub ends : turn ≡ End 0 → IsDrillOver new
  pub over : IsDrillOver old → tally_of new ≡ tally_of old

-- a write accepted all bytes, and they wait to be read
pub record TakesAll (stream : ℕ) (bytes : List ℕ) (old new : DrillWire) (wrote : Wrote) :
    Type 0 where
  pub wrote_is : wrote ≡ Took (length bytes)
  pub play_is : new.play ≡ record old.play { unread = with_more_bytes stream bytes old.play.unread }
