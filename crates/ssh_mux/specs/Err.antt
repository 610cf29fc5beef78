-- What the standard error has accepted.
use Rattle.std.specs.Prelude.{◌≡◌, ℕ, Bool, true, false, IsTrue, List, ◌⊎◌, Option, Result, Ok, Err}
use Rattle.conf_rules.specs.Diagnostics.{Ending, BadWords, BadLine, BadListing, ServerBroke, NoMemory, line_of}
use Rattle.conf_rules.specs.Recorded.{Recorded}
use Rattle.mux_outside.specs.Counts.{HasCause, counted}
use Rattle.mux_outside.specs.declared.file_error.FileError.{FileError}
use Rattle.mux_outside.specs.declared.file_error.FileError.TheVariants.{OutOfMemory}
use Rattle.mux_outside.specs.Sink.{TakesRecorded}
use Rattle.ssh_mux.specs.declared.ending.Ending.{Ending as MeantEnding}
use Rattle.ssh_mux.specs.declared.status.Status.{Status}
use Rattle.ssh_mux.specs.declared.status.Status.TheVariants.{Done, Write, Memory}
use Rattle.ssh_mux.specs.Answers.{IsDue, IsWell}
use Rattle.ssh_mux.specs.Causes.{EndCause}
use Rattle.ssh_mux.specs.Ending.{ending_shown}
use Rattle.ssh_mux.specs.Outcomes.{KnownCommand}
use Rattle.ssh_mux.specs.Places.{EndPlace}
use Rattle.ssh_mux.specs.Status.{status_of}
use Rattle.ssh_mux.specs.World.{OutState, World}

-- ---- a line

-- the status after the sink's answer to a line: that of running out of memory where it had none for
-- the line, and else its own
abbrev pub status_after : Result (Unit {0}) FileError → Status → Status
status_after (Err OutOfMemory) status = Memory
status_after answer status = status

-- a line was handed to the sink whole, which gave this answer: it accepted all, or failed and
-- accepted a prefix, or had no memory for it and accepted nothing
pub record PutsLine (result status : Status) (line : List ℕ) (before now : Option (List ℕ))
    (faults faults' : ℕ) : Type 0 where
  pub answer : Result (Unit {0}) FileError
  pub taken : TakesRecorded answer before now line
  pub cause : HasCause answer faults faults'
  pub has_status : result ≡ status_after answer status

-- ---- the line of an ending

-- whether it is put together of parts, for which memory is needed
abbrev pub is_built : Ending → Bool
is_built (BadWords e) = true
is_built (BadLine e) = true
is_built (BadListing e) = true
is_built (ServerBroke index why) = true
is_built ending = false

-- the line of an ending was handed over; or there was no memory to put it together, and the
-- out-of-memory line was
abbrev pub Reports : Status → Ending → Option (List ℕ) → Option (List ℕ) → ℕ → ℕ → Type 0
Reports result ending before now faults faults' =
    PutsLine result (status_of ending) (line_of ending) before now faults faults'
    ⊎ (IsTrue (is_built ending)
    × PutsLine result Memory (line_of NoMemory) before now faults faults')

-- the outcome of a call was reported so, with this status: without a line where it has a status of
-- its own, and else with the line of its ending, which was handed over once
abbrev pub IsRecordedBy : Result Status MeantEnding → Status → OutState → OutState → Type 0
IsRecordedBy (Ok due) status err err' = (status ≡ due) × (err' ≡ err)
IsRecordedBy (Err ending) status err err' =
    Reports status (ending_shown ending) err.recorded err'.recorded err.faults err'.faults
    × (err'.puts ≡ counted err.puts)

-- the run ended by an ending that is due, which was reported with this status, and whose fault, if
-- it is one, raised its count and is reported where it came up: a failed read with its path
pub record EndsByEnding (known : KnownCommand) (recorded : Option Recorded) (status : Status) (before after : World) :
    Type 0 where
  pub ending : Ending
  pub is_due : IsDue known ending
  pub reported : Reports status ending before.err.recorded after.err.recorded before.err.faults
      after.err.faults
  pub cause : EndCause ending before.files.faults after.files.faults before.commands.faults
      after.commands.faults
  pub place : EndPlace recorded ending before.commands.ran after.commands.ran before.files.failed
      after.files.failed

-- How a run ended: without a word where it went well or `out` failed, and else by an ending, whose
-- status it has unless there was no memory for its very line.
abbrev pub Ended : KnownCommand → Option Recorded → Status → World → World → Type 0
Ended known recorded Done before after = IsWell known Done × (after.err.recorded ≡ before.err.recorded)
Ended known recorded Write before after = IsWell known Write × (after.err.recorded ≡ before.err.recorded)
Ended known recorded status before after = EndsByEnding known recorded status before after
