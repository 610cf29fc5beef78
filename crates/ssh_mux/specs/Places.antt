-- Where the faults of files and commands are recorded.
use Rattle.std.specs.Prelude.{List, Option, Some, None, Result, Ok, Err}
use Rattle.conf_resolve.specs.Faults.{FailedPaths, FaultStands}
use Rattle.conf_rules.specs.CommandLine.{ReadCommand}
use Rattle.conf_rules.specs.declared.asked.Asked.{Asked}
use Rattle.conf_rules.specs.declared.command.Command.TheVariants as commands
use Rattle.conf_rules.specs.Diagnostics.{Ending, BadLine}
use Rattle.conf_rules.specs.CommandOutcome.{Machine, recorded_of}
use Rattle.conf_rules.specs.Reading.{reading}
use Rattle.conf_rules.specs.Resolution.{all_rows}
use Rattle.conf_rules.specs.Texts.{Bytes}
use Rattle.conf_rules.specs.Recorded.{Recorded}
use Rattle.ssh_mux.specs.declared.ending.Ending.{Ending as MeantEnding}
use Rattle.ssh_mux.specs.Ending.{ending_shown}

-- what is recorded of what was asked, where the machine is recorded
abbrev pub recorded_over : Option Machine → Asked → Option Recorded
recorded_over (Some m) asked = Some (recorded_of m asked)
recorded_over None asked = None

-- the same of words: those of a drill look at no files
abbrev pub recorded_by_words : Option Machine → ReadCommand → Option Recorded
recorded_by_words m (Ok (commands.List asked)) = recorded_over m asked
recorded_by_words m (Ok (commands.Master asked transport permits)) = recorded_over m asked
recorded_by_words m (Ok (commands.Control asked what)) = recorded_over m asked
recorded_by_words m reading = None

unfoldable pub recorded_for : Option Machine → List Bytes → Option Recorded
recorded_for m words = recorded_by_words m (reading words)

-- an ending that records a fault records it where it came up, with these commands run and these
-- paths failed
abbrev pub EndPlace : Option Recorded → Ending → Option (List Bytes) → Option (List Bytes) → FailedPaths
    → FailedPaths → Type 0
EndPlace (Some recorded) (BadLine e) before now failed failed_now =
    FaultStands recorded (all_rows recorded) e before now failed failed_now
EndPlace recorded ending before now failed failed_now = Unit {0}

-- the same of a call
abbrev pub Placed : {A : Type 0} →
    Option Recorded → Result A MeantEnding → Option (List Bytes) → Option (List Bytes) → FailedPaths
    → FailedPaths → Type 0
Placed recorded (Ok x) before now failed failed_now = Unit {0}
Placed recorded (Err ending) before now failed failed_now =
    EndPlace recorded (ending_shown ending) before now failed failed_now
