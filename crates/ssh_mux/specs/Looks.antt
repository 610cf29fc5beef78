-- What a command leaves of the files and commands that its settings come from.
use Rattle.conf_rules.specs.declared.asked.Asked.{Asked}
use Rattle.conf_rules.specs.declared.command.Command.{Command}
use Rattle.conf_rules.specs.CommandOutcome.{Machine, CommandOutcome}
use Rattle.conf_rules.specs.Texts.{Bytes}
use Rattle.mux_outside.specs.declared.facts.Facts.{Facts}
use Rattle.std.specs.Prelude.{List, Option, Result}
use Rattle.ssh_mux.specs.declared.ending.Ending.{Ending}
use Rattle.ssh_mux.specs.declared.status.Status.{Status}
use Rattle.ssh_mux.specs.Answers.{Comes, Finds, so_far}
use Rattle.ssh_mux.specs.Causes.{Caused}
use Rattle.ssh_mux.specs.Commands.{RunsFor, RunsUnless, commands_of}
use Rattle.ssh_mux.specs.Outcomes.{KnownCommand, machine, of_command, of_words}
use Rattle.ssh_mux.specs.Places.{Placed, recorded_over}
use Rattle.ssh_mux.specs.Reads.{RunReadsFor, RunReadsUnless}
use Rattle.ssh_mux.specs.World.{Sources}

-- the machine of these sources, if they record
abbrev pub machine_of_sources : Sources → Facts → Option Machine
machine_of_sources from facts = machine from.files.recorded from.commands.recorded facts

-- what is known of the outcome of a command over them
abbrev pub coming : Sources → Facts → Command → KnownCommand
coming from facts command = of_command (machine_of_sources from facts) command

-- what is known of the outcome of words over them
abbrev pub coming_of_words : Sources → Facts → List Bytes → KnownCommand
coming_of_words from facts words = of_words (machine_of_sources from facts) words

-- What a call for a command leaves of them, which asks for the settings of `asked`. Its end is one
-- that is due. The commands of `Match exec` were run, and the files of the lines were read. A fault
-- is reported where it came up, and alone raised its count.
pub record Looks (facts : Facts) (command : Command) (asked : Asked) (result : Result Status Ending)
    (old new : Sources) : Type 0 where
  pub exact : Comes (coming old facts command) result
  pub ran : RunsFor (commands_of (machine_of_sources old facts) command) (so_far result)
      old.commands.ran new.commands.ran
  pub read : RunReadsFor (recorded_over (machine_of_sources old facts) asked) (so_far result)
      old.files.readings new.files.readings
  pub place : Placed (recorded_over (machine_of_sources old facts) asked) result
      old.commands.ran new.commands.ran old.files.failed new.files.failed
  pub cause : Caused result old.files.faults new.files.faults old.commands.faults
      new.commands.faults

-- The same of a call that finds something of it: what it found is what the outcome shows, and all
-- was read and run; or the ending is due.
pub record FoundFor {A : Type 0} (shows : A → CommandOutcome) (unknown : KnownCommand) (facts : Facts)
    (command : Command) (asked : Asked) (result : Result A Ending) (old new : Sources) :
    Type 0 where
  pub exact : Finds shows unknown (coming old facts command) result
  pub ran : RunsUnless (commands_of (machine_of_sources old facts) command) result
      old.commands.ran new.commands.ran
  pub read : RunReadsUnless (recorded_over (machine_of_sources old facts) asked) result
      old.files.readings new.files.readings
  pub place : Placed (recorded_over (machine_of_sources old facts) asked) result
      old.commands.ran new.commands.ran old.files.failed new.files.failed
  pub cause : Caused result old.files.faults new.files.faults old.commands.faults
      new.commands.faults
