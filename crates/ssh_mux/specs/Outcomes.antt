-- The outcome of words, as far as it is known.
use Rattle.std.specs.Prelude.{Bool, true, false, List, Option, Some, None, Ok, Err}
use Rattle.conf_rules.specs.declared.asked.Asked.{Asked}
use Rattle.conf_rules.specs.declared.command.Command.{Command}
use Rattle.conf_rules.specs.declared.command.Command.TheVariants as commands
use Rattle.conf_rules.specs.declared.control.MasterCommand.{MasterCommand}
use Rattle.conf_rules.specs.CommandLine.{ReadCommand}
use Rattle.conf_rules.specs.Diagnostics.{BadWords}
use Rattle.conf_rules.specs.CommandOutcome.{CommandOutcome, Ends, Writes, Opens, Drills, Joins, Machine}
use Rattle.conf_rules.specs.CommandOutcome.{command_outcome, outcome}
use Rattle.conf_rules.specs.Reading.{reading}
use Rattle.conf_rules.specs.Texts.{Bytes}
use Rattle.conf_tokens.specs.Known.{known}
use Rattle.mux_outside.specs.declared.facts.Facts.{Facts}
use Rattle.mux_outside.specs.declared.pairs.Pair.{Pair}
use Rattle.mux_outside.specs.declared.statuses.CommandStatus.{CommandStatus}
use Rattle.mux_outside.specs.Files.{file_content_at, names_in}
use Rattle.mux_outside.specs.Runner.{runner_status_of}
use Rattle.conf_rules.specs.declared.command.Permissions.{Permissions}

-- what is known: the whole outcome of words, or only that they ask for a listing, for a master over
-- a transport with these permissions, or for a client that asks a running master
pub data KnownCommand : Type 0 where
  Certain : CommandOutcome → KnownCommand
  Listing : KnownCommand
  Master : (transport : Bytes) (permits : Permissions) → KnownCommand
  Client : (asked : Asked) (what : MasterCommand) → KnownCommand

-- ---- the machine

-- the machine of these files and facts, in which commands end with these statuses
abbrev pub machine_of : List Pair → List CommandStatus → Facts → Machine
machine_of files statuses facts =
    record {
      content = file_content_at files;
      names = names_in files;
      facts = known facts;
      status = runner_status_of statuses;
    }

-- the machine, where both files and commands are recorded
unfoldable pub machine : Option (List Pair) → Option (List CommandStatus) → Facts → Option Machine
machine (Some files) (Some statuses) facts = Some (machine_of files statuses facts)
machine files statuses facts = None

-- ---- the outcome of words

-- what is known of a command for itself
abbrev pub known_alone : Command → KnownCommand
known_alone (commands.List asked) = Listing
known_alone (commands.Master asked transport permits) = Master transport permits
known_alone (commands.Control asked what) = Client asked what
known_alone (commands.Drill seed clients messages) = Certain (Drills seed clients messages)

-- what is known of a command over a machine
unfoldable pub of_command : Option Machine → Command → KnownCommand
of_command (Some m) command = Certain (command_outcome m command)
of_command None command = known_alone command

-- what is known of words for themselves: all of bad words and of a drill
abbrev pub untold_words : ReadCommand → KnownCommand
untold_words (Ok command) = known_alone command
untold_words (Err e) = Certain (Ends (BadWords e))

-- what is known of words over a machine: where it is recorded, all
unfoldable pub of_words : Option Machine → List Bytes → KnownCommand
of_words (Some m) words = Certain (outcome m words)
of_words None words = untold_words (reading words)

-- a master with these permissions that opens its control path
abbrev pub opens_at : Bytes → Permissions → Bytes → CommandOutcome
opens_at transport permits control = Opens control transport permits

-- a client that asks at its control path
abbrev pub joins_at : Asked → MasterCommand → Bytes → CommandOutcome
joins_at asked what control = Joins control asked what

-- ---- what it uses

-- whether files are read and commands are run
abbrev pub looks : KnownCommand → Bool
looks (Certain (Ends (BadWords e))) = false
looks (Certain (Drills seed clients messages)) = false
looks other = true

-- whether a listing, the summary of a drill or what a running master answers may be written
abbrev pub writes_out : KnownCommand → Bool
writes_out (Certain (Writes text)) = true
writes_out (Certain (Drills seed clients messages)) = true
writes_out (Certain (Joins control asked what)) = true
writes_out Listing = true
writes_out (Client asked what) = true
writes_out other = false

-- whether a drill was asked for
abbrev pub drills : KnownCommand → Bool
drills (Certain (Drills seed clients messages)) = true
drills other = false

-- whether a wire may be opened for a master
abbrev pub opens : KnownCommand → Bool
opens (Certain (Opens control transport permits)) = true
opens (Master transport permits) = true
opens other = false

-- whether a wire may be joined, and a running master asked
abbrev pub may_ask_master : KnownCommand → Bool
may_ask_master (Certain (Joins control asked what)) = true
may_ask_master (Client asked what) = true
may_ask_master other = false

-- whether it may succeed
abbrev pub succeeds : KnownCommand → Bool
succeeds (Certain (Ends ending)) = false
succeeds other = true
