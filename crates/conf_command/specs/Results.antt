-- What the reading of words returned.
use Rattle.std.specs.Prelude.{◌≡◌, Result, Ok, Err}
use Rattle.conf_rules.specs.declared.command.Command.{Command}
use Rattle.conf_rules.specs.CommandLine.{ReadCommand}
use Rattle.conf_command.specs.declared.reader.WordsError.{WordsError}
use Rattle.conf_command.specs.declared.reader.WordsError.TheVariants.{Refused, OutOfMemory}

-- an error is the refusal of the reading, but memory may run out at any time
abbrev pub CommandFails : WordsError → ReadCommand → Type 0
CommandFails (Refused e) reading = reading ≡ Err e
CommandFails OutOfMemory reading = Unit {0}

-- what was returned is the reading, unless memory ran out
abbrev pub GivesCommand : Result Command WordsError → ReadCommand → Type 0
GivesCommand (Ok command) reading = reading ≡ Ok command
GivesCommand (Err e) reading = CommandFails e reading
