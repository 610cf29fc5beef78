-- Which commands were run.
use Rattle.std.specs.Prelude.{List, Option, Some, None, Result, Ok, Err}
use Rattle.conf_match.specs.Evaluated.{RanAll, RanSome}
use Rattle.conf_rules.specs.declared.command.Command.{Command}
use Rattle.conf_rules.specs.CommandOutcome.{Machine, command_execs, ran_for}
use Rattle.conf_rules.specs.Texts.{Bytes}
use Rattle.ssh_mux.specs.declared.ending.Ending.{Ending}
use Rattle.ssh_mux.specs.declared.status.Status.{Status}
use Rattle.ssh_mux.specs.declared.status.Status.TheVariants.{Outside, Memory}
use Rattle.ssh_mux.specs.Ending.{ending_shown}
use Rattle.ssh_mux.specs.Status.{status_of}

-- the commands that a command reaches, if the machine is recorded
unfoldable pub commands_of : Option Machine → Command → Option (List Bytes)
commands_of (Some m) command = Some (command_execs m command)
commands_of None command = None

-- the commands that are run for words, if the machine is recorded
unfoldable pub commands_for : Option Machine → List Bytes → Option (List Bytes)
commands_for (Some m) words = Some (ran_for m words)
commands_for None words = None

-- these commands were run, in order and after those before; if a fault or running out of memory
-- broke off, the first of them
abbrev pub RunsFor :
    Option (List Bytes) → Status → Option (List Bytes) → Option (List Bytes) → Type 0
RunsFor (Some commands) Outside before now = RanSome before now commands
RunsFor (Some commands) Memory before now = RanSome before now commands
RunsFor (Some commands) status before now = RanAll before now commands
RunsFor None status before now = Unit

-- the same of a call that found something
abbrev pub RunsUnless : {A : Type 0} →
    Option (List Bytes) → Result A Ending → Option (List Bytes) → Option (List Bytes) → Type 0
RunsUnless commands (Err ending) before now =
    RunsFor commands (status_of (ending_shown ending)) before now
RunsUnless (Some commands) (Ok x) before now = RanAll before now commands
RunsUnless None (Ok x) before now = Unit
