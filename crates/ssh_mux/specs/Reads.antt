-- Which files were read.
use Rattle.std.specs.Prelude.{Option, Some, None, Result, Ok, Err}
use Rattle.conf_reader.specs.ToRead.{ReadsSome}
use Rattle.conf_resolve.specs.Readings.{Readings, ReadsAll}
use Rattle.conf_rules.specs.ReadOrder.{all_reads}
use Rattle.conf_rules.specs.Recorded.{Recorded}
use Rattle.ssh_mux.specs.declared.ending.Ending.{Ending}
use Rattle.ssh_mux.specs.declared.status.Status.{Status}
use Rattle.ssh_mux.specs.declared.status.Status.TheVariants.{Config, Outside, Memory}
use Rattle.ssh_mux.specs.Ending.{ending_shown}
use Rattle.ssh_mux.specs.Status.{status_of}

-- the files that the lines name were read, in their order and each with its limit; where the
-- configuration is refused, or a fault or running out of memory broke off, the first of them
abbrev pub RunReadsFor : Option Recorded → Status → Readings → Readings → Type 0
RunReadsFor (Some recorded) Config before now = ReadsSome (all_reads recorded) before now
RunReadsFor (Some recorded) Outside before now = ReadsSome (all_reads recorded) before now
RunReadsFor (Some recorded) Memory before now = ReadsSome (all_reads recorded) before now
RunReadsFor (Some recorded) status before now = ReadsAll (all_reads recorded) before now
RunReadsFor None status before now = Unit

-- the same of a call that found something
abbrev pub RunReadsUnless : {A : Type 0} → Option Recorded → Result A Ending → Readings → Readings
    → Type 0
RunReadsUnless recorded (Err ending) before now = RunReadsFor recorded (status_of (ending_shown ending)) before now
RunReadsUnless (Some recorded) (Ok x) before now = ReadsAll (all_reads recorded) before now
RunReadsUnless None (Ok x) before now = Unit
