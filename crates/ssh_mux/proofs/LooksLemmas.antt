-- From what a call found for a command to what the command leaves of files and commands.
use Rattle.std.proofs.Common.{ℕ, List, Option, Some, None, Result, Ok, Err}
use Rattle.conf_resolve.specs.Faults.{FailedPaths}
use Rattle.conf_rules.specs.declared.asked.Asked.{Asked}
use Rattle.conf_rules.specs.declared.command.Command.{Command}
use Rattle.conf_rules.specs.CommandOutcome.{CommandOutcome}
use Rattle.conf_rules.specs.Texts.{Bytes}
use Rattle.conf_rules.specs.Recorded.{Recorded}
use Rattle.mux_outside.specs.declared.facts.Facts.{Facts}
use Rattle.ssh_mux.specs.declared.ending.Ending.{Ending}
use Rattle.ssh_mux.specs.declared.ending.Ending.TheVariants as endings
use Rattle.ssh_mux.specs.declared.status.Status.{Status}
use Rattle.ssh_mux.specs.Answers.{Comes}
use Rattle.ssh_mux.specs.Causes.{Caused}
use Rattle.ssh_mux.specs.Commands.{RunsUnless}
use Rattle.ssh_mux.specs.Reads.{RunReadsUnless}
use Rattle.conf_resolve.specs.Readings.{Readings}
use Rattle.ssh_mux.specs.Client.{EndsClient}
use Rattle.ssh_mux.specs.Looks.{FoundFor, Looks, coming, machine_of_sources}
use Rattle.ssh_mux.specs.Master.{EndsMaster}
use Rattle.ssh_mux.specs.Out.{HandsOver}
use Rattle.ssh_mux.specs.Outcomes.{KnownCommand}
use Rattle.ssh_mux.specs.Places.{Placed, recorded_over}
use Rattle.ssh_mux.specs.World.{Sources}
use Rattle.ssh_mux.proofs.CauseLemmas.{all-ran}
use Rattle.ssh_mux.proofs.ReadLemmas.{all-read}
use Rattle.ssh_mux.proofs.StillLemmas.{still-due}

-- where nothing was found
pub found-looks : {A : Type 0} (shows : A → CommandOutcome) (unknown : KnownCommand) (facts : Facts) (command : Command) (asked : Asked) (meant : Ending) (s s' : Sources) → FoundFor shows unknown facts command asked (Err meant) s s' → Looks facts command asked (Err meant) s s'
found-looks shows unknown facts command asked meant s s' h = record { exact = still-due _ _ h.exact; ran = h.ran; read = h.read; place = h.place; cause = h.cause }

-- after what was found
pub looks-on : {A : Type 0} (shows : A → CommandOutcome) (unknown : KnownCommand) (facts : Facts) (command : Command) (asked : Asked) (x : A) (s s' : Sources) (result : Result Status Ending) → FoundFor shows unknown facts command asked (Ok x) s s' → Comes (coming s facts command) result
    → Placed (recorded_over (machine_of_sources s facts) asked) result s.commands.ran s'.commands.ran s.files.failed s'.files.failed
    → Caused result s.files.faults s'.files.faults s.commands.faults s'.commands.faults → Looks facts command asked result s s'
looks-on shows unknown facts command asked x s s' result h comes placed caused = record { exact = comes; ran = all-ran x _ _ _ _ h.ran; read = all-read x _ _ _ _ h.read; place = placed; cause = caused }

-- ---- the same found, as a part of it

runs-alike : {A B : Type 0} (x : A) (y : B) (commands : Option (List Bytes)) (before now : Option (List Bytes)) → RunsUnless commands (Ok x) before now → RunsUnless commands (Ok y) before now
runs-alike x y None before now h = tt
runs-alike x y (Some commands) before now h = h

reads-alike : {A B : Type 0} (x : A) (y : B) (recorded : Option Recorded) (before now : Readings) → RunReadsUnless recorded (Ok x) before now → RunReadsUnless recorded (Ok y) before now
reads-alike x y None before now h = tt
reads-alike x y (Some recorded) before now h = h

pub found-under : {A B : Type 0} (shows : B → CommandOutcome) (part : A → B) (unknown : KnownCommand) (facts : Facts) (command : Command) (asked : Asked) (x : A) (s s' : Sources) → FoundFor (λ y. shows (part y)) unknown facts command asked (Ok x) s s' → FoundFor shows unknown facts command asked (Ok (part x)) s s'
found-under shows part unknown facts command asked x s s' h = record { exact = h.exact; ran = runs-alike x (part x) _ _ _ h.ran; read = reads-alike x (part x) _ _ _ h.read; place = tt; cause = h.cause }

pub found-over : {A B : Type 0} (shows : A → CommandOutcome) (shows' : B → CommandOutcome) (unknown : KnownCommand) (facts : Facts) (command : Command) (asked : Asked) (meant : Ending) (s s' : Sources) → FoundFor shows unknown facts command asked (Err meant) s s' → FoundFor shows' unknown facts command asked (Err meant) s s'
found-over shows shows' unknown facts command asked meant s s' h = record { exact = h.exact; ran = h.ran; read = h.read; place = h.place; cause = h.cause }

-- ---- an ending after that reports no fault

pub master-placed : (recorded : Option Recorded) (result : Result Status Ending) (ran ran' : Option (List Bytes)) (failed failed' : FailedPaths) → EndsMaster result → Placed recorded result ran ran' failed failed'
master-placed recorded (Ok status) ran ran' failed failed' h = tt
master-placed None (Err ending) ran ran' failed failed' h = tt
master-placed (Some recorded) (Err endings.NoMemory) ran ran' failed failed' h = tt
master-placed (Some recorded) (Err endings.NotOpened) ran ran' failed failed' h = tt
master-placed (Some recorded) (Err endings.TransportFailed) ran ran' failed failed' h = tt
master-placed (Some recorded) (Err (endings.ServerBroke index why)) ran ran' failed failed' h = tt
master-placed (Some recorded) (Err endings.TurnsSpent) ran ran' failed failed' h = tt
master-placed (Some recorded) (Err endings.StartRefused) ran ran' failed failed' h = tt
master-placed (Some recorded) (Err ending) ran ran' failed failed' h = absurd cc

pub client-placed : (recorded : Option Recorded) (result : Result Status Ending) (ran ran' : Option (List Bytes)) (failed failed' : FailedPaths) → EndsClient result → Placed recorded result ran ran' failed failed'
client-placed recorded (Ok status) ran ran' failed failed' h = tt
client-placed None (Err ending) ran ran' failed failed' h = tt
client-placed (Some recorded) (Err endings.NoMemory) ran ran' failed failed' h = tt
client-placed (Some recorded) (Err endings.NotOpened) ran ran' failed failed' h = tt
client-placed (Some recorded) (Err endings.TransportFailed) ran ran' failed failed' h = tt
client-placed (Some recorded) (Err endings.TurnsSpent) ran ran' failed failed' h = tt
client-placed (Some recorded) (Err endings.MasterRefused) ran ran' failed failed' h = tt
client-placed (Some recorded) (Err endings.MasterBroke) ran ran' failed failed' h = tt
client-placed (Some recorded) (Err ending) ran ran' failed failed' h = absurd cc

pub handed-placed : (recorded : Option Recorded) (text : Bytes) (result : Result Status Ending) (before now : Option (List ℕ)) (ran ran' : Option (List Bytes)) (failed failed' : FailedPaths) → HandsOver result text before now → Placed recorded result ran ran' failed failed'
handed-placed recorded text (Ok status) before now ran ran' failed failed' h = tt
handed-placed None text (Err ending) before now ran ran' failed failed' h = tt
handed-placed (Some recorded) text (Err endings.NoMemory) before now ran ran' failed failed' h = tt
handed-placed (Some recorded) text (Err ending) before now ran ran' failed failed' h = absurd h
