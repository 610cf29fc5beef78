-- The statuses: their numbers, and those of endings.
use Rattle.std.specs.Prelude.{ℕ}
use Rattle.conf_rules.specs.declared.causes.Cause.TheVariants as causes
use Rattle.conf_rules.specs.declared.causes.ListError.{ListError}
use Rattle.conf_rules.specs.declared.causes.ListError.TheVariants as list_errors
use Rattle.conf_rules.specs.declared.causes.ResolveError.{ResolveError}
use Rattle.conf_rules.specs.declared.causes.ResolveError.TheVariants as resolve_errors
use Rattle.conf_rules.specs.Diagnostics.{Ending, BadWords, BadLine, BadListing, NoControlPath}
use Rattle.conf_rules.specs.Diagnostics.{NotOpened, TransportFailed, ServerBroke}
use Rattle.conf_rules.specs.Diagnostics.{TurnsSpent, StartRefused, MasterRefused, MasterBroke, NoMemory}
use Rattle.ssh_mux.specs.declared.status.Status.{Status}
use Rattle.ssh_mux.specs.declared.status.Status.TheVariants.{Done, Usage, Config, Outside}
use Rattle.ssh_mux.specs.declared.status.Status.TheVariants.{Write, Open, Transport, Broke}
use Rattle.ssh_mux.specs.declared.status.Status.TheVariants.{Spent, Memory, StartRefused as StartIsRefused, Refused, BadMaster}

-- what the program's caller sees: 255, as of ssh itself, where words or configuration are refused
abbrev pub code_of : Status → ℕ
code_of Done = 0
code_of Usage = 255
code_of Config = 255
code_of Outside = 3
code_of Write = 4
code_of Open = 5
code_of Transport = 6
code_of Broke = 7
code_of Spent = 8
code_of Memory = 9
code_of StartIsRefused = 10
code_of Refused = 11
code_of BadMaster = 12

-- the status of a configuration that is refused
abbrev pub refusal_status : ResolveError → Status
refusal_status (resolve_errors.At file line causes.ReadFault) = Outside
refusal_status (resolve_errors.At file line causes.RunFault) = Outside
refusal_status (resolve_errors.At file line cause) = Config
refusal_status resolve_errors.OutOfMemory = Memory

-- the status of settings without a listing
abbrev pub listing_status : ListError → Status
listing_status (list_errors.Token key error) = Config
listing_status list_errors.OutOfMemory = Memory

-- the status of an ending
abbrev pub status_of : Ending → Status
status_of (BadWords e) = Usage
status_of (BadLine e) = refusal_status e
status_of (BadListing e) = listing_status e
status_of NoControlPath = Config
status_of NotOpened = Open
status_of TransportFailed = Transport
status_of (ServerBroke index why) = Broke
status_of TurnsSpent = Spent
status_of StartRefused = StartIsRefused
status_of MasterRefused = Refused
status_of MasterBroke = BadMaster
status_of NoMemory = Memory
