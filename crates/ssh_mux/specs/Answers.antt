-- Which endings and statuses words may have.
use Rattle.std.specs.Prelude.{◌≡◌, ◌⊎◌, ◌&&◌, ◌||◌, Bool, true, false, IsTrue, Result, Ok, Err}
use Rattle.std.specs.Bool.{OnFalse}
use Rattle.conf_rules.specs.declared.causes.Cause.TheVariants.{ReadFault, RunFault}
use Rattle.conf_rules.specs.declared.causes.ResolveError.{ResolveError}
use Rattle.conf_rules.specs.declared.causes.ResolveError.TheVariants.{At}
use Rattle.conf_rules.specs.Diagnostics.{Ending, BadLine, BadListing, NoControlPath}
use Rattle.conf_rules.specs.Diagnostics.{NotOpened, TransportFailed, ServerBroke, TurnsSpent, StartRefused, NoMemory}
use Rattle.conf_rules.specs.Diagnostics.{MasterRefused, MasterBroke}
use Rattle.conf_rules.specs.CommandOutcome.{CommandOutcome, Ends, Writes, Opens, Drills, Joins}
use Rattle.mux_client.specs.declared.asks.Asks.{Asks}
use Rattle.ssh_mux.specs.declared.ending.Ending.{Ending as MeantEnding}
use Rattle.ssh_mux.specs.declared.status.Status.{Status}
use Rattle.ssh_mux.specs.declared.status.Status.TheVariants.{Done, Usage, Config, Outside}
use Rattle.ssh_mux.specs.declared.status.Status.TheVariants.{Write, Memory}
use Rattle.ssh_mux.specs.Asks.{asks_for}
use Rattle.ssh_mux.specs.Ending.{ending_shown}
use Rattle.ssh_mux.specs.Outcomes.{KnownCommand, Certain, Listing, Master, Client, looks, writes_out, opens}
use Rattle.ssh_mux.specs.Outcomes.{may_ask_master, drills, succeeds}
use Rattle.ssh_mux.specs.Status.{status_of}

-- ---- endings

-- whether a configuration is refused, or what is listed of it
abbrev pub is_refusal_ending : Ending → Bool
is_refusal_ending (BadLine e) = true
is_refusal_ending (BadListing e) = true
is_refusal_ending other = false

-- whether a master or a client may end so before it opens its sockets
abbrev pub refuses_master : Ending → Bool
refuses_master NoControlPath = true
refuses_master ending = is_refusal_ending ending

-- whether a drill may end so: its sockets weren't opened, or it was served
abbrev pub ends_drill : Ending → Bool
ends_drill NotOpened = true
ends_drill TransportFailed = true
ends_drill (ServerBroke index why) = true
ends_drill TurnsSpent = true
ends_drill other = false

-- whether a master may end so: as a drill, or by a forwarding of its start
abbrev pub ends_master : Ending → Bool
ends_master StartRefused = true
ends_master ending = ends_drill ending

-- whether a client may end so: its sockets weren't opened, or it asked a running master
abbrev pub ends_client : Ending → Bool
ends_client NotOpened = true
ends_client TransportFailed = true
ends_client TurnsSpent = true
ends_client MasterRefused = true
ends_client MasterBroke = true
ends_client other = false

-- the ending of a client that asks this, or the refusal of a forwarding
abbrev pub IsAskDue : Result Asks ResolveError → Ending → Type 0
IsAskDue (Ok what) ending = IsTrue (ends_client ending)
IsAskDue (Err e) ending = ending ≡ BadLine e

-- The ending is that of the outcome. Running out of memory is free, and a fault has its count;
-- where the outcome isn't known, it is some ending of such a command.
abbrev pub IsDue : KnownCommand → Ending → Type 0
IsDue known NoMemory = Unit
IsDue known (BadLine (At file line ReadFault)) = IsTrue (looks known)
IsDue known (BadLine (At file line RunFault)) = IsTrue (looks known)
IsDue (Certain (Ends due)) ending = ending ≡ due
IsDue (Certain (Writes text)) ending = ⊥
IsDue (Certain (Opens control transport permits)) ending = IsTrue (ends_master ending)
IsDue (Certain (Drills seed clients messages)) ending = IsTrue (ends_drill ending)
IsDue (Certain (Joins control asked what)) ending = IsAskDue (asks_for asked what) ending
IsDue Listing ending = IsTrue (is_refusal_ending ending)
IsDue (Master transport permits) ending = IsTrue (refuses_master ending || ends_master ending)
IsDue (Client asked what) ending = IsTrue (refuses_master ending || ends_client ending)

-- the same before a listing is written, a wire is opened or the forwardings of a client are read
abbrev pub IsRunRefused : KnownCommand → Ending → Type 0
IsRunRefused known NoMemory = Unit
IsRunRefused known (BadLine (At file line ReadFault)) = IsTrue (looks known)
IsRunRefused known (BadLine (At file line RunFault)) = IsTrue (looks known)
IsRunRefused (Certain (Ends due)) ending = ending ≡ due
IsRunRefused (Certain (Writes text)) ending = ⊥
IsRunRefused (Certain (Opens control transport permits)) ending = ⊥
IsRunRefused (Certain (Drills seed clients messages)) ending = ⊥
IsRunRefused (Certain (Joins control asked what)) ending = ⊥
IsRunRefused Listing ending = IsTrue (is_refusal_ending ending)
IsRunRefused (Master transport permits) ending = IsTrue (refuses_master ending)
IsRunRefused (Client asked what) ending = IsTrue (refuses_master ending)

-- what was found is what the outcome shows, or the outcome isn't known; or the ending is due
abbrev pub Finds : {A : Type 0} → (A → CommandOutcome) → KnownCommand → KnownCommand → Result A MeantEnding → Type 0
Finds shows unknown known (Ok x) = (known ≡ Certain (shows x)) ⊎ (known ≡ unknown)
Finds shows unknown known (Err ending) = IsRunRefused known (ending_shown ending)

-- ---- statuses

-- whether a status has no line
abbrev pub has_no_line : Status → Bool
has_no_line Done = true
has_no_line Write = true
has_no_line other = false

-- a status without a line
abbrev pub IsWell : KnownCommand → Status → Type 0
IsWell known Done = IsTrue (succeeds known)
IsWell known Write = IsTrue (writes_out known)
IsWell known other = ⊥

-- how a run went before its line is written
abbrev pub Comes : KnownCommand → Result Status MeantEnding → Type 0
Comes known (Ok status) = IsWell known status
Comes known (Err ending) = IsDue known (ending_shown ending)

-- its status then
abbrev pub so_far : Result Status MeantEnding → Status
so_far (Ok status) = status
so_far (Err ending) = status_of (ending_shown ending)

-- whether something may have been written
abbrev pub may_write : Status → Bool
may_write Done = true
may_write Write = true
may_write Memory = true
may_write other = false

-- whether a wire may have been opened
abbrev pub may_open_wire : Status → Bool
may_open_wire Usage = false
may_open_wire Config = false
may_open_wire Outside = false
may_open_wire other = true

-- whether one may have been opened for a master, from what is known to come
abbrev pub may_share : KnownCommand → Status → Bool
may_share known status = may_open_wire status && opens known

-- whether one may have been opened at all, for a master or a drill
abbrev pub touches : KnownCommand → Status → Bool
touches known status = may_open_wire status && (opens known || drills known)

-- whether a forwarder is served, where one is present: by a master alone
abbrev pub serves_house : Bool → KnownCommand → Bool
serves_house present known = present && opens known

-- whether one may have been joined, for a client
abbrev pub may_have_joined : KnownCommand → Status → Bool
may_have_joined known status = may_open_wire status && may_ask_master known

-- whether one may have been used
abbrev pub reaches : KnownCommand → Status → Bool
reaches known status = touches known status || may_have_joined known status

-- whether something may have been written: a client shows each answer as it comes
abbrev pub may_show : KnownCommand → Status → Bool
may_show known status = may_write status || may_have_joined known status

-- ---- what stays

-- What a run leaves as it was, by facts that say so of what it was handed: what takes the listing,
-- where nothing is written; files and commands, where no configuration is read; the wire, where it
-- isn't opened or joined; the forwarder, where no master opens it.
pub record RunLeaves (known : KnownCommand) (status : Status) (Out Files Runner Wire House : Type 0) :
    Type 0 where
  pub unwritten : OnFalse (may_show known status) Out
  pub unlisted : OnFalse (writes_out known) Out
  pub files : OnFalse (looks known) Files
  pub runner : OnFalse (looks known) Runner
  pub wire : OnFalse (reaches known status) Wire
  pub house : OnFalse (may_share known status) House
