-- What a master that was opened leaves, and what others leave.
use Rattle.std.proofs.Common.{◌≡◌, ◌⊎◌, ◌≤◌, ◌+◌, inl, inr, ap, arith, ℕ, Bool, true, false, List, Option, Some, None, unwrap_or, IsSome, Result, Ok, Err, refl, sym, subst, ◌∙◌}
use Rattle.std.specs.Bool.{OnFalse, OnTrue}
use Rattle.conf_rules.specs.CommandOutcome.{Ends, Writes, Drills, Opens, Joins}
use Rattle.conf_rules.specs.Texts.{Bytes}
use Rattle.mux_engine.specs.Came.{BrokenBy, Came, EndedBy, WentUp}
use Rattle.mux_engine.specs.Counted.{RunStops}
use Rattle.mux_engine.specs.Run.{IsRun}
use Rattle.mux_engine.specs.Sides.{Resting}
use Rattle.mux_history.specs.declared.broke.Break.{Break}
use Rattle.mux_history.specs.declared.broke.Break.TheVariants as broke
use Rattle.mux_history.specs.declared.ended.Ended.{Ended}
use Rattle.mux_history.specs.declared.ended.Ended.TheVariants as ends
use Rattle.mux_history.specs.Policy.{Policy}
use Rattle.mux_outside.specs.Calls.{calls_after}
use Rattle.mux_outside.specs.House.{HouseState}
use Rattle.mux_outside.specs.HouseCalls.{HouseCall}
use Rattle.mux_outside.specs.Seen.{Seen}
use Rattle.mux_outside.specs.Faults.{Faults}
use Rattle.mux_outside.specs.CallCounts.{CallCounts, calls_after_open}
use Rattle.mux_outside.specs.declared.file_error.FileError.{FileError}
use Rattle.mux_outside.specs.declared.file_error.FileError.TheVariants as faults
use Rattle.mux_engine.specs.Wires.{NoFault}
use Rattle.mux_outside.specs.declared.house.HouseReply.{HouseReply}
use Rattle.mux_outside.specs.declared.house_mark.HouseMark.{HouseMark}
use Rattle.mux_outside.specs.declared.mark.Mark.{Mark}
use Rattle.mux_outside.specs.declared.mark.OpenCall.{OpenCall}
use Rattle.ssh_mux.specs.declared.ending.Ending.{Ending}
use Rattle.ssh_mux.specs.declared.ending.Ending.TheVariants as endings
use Rattle.ssh_mux.specs.declared.status.Status.{Status}
use Rattle.ssh_mux.specs.declared.status.Status.TheVariants as statuses
use Rattle.ssh_mux.specs.Answers.{Comes, so_far, may_open_wire, may_share, serves_house}
use Rattle.ssh_mux.specs.Causes.{OutCause}
use Rattle.ssh_mux.specs.Ending.{ending_shown}
use Rattle.ssh_mux.specs.Master.{EndsMaster}
use Rattle.ssh_mux.specs.Out.{OutTakes}
use Rattle.ssh_mux.specs.Outcomes.{KnownCommand, Certain, Listing, Master, Client, opens_at, opens, writes_out}
use Rattle.ssh_mux.specs.Sharing.{CallsEnd, CameFor, IdleCause, OpensAt, OpensOnce, Shares, StartCause, WaitsFor, pid_of, recorded_as}
use Rattle.ssh_mux.specs.Status.{status_of}
use Rattle.ssh_mux.proofs.StillLemmas.{follows, loud, on_true, quiet-count, served-house}
use Rattle.conf_rules.specs.declared.command.Permissions.{Permissions}

-- ---- what is counted

-- an opening counts one at most
opens-most : (answer : Result (Unit {0}) FileError) (n : ℕ) → calls_after answer n ≤ n + 1
opens-most (Ok x) n = omega arith
opens-most (Err faults.Failed) n = omega arith
opens-most (Err faults.OutOfMemory) n = omega arith

-- what came where the server broke the protocol
broken_end : (why : Break) (old new : CallCounts) → BrokenBy why old new → WentUp old.server_pieces new.server_pieces ⊎ WentUp old.server_ends new.server_ends
broken_end (broke.Cut have) old new h = inr h
broken_end (broke.Frame fault) old new h = inl h
broken_end (broke.Message bad) old new h = inl h
broken_end broke.NoAsker old new h = inl h
broken_end (broke.BadReply size) old new h = inl h
broken_end (broke.NumberInUse n) old new h = inl h
broken_end (broke.NotPending n) old new h = inl h
broken_end (broke.NoChannel n) old new h = inl h
broken_end (broke.Channel n breach) old new h = inl h

-- ---- how a run that was served ends

pub shares_end : (May : HouseReply → Type 0) (Rest : Resting) (stands : List HouseCall → Type 0) (last : HouseState) (policy : Policy) (pid turns : ℕ) (before now : Option (List HouseMark)) (start : Option (List Mark)) (seen : Seen) (refused : Option ℕ) (result : Result Status Ending) (ended : Ended) → result ≡ recorded_as ended → IsRun May Rest.rests stands last Rest.present policy pid turns before now start seen refused ended → Shares May Rest stands last policy pid turns before now start seen refused result
shares_end May Rest stands last policy pid turns before now start seen refused result ended e run = subst (λ r. Shares May Rest stands last policy pid turns before now start seen refused r) (sym e) (by_end ended run) where
  by_end : (x : Ended) → IsRun May Rest.rests stands last Rest.present policy pid turns before now start seen refused x → Shares May Rest stands last policy pid turns before now start seen refused (recorded_as x)
  by_end ends.OutOfMemory run = inr (record { answer = ends.OutOfMemory; is_recorded = refl; run = run })
  by_end ends.ServerEnd run = record { answer = ends.ServerEnd; is_recorded = refl; run = run }
  by_end ends.Disconnected run = record { answer = ends.Disconnected; is_recorded = refl; run = run }
  by_end (ends.Terminated client id) run = record { answer = ends.Terminated client id; is_recorded = refl; run = run }
  by_end ends.ServerFailed run = record { answer = ends.ServerFailed; is_recorded = refl; run = run }
  by_end (ends.Broke index why) run = record { answer = ends.Broke index why; is_recorded = refl; run = run }
  by_end (ends.StartRefused index) run = record { answer = ends.StartRefused index; is_recorded = refl; run = run }
  by_end ends.Spent run = record { answer = ends.Spent; is_recorded = refl; run = run }

-- a forwarder, where one is present, may wait in place of the wire
pub waits_end : (present : Bool) (turns : ℕ) (ended : Ended) (old new : CallCounts) → RunStops present turns ended old new → OnFalse present (WaitsFor turns (so_far (recorded_as ended)) old new)
waits_end true turns ended old new h = tt
waits_end false turns ends.Spent old new h = h.spent refl refl
waits_end false turns ends.OutOfMemory old new h = tt
waits_end false turns (ends.StartRefused index) old new h = tt
waits_end false turns ends.ServerEnd old new h = h.ends refl (λ e. absurd cc) (λ e. absurd cc)
waits_end false turns ends.Disconnected old new h = h.ends refl (λ e. absurd cc) (λ e. absurd cc)
waits_end false turns (ends.Terminated client id) old new h = h.ends refl (λ e. absurd cc) (λ e. absurd cc)
waits_end false turns ends.ServerFailed old new h = h.ends refl (λ e. absurd cc) (λ e. absurd cc)
waits_end false turns (ends.Broke index why) old new h = h.ends refl (λ e. absurd cc) (λ e. absurd cc)

-- what came by the end of one
pub came_end : (ended : Ended) (old new : CallCounts) → EndedBy ended old new → CameFor (so_far (recorded_as ended)) old new
came_end ends.ServerEnd old new h = inl h
came_end ends.Disconnected old new h = inr (inl h)
came_end (ends.Terminated client id) old new h = inr (inr h)
came_end ends.ServerFailed old new h = tt
came_end (ends.Broke index why) old new h = broken_end why old new h
came_end (ends.StartRefused index) old new h = tt
came_end ends.Spent old new h = tt
came_end ends.OutOfMemory old new h = tt

-- an opening before it leaves all that these count but itself
pub opened_stops : (answer : Result (Unit {0}) FileError) (present : Bool) (turns : ℕ) (ended : Ended) (old mid new : CallCounts) → mid ≡ calls_after_open answer old → RunStops present turns ended mid new → RunStops present turns ended old new
opened_stops answer present turns ended old mid new e stops =
    let s : RunStops present turns ended (calls_after_open answer old) new = subst (λ (x : CallCounts). RunStops present turns ended x new) e stops in
    record { few = s.few; spent = s.spent; ends = s.ends; wants = s.wants; starved = s.starved; late = s.late }

opened_broken : (answer : Result (Unit {0}) FileError) (why : Break) (old new : CallCounts) → BrokenBy why (calls_after_open answer old) new → BrokenBy why old new
opened_broken answer (broke.Cut have) old new h = h
opened_broken answer (broke.Frame fault) old new h = h
opened_broken answer (broke.Message bad) old new h = h
opened_broken answer broke.NoAsker old new h = h
opened_broken answer (broke.BadReply size) old new h = h
opened_broken answer (broke.NumberInUse n) old new h = h
opened_broken answer (broke.NotPending n) old new h = h
opened_broken answer (broke.NoChannel n) old new h = h
opened_broken answer (broke.Channel n breach) old new h = h

opened_by : (answer : Result (Unit {0}) FileError) (ended : Ended) (old new : CallCounts) → EndedBy ended (calls_after_open answer old) new → EndedBy ended old new
opened_by answer ends.ServerEnd old new h = h
opened_by answer ends.Disconnected old new h = h
opened_by answer (ends.Terminated client id) old new h = h
opened_by answer ends.ServerFailed old new h = h
opened_by answer (ends.Broke index why) old new h = opened_broken answer why old new h
opened_by answer (ends.StartRefused index) old new h = h
opened_by answer ends.Spent old new h = h
opened_by answer ends.OutOfMemory old new h = h

pub opened_ended : (answer : Result (Unit {0}) FileError) (ended : Ended) (old mid new : CallCounts) → mid ≡ calls_after_open answer old → EndedBy ended mid new → EndedBy ended old new
opened_ended answer ended old mid new e h = opened_by answer ended old new (subst (λ (x : CallCounts). EndedBy ended x new) e h)

-- where nothing but an opening was asked of the wire
pub opening_calls : (answer : Result (Unit {0}) FileError) (turns : ℕ) (status : Status) (old new : CallCounts) → new ≡ calls_after_open answer old → CallsEnd turns status old new
opening_calls answer turns status old new e = subst (CallsEnd turns status old) (sym e) (record { few = omega arith; opens = opens-most answer old.opens; wants = omega arith; starved = λ ne. absurd (ne refl); late = λ z. refl })

-- after it the wire was served
pub serving_calls : (answer : Result (Unit {0}) FileError) (present : Bool) (turns : ℕ) (ended : Ended) (old mid new : CallCounts) → mid ≡ calls_after_open answer old → RunStops present turns ended mid new → Came mid new → CallsEnd turns (so_far (recorded_as ended)) old new
serving_calls answer present turns ended old mid new e stops came =
    let s : RunStops present turns ended (calls_after_open answer old) new = subst (λ (x : CallCounts). RunStops present turns ended x new) e stops in
    let c : Came (calls_after_open answer old) new = subst (λ (x : CallCounts). Came x new) e came in
    record { few = s.few; opens = subst (λ (n : ℕ). n ≤ old.opens + 1) (sym c.opens) (opens-most answer old.opens); wants = s.wants; starved = λ ne. ap (λ (x : Ended). so_far (recorded_as x)) (s.starved ne); late = s.late }

pub idle_end : (present : Bool) (ended : Ended) (old mid new : Faults) → mid ≡ old → (present ≡ false → NoFault mid new) → OnFalse present (IdleCause (so_far (recorded_as ended)) old new)
idle_end true ended old mid new a b = tt
idle_end false ended old mid new a b = by_end ended (subst (λ (x : Faults). NoFault x new) a (b refl)) where
  by_end : (x : Ended) → NoFault old new → IdleCause (so_far (recorded_as x)) old new
  by_end ends.OutOfMemory h = tt
  by_end ends.ServerEnd h = h
  by_end ends.Disconnected h = h
  by_end (ends.Terminated client id) h = h
  by_end ends.ServerFailed h = h
  by_end (ends.Broke index why) h = h
  by_end (ends.StartRefused index) h = h
  by_end ends.Spent h = h

pub start_end : (ended : Ended) (refused : Option ℕ) → ((index : ℕ) → ended ≡ ends.StartRefused index → refused ≡ Some index) → StartCause (so_far (recorded_as ended)) refused
start_end (ends.StartRefused index) refused h = subst (λ (x : Option ℕ). IsSome x) (sym (h index refl)) refl
start_end ends.ServerEnd refused h = tt
start_end ends.Disconnected refused h = tt
start_end (ends.Terminated client id) refused h = tt
start_end ends.ServerFailed refused h = tt
start_end (ends.Broke index why) refused h = tt
start_end ends.Spent refused h = tt
start_end ends.OutOfMemory refused h = tt

-- the process id of the facts, or 0
pub pid_is : (pid : Option ℕ) → unwrap_or pid 0 ≡ pid_of pid
pid_is None = refl
pid_is (Some pid) = refl

-- ---- a master whose control path was found

-- what was found of it
abbrev pub IsMaster : KnownCommand → Bytes → Permissions → Bytes → Type 0
IsMaster k transport ps control = (k ≡ Certain (opens_at transport ps control)) ⊎ (k ≡ Master transport ps)

certain-comes : (transport : Bytes) (ps : Permissions) (control : Bytes) (result : Result Status Ending) → EndsMaster result → Comes (Certain (opens_at transport ps control)) result
certain-comes transport ps control (Ok statuses.Done) h = refl
certain-comes transport ps control (Ok status) h = absurd cc
certain-comes transport ps control (Err endings.NotOpened) h = refl
certain-comes transport ps control (Err endings.TransportFailed) h = refl
certain-comes transport ps control (Err (endings.ServerBroke index why)) h = refl
certain-comes transport ps control (Err endings.TurnsSpent) h = refl
certain-comes transport ps control (Err endings.StartRefused) h = refl
certain-comes transport ps control (Err endings.NoMemory) h = tt
certain-comes transport ps control (Err ending) h = absurd cc

some-comes : (transport : Bytes) (ps : Permissions) (result : Result Status Ending) → EndsMaster result → Comes (Master transport ps) result
some-comes transport ps (Ok statuses.Done) h = refl
some-comes transport ps (Ok status) h = absurd cc
some-comes transport ps (Err endings.NotOpened) h = refl
some-comes transport ps (Err endings.TransportFailed) h = refl
some-comes transport ps (Err (endings.ServerBroke index why)) h = refl
some-comes transport ps (Err endings.TurnsSpent) h = refl
some-comes transport ps (Err endings.StartRefused) h = refl
some-comes transport ps (Err endings.NoMemory) h = tt
some-comes transport ps (Err ending) h = absurd cc

pub master-comes : (k : KnownCommand) (transport : Bytes) (ps : Permissions) (control : Bytes) (result : Result Status Ending) → IsMaster k transport ps control → EndsMaster result → Comes k result
master-comes k transport ps control result (inl e) h = subst (λ x. Comes x result) (sym e) (certain-comes transport ps control result h)
master-comes k transport ps control result (inr e) h = subst (λ x. Comes x result) (sym e) (some-comes transport ps result h)

-- it may have opened its wire
pub master-opens : (result : Result Status Ending) → EndsMaster result → may_open_wire (so_far result) ≡ true
master-opens (Ok statuses.Done) h = refl
master-opens (Ok status) h = absurd cc
master-opens (Err endings.NotOpened) h = refl
master-opens (Err endings.TransportFailed) h = refl
master-opens (Err (endings.ServerBroke index why)) h = refl
master-opens (Err endings.TurnsSpent) h = refl
master-opens (Err endings.StartRefused) h = refl
master-opens (Err endings.NoMemory) h = refl
master-opens (Err ending) h = absurd cc

pub opens-for : (k : KnownCommand) (transport : Bytes) (ps : Permissions) (control : Bytes) → IsMaster k transport ps control → opens k ≡ true
opens-for k transport ps control (inl e) = subst (λ x. opens x ≡ true) (sym e) refl
opens-for k transport ps control (inr e) = subst (λ x. opens x ≡ true) (sym e) refl

pub master-waits : (k : KnownCommand) (transport : Bytes) (ps : Permissions) (control : Bytes) (present : Bool) (turns : ℕ) (status : Status) (old new : CallCounts) → IsMaster k transport ps control → OnFalse present (WaitsFor turns status old new) → OnFalse (serves_house present k) (OnTrue (may_share k status) (WaitsFor turns status old new))
master-waits k transport ps control present turns status old new m h = served-house present (opens k) (OnTrue (may_share k status) (WaitsFor turns status old new)) (opens-for k transport ps control m) (follows present (WaitsFor turns status old new) (OnTrue (may_share k status) (WaitsFor turns status old new)) (on_true (may_share k status) (WaitsFor turns status old new)) h)

pub master-came : (k : KnownCommand) (status : Status) (old new : CallCounts) → CameFor status old new → OnTrue (may_share k status) (CameFor status old new)
master-came k status old new h = on_true (may_share k status) (CameFor status old new) h

pub master-idle : (k : KnownCommand) (transport : Bytes) (ps : Permissions) (control : Bytes) (present : Bool) (status : Status) (w w' : Faults) → IsMaster k transport ps control → OnFalse present (IdleCause status w w') → OnFalse (serves_house present k) (IdleCause status w w')
master-idle k transport ps control present status w w' m h = served-house present (opens k) (IdleCause status w w') (opens-for k transport ps control m) h

pub master-shares : (k : KnownCommand) (transport : Bytes) (ps : Permissions) (control : Bytes) (result : Result Status Ending) → IsMaster k transport ps control → EndsMaster result → may_share k (so_far result) ≡ true
master-shares k transport ps control result (inl e) h = rw (master-opens result h) (subst (λ x. opens x ≡ true) (sym e) refl)
master-shares k transport ps control result (inr e) h = rw (master-opens result h) (subst (λ x. opens x ≡ true) (sym e) refl)

certain-opened : (transport : Bytes) (ps : Permissions) (control : Bytes) (status : Status) (before now : Option (List OpenCall)) → may_open_wire status ≡ true → OpensAt control transport status before now → OpensOnce (Certain (opens_at transport ps control)) status before now
certain-opened transport ps control statuses.Outside before now m h = absurd cc
certain-opened transport ps control status before now m h = h

some-opened : (transport control : Bytes) (ps : Permissions) (status : Status) (before now : Option (List OpenCall)) → may_open_wire status ≡ true → OpensAt control transport status before now → OpensOnce (Master transport ps) status before now
some-opened transport control ps statuses.Usage before now m h = absurd cc
some-opened transport control ps statuses.Config before now m h = absurd cc
some-opened transport control ps statuses.Outside before now m h = absurd cc
some-opened transport control ps statuses.Memory before now m (inl h) = inl h
some-opened transport control ps statuses.Memory before now m (inr h) = inr (record { control = control; once = h })
some-opened transport control ps status before now m h = record { control = control; once = h }

pub master-opened : (k : KnownCommand) (transport : Bytes) (ps : Permissions) (control : Bytes) (status : Status) (before now : Option (List OpenCall)) → IsMaster k transport ps control → may_open_wire status ≡ true → OpensAt control transport status before now → OpensOnce k status before now
master-opened k transport ps control status before now (inl e) m h = subst (λ x. OpensOnce x status before now) (sym e) (certain-opened transport ps control status before now m h)
master-opened k transport ps control status before now (inr e) m h = subst (λ x. OpensOnce x status before now) (sym e) (some-opened transport control ps status before now m h)

-- ---- what others leave

-- a command that opens nothing
pub none-opened : (k : KnownCommand) (status : Status) (before : Option (List OpenCall)) → opens k ≡ false → OpensOnce k status before before
none-opened (Certain (Opens control transport ps)) status before e = absurd cc
none-opened (Certain (Ends ending)) status before e = refl
none-opened (Certain (Writes text)) status before e = refl
none-opened (Certain (Drills seed clients messages)) status before e = tt
none-opened Listing status before e = refl
none-opened (Certain (Joins control asked what)) status before e = refl
none-opened (Client asked what) status before e = refl
none-opened (Master transport ps) status before e = absurd cc

-- one that writes nothing to the output
pub none-taken : (k : KnownCommand) (status : Status) (before : Option (List ℕ)) → writes_out k ≡ false → OutTakes status k before before
none-taken (Certain (Writes text)) status before e = absurd cc
none-taken Listing status before e = absurd cc
none-taken (Certain (Joins control asked what)) status before e = absurd cc
none-taken (Client asked what) status before e = absurd cc
none-taken (Certain (Ends ending)) statuses.Done before e = refl
none-taken (Certain (Ends ending)) statuses.Write before e = refl
none-taken (Certain (Ends ending)) status before e = refl
none-taken (Certain (Opens control transport ps)) statuses.Done before e = refl
none-taken (Certain (Opens control transport ps)) statuses.Write before e = refl
none-taken (Certain (Opens control transport ps)) status before e = refl
none-taken (Certain (Drills seed clients messages)) status before e = absurd cc
none-taken (Master transport ps) statuses.Done before e = refl
none-taken (Master transport ps) statuses.Write before e = refl
none-taken (Master transport ps) status before e = refl

pub none-counted : (k : KnownCommand) (result : Result Status Ending) (count : ℕ) → writes_out k ≡ false → Comes k result → OutCause (so_far result) count count
none-counted k (Ok statuses.Write) count e h = let x : false ≡ true = sym e ∙ h in absurd cc
none-counted k (Ok status) count e h = refl
none-counted k (Err ending) count e h = quiet-count (status_of (ending_shown ending)) count (loud (ending_shown ending))
