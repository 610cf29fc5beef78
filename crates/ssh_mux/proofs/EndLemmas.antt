-- From the outcome of a run, and the line that was written of it, to how it ended.
use Rattle.std.proofs.Common.{◌≡◌, ◌⊎◌, ◌&&◌, ◌||◌, inl, inr, ℕ, Bool, true, false, List, Option, Result, Ok, Err, refl, sym, ap, subst, ◌∙◌}
use Rattle.std.specs.Bool.{OnFalse, OnTrue}
use Rattle.conf_rules.specs.Diagnostics.{Ending}
use Rattle.conf_rules.specs.CommandOutcome.{Ends, Writes, Opens, Drills, Joins}
use Rattle.conf_rules.specs.Texts.{Bytes}
use Rattle.conf_rules.specs.Recorded.{Recorded}
use Rattle.mux_engine.specs.Sides.{Resting}
use Rattle.mux_outside.specs.House.{HouseState}
use Rattle.mux_outside.specs.HouseCalls.{HouseCall}
use Rattle.mux_outside.specs.declared.file_error.FileError.{FileError}
use Rattle.mux_outside.specs.declared.file_error.FileError.TheVariants.{Failed, OutOfMemory}
use Rattle.mux_outside.specs.declared.house.HouseReply.{HouseReply}
use Rattle.mux_outside.specs.declared.house_mark.HouseMark.{HouseMark}
use Rattle.mux_outside.specs.declared.mark.Mark.{Mark}
use Rattle.mux_outside.specs.declared.mark.OpenCall.{OpenCall}
use Rattle.mux_outside.specs.declared.starts.ListenPermit.{ListenPermit}
use Rattle.mux_outside.specs.declared.starts.Starts.{Starts}
use Rattle.mux_history.specs.declared.ended.Ended.TheVariants as answers
use Rattle.mux_history.specs.Policy.{Policy}
use Rattle.mux_outside.specs.Seen.{Seen}
use Rattle.mux_outside.specs.Faults.{Faults}
use Rattle.mux_outside.specs.CallCounts.{CallCounts}
use Rattle.ssh_mux.specs.declared.ending.Ending.{Ending as MeantEnding}
use Rattle.ssh_mux.specs.declared.ending.Ending.TheVariants as endings
use Rattle.ssh_mux.specs.declared.status.Status.{Status}
use Rattle.ssh_mux.specs.declared.status.Status.TheVariants as statuses
use Rattle.ssh_mux.specs.Answers.{IsDue, IsWell, has_no_line, may_show, may_open_wire, may_share, reaches, touches}
use Rattle.ssh_mux.specs.Causes.{EndCause, FaultCause, OutCause}
use Rattle.ssh_mux.specs.Commands.{RunsFor}
use Rattle.ssh_mux.specs.Ending.{ending_shown}
use Rattle.ssh_mux.specs.Err.{Reports, Ended, status_after}
use Rattle.ssh_mux.specs.Out.{OutStays, OutTakes}
use Rattle.ssh_mux.specs.Outcomes.{KnownCommand, Certain, Listing, Master, Client, may_ask_master, drills, opens}
use Rattle.ssh_mux.specs.Master.{ends_sharing}
use Rattle.ssh_mux.specs.Places.{EndPlace}
use Rattle.ssh_mux.specs.Sharing.{CallsEnd, CameFor, IdleCause, IsShareServed, IsShared, OpensOnce, Serves, Shares, StartCause, RecordsEnd, WaitsFor, WireCause}
use Rattle.ssh_mux.specs.Sharing.{recorded_as}
use Rattle.ssh_mux.specs.Starts.{BeganWith, Begun, MustsAs}
use Rattle.ssh_mux.specs.Status.{status_of}
use Rattle.ssh_mux.specs.World.{World}
use Rattle.ssh_mux.proofs.StillLemmas.{loud, not_true, some-begun}
use Rattle.ssh_mux.proofs.CauseLemmas.{fault-cause, fault-later, runs-starved}

-- ---- the status of a run whose line was handed over

after_answer : (answer : Result (Unit {0}) FileError) (status own : Status) → status ≡ status_after answer own → (status ≡ statuses.Memory) ⊎ (status ≡ own)
after_answer (Ok x) status own e = inr e
after_answer (Err Failed) status own e = inr e
after_answer (Err OutOfMemory) status own e = inl e

-- it is that of running out of memory, or that of its ending
pub reported : (status : Status) (ending : Ending) (before now : Option (List ℕ)) (f f' : ℕ) → Reports status ending before now f f' → (status ≡ statuses.Memory) ⊎ (status ≡ status_of ending)
reported status ending before now f f' (inl p) = after_answer p.answer status (status_of ending) p.has_status
reported status ending before now f f' (inr q) = elim (after_answer q.1.answer status statuses.Memory q.1.has_status) [ inl e ↦ inl e | inr e ↦ inl e ]

-- what holds of both holds of it
pub carried : (P : Status → Type 0) (status : Status) (ending : Ending) → (status ≡ statuses.Memory) ⊎ (status ≡ status_of ending) → P statuses.Memory → P (status_of ending) → P status
carried P status ending (inl e) memory held = subst P (sym e) memory
carried P status ending (inr e) memory held = subst P (sym e) held

-- ---- how it ended

quiet : (status : Status) (ending : Ending) → has_no_line status ≡ true → (status ≡ statuses.Memory) ⊎ (status ≡ status_of ending) → ⊥
quiet status ending silent (inl e) = let k : has_no_line statuses.Memory ≡ true = subst (λ (s : Status). has_no_line s ≡ true) e silent in absurd cc
quiet status ending silent (inr e) = let k : has_no_line (status_of ending) ≡ true = subst (λ (s : Status). has_no_line s ≡ true) e silent in let l = loud ending in absurd cc

pub ended : (k : KnownCommand) (recorded : Option Recorded) (status : Status) (ending : Ending) (before after : World) → IsDue k ending → EndCause ending before.files.faults after.files.faults before.commands.faults after.commands.faults → EndPlace recorded ending before.commands.ran after.commands.ran before.files.failed after.files.failed → Reports status ending before.err.recorded after.err.recorded before.err.faults after.err.faults
    → Ended k recorded status before after
ended k recorded statuses.Done ending before after due cause place r = absurd (quiet statuses.Done ending refl (reported statuses.Done ending before.err.recorded after.err.recorded before.err.faults after.err.faults r))
ended k recorded statuses.Write ending before after due cause place r = absurd (quiet statuses.Write ending refl (reported statuses.Write ending before.err.recorded after.err.recorded before.err.faults after.err.faults r))
ended k recorded status ending before after due cause place r = record { ending = ending; is_due = due; reported = r; cause = cause; place = place }

-- without a line
pub ended-well : (k : KnownCommand) (recorded : Option Recorded) (status : Status) (before after : World) → after.err.recorded ≡ before.err.recorded → IsWell k status → Ended k recorded status before after
ended-well k recorded statuses.Done before after e h = (h, e)
ended-well k recorded statuses.Write before after e h = (h, e)
ended-well k recorded status before after e h = absurd h

pub well-cause : (k : KnownCommand) (status : Status) (f f' r r' : ℕ) → IsWell k status → (f' ≡ f) × (r' ≡ r) → FaultCause status f f' r r'
well-cause k statuses.Done f f' r r' w h = h
well-cause k statuses.Write f f' r r' w h = h
well-cause k status f f' r r' w h = absurd w

-- a status with a line says nothing of what takes none
pub recorded_after : (P : Type 0) (status : Status) (ending : Ending) (b n : Option (List ℕ)) (f f' : ℕ) → Reports status ending b n f f' → OnTrue (has_no_line status) P
recorded_after P status ending b n f f' r = carried (λ s. OnTrue (has_no_line s) P) status ending (reported status ending b n f f' r) tt (not_true (has_no_line (status_of ending)) P (loud ending))

-- ---- what else holds of it

-- what wasn't written stays so if memory runs out, and a client's output is another clause's
unwritten-stays : (status : Status) (k : KnownCommand) (before now : Option (List ℕ)) → OutStays status k before now → OutStays statuses.Memory k before now
unwritten-stays status (Certain (Joins control asked what)) before now t = tt
unwritten-stays status (Client asked what) before now t = tt
unwritten-stays status (Certain (Ends due)) before now t = t
unwritten-stays status (Certain (Writes text)) before now t = t
unwritten-stays status (Certain (Opens control transport ps)) before now t = t
unwritten-stays status (Certain (Drills seed clients messages)) before now t = t
unwritten-stays status Listing before now t = t
unwritten-stays status (Master transport ps) before now t = t

unwritten : (status : Status) (k : KnownCommand) (before now : Option (List ℕ)) → has_no_line status ≡ false → OutTakes status k before now → OutTakes statuses.Memory k before now
unwritten statuses.Done k before now e t = absurd cc
unwritten statuses.Write k before now e t = absurd cc
unwritten status k before now e t = unwritten-stays status k before now t

pub out_after : (k : KnownCommand) (status : Status) (ending : Ending) (b n : Option (List ℕ)) (f f' : ℕ) (before now : Option (List ℕ)) → Reports status ending b n f f' → OutTakes (status_of ending) k before now → OutTakes status k before now
out_after k status ending b n f f' before now r t = carried (λ s. OutTakes s k before now) status ending (reported status ending b n f f' r) (unwritten (status_of ending) k before now (loud ending) t) t

-- what stays where nothing may have been written
pub untouched_after : (k : KnownCommand) (P : Type 0) (status : Status) (ending : Ending) (b n : Option (List ℕ)) (f f' : ℕ) → Reports status ending b n f f' → OnFalse (may_show k (status_of ending)) P → OnFalse (may_show k status) P
untouched_after k P status ending b n f f' r h = carried (λ s. OnFalse (may_show k s) P) status ending (reported status ending b n f f' r) tt h

pub fault_after : (status : Status) (ending : Ending) (b n : Option (List ℕ)) (f f' files files' runner runner' : ℕ) → Reports status ending b n f f' → EndCause ending files files' runner runner' → FaultCause status files files' runner runner'
fault_after status ending b n f f' files files' runner runner' r c =
    let held = fault-cause ending files files' runner runner' c in
    carried (λ s. FaultCause s files files' runner runner') status ending (reported status ending b n f f' r) (fault-later (status_of ending) files files' runner runner' held) held

pub runs_after : (commands : Option (List Bytes)) (status : Status) (ending : Ending) (b n : Option (List ℕ)) (f f' : ℕ) (before now : Option (List Bytes)) → Reports status ending b n f f' → RunsFor commands (status_of ending) before now → RunsFor commands status before now
runs_after commands status ending b n f f' before now r h = carried (λ s. RunsFor commands s before now) status ending (reported status ending b n f f' r) (runs-starved commands (status_of ending) before now h) h

unraised : (status : Status) (before now : ℕ) → has_no_line status ≡ false → OutCause status before now → now ≡ before
unraised statuses.Write before now e c = absurd cc
unraised status before now e c = c

pub sink_after : (status : Status) (ending : Ending) (b n : Option (List ℕ)) (f f' before now : ℕ) → Reports status ending b n f f' → OutCause (status_of ending) before now → OutCause status before now
sink_after status ending b n f f' before now r c = carried (λ s. OutCause s before now) status ending (reported status ending b n f f' r) (unraised (status_of ending) before now (loud ending) c) c

-- ---- the wire

unopened : (k : KnownCommand) (status : Status) (before now : Option (List OpenCall)) → OpensOnce k status before now → OpensOnce k statuses.Memory before now
unopened (Certain (Opens control transport ps)) statuses.Memory before now h = h
unopened (Certain (Opens control transport ps)) statuses.Outside before now h = inl h
unopened (Certain (Opens control transport ps)) status before now h = inr h
unopened (Certain (Ends ending)) status before now h = h
unopened (Certain (Writes text)) status before now h = h
unopened (Certain (Drills seed clients messages)) status before now h = tt
unopened Listing status before now h = h
unopened (Certain (Joins control asked what)) status before now h = h
unopened (Client asked what) status before now h = h
unopened (Master transport ps) statuses.Memory before now h = h
unopened (Master transport ps) statuses.Config before now h = inl h
unopened (Master transport ps) statuses.Outside before now h = inl h
unopened (Master transport ps) status before now h = inr h

pub opened_after : (k : KnownCommand) (status : Status) (ending : Ending) (b n : Option (List ℕ)) (f f' : ℕ) (before now : Option (List OpenCall)) → Reports status ending b n f f' → OpensOnce k (status_of ending) before now → OpensOnce k status before now
opened_after k status ending b n f f' before now r h = carried (λ s. OpensOnce k s before now) status ending (reported status ending b n f f' r) (unopened k (status_of ending) before now h) h

module _ (May : HouseReply → Type 0) (Rest : Resting) (stands : List HouseCall → Type 0) (last : HouseState) (policy : Policy) (pid turns : ℕ) (before now : Option (List HouseMark)) (start : Option (List Mark)) (seen : Seen) (refused : Option ℕ) (b n : Option (List ℕ)) (f f' : ℕ) where
  abbrev Served : Status → Type 0
  Served status = Serves May Rest stands last policy pid turns before now start seen refused status b n f f'

  abbrev Shared : Result Status MeantEnding → Type 0
  Shared result = Shares May Rest stands last policy pid turns before now start seen refused result

  -- an end with the line that was handed over
  with-line : (meant : MeantEnding) (status : Status) → IsShared May Rest stands last policy pid turns before now start seen refused (Err meant) → Reports status (ending_shown meant) b n f f' → IsShareServed May Rest stands last policy pid turns before now start seen refused status b n f f'
  with-line meant status h r = record { answer = h.answer; run = h.run; line = subst (λ x. RecordsEnd x status b n f f') h.is_recorded r }

  memory-serves : (meant : MeantEnding) → Shared (Err meant) → Reports statuses.Memory (ending_shown meant) b n f f' → Served statuses.Memory
  memory-serves endings.NotOpened h r = inl h
  memory-serves endings.NoMemory (inl h) r = inl h
  memory-serves endings.NoMemory (inr h) r = inr (with-line endings.NoMemory statuses.Memory h r)
  memory-serves meant h r = inr (with-line meant statuses.Memory h r)

  -- no run ends as words and configurations do
  none-ends : (meant : MeantEnding) → ends_sharing meant ≡ false → IsShared May Rest stands last policy pid turns before now start seen refused (Err meant) → ⊥
  none-ends meant e h = by_end h.answer h.is_recorded
    where
      by_end : (x : Rattle.mux_history.specs.declared.ended.Ended.Ended) → Err meant ≡ recorded_as x → ⊥
      by_end answers.ServerEnd t = absurd cc
      by_end answers.Disconnected t = absurd cc
      by_end (answers.Terminated client id) t = absurd cc
      by_end answers.ServerFailed t = let m : meant ≡ endings.TransportFailed = cc in let z : ends_sharing meant ≡ true = ap ends_sharing m in absurd cc
      by_end (answers.Broke index why) t = let m : meant ≡ endings.ServerBroke index why = cc in let z : ends_sharing meant ≡ true = ap ends_sharing m in absurd cc
      by_end (answers.StartRefused index) t = let m : meant ≡ endings.StartRefused = cc in let z : ends_sharing meant ≡ true = ap ends_sharing m in absurd cc
      by_end answers.Spent t = let m : meant ≡ endings.TurnsSpent = cc in let z : ends_sharing meant ≡ true = ap ends_sharing m in absurd cc
      by_end answers.OutOfMemory t = let m : meant ≡ endings.NoMemory = cc in let z : ends_sharing meant ≡ true = ap ends_sharing m in absurd cc

  own-serves : (meant : MeantEnding) → Shared (Err meant) → Reports (status_of (ending_shown meant)) (ending_shown meant) b n f f' → Served (status_of (ending_shown meant))
  own-serves endings.NotOpened h r = h
  own-serves endings.NoMemory h r = memory-serves endings.NoMemory h r
  own-serves endings.TransportFailed h r = with-line endings.TransportFailed statuses.Transport h r
  own-serves (endings.ServerBroke index why) h r = with-line (endings.ServerBroke index why) statuses.Broke h r
  own-serves endings.TurnsSpent h r = with-line endings.TurnsSpent statuses.Spent h r
  own-serves endings.StartRefused h r = with-line endings.StartRefused statuses.StartRefused h r
  own-serves (endings.BadWords e) h r = absurd (none-ends (endings.BadWords e) refl h)
  own-serves (endings.BadLine file line cause) h r = absurd (none-ends (endings.BadLine file line cause) refl h)
  own-serves (endings.BadListing key error) h r = absurd (none-ends (endings.BadListing key error) refl h)
  own-serves endings.NoControlPath h r = absurd (none-ends endings.NoControlPath refl h)
  own-serves endings.MasterRefused h r = absurd (none-ends endings.MasterRefused refl h)
  own-serves endings.MasterBroke h r = absurd (none-ends endings.MasterBroke refl h)

module _ (May : HouseReply → Type 0) (Rest : Starts → Resting) (last : HouseState) (here : ListenPermit) (by : Option Recorded) (policy : Policy) (pid turns : ℕ) (before now : Option (List HouseMark)) (start : Option (List Mark)) (seen : Seen) (refused : Option ℕ) (b n : Option (List ℕ)) (f f' : ℕ) where
  abbrev ServedSo : Status → Type 0
  ServedSo status = Begun here by (λ starts. Serves May (Rest starts) (BeganWith starts) last policy pid turns before now start seen refused status b n f f')

  abbrev SharedSo : Result Status MeantEnding → Type 0
  SharedSo result = Begun here by (λ starts. Shares May (Rest starts) (BeganWith starts) last policy pid turns before now start seen refused result)

  -- a wire that wasn't touched is served by no client
  memory-by : (opened shares drilled asked : Bool) (meant : MeantEnding) → OnTrue (opened && shares) (SharedSo (Err meant)) → OnFalse ((opened && (shares || drilled)) || (opened && asked)) (seen.recorded ≡ start) → OnFalse (opened && shares) (now ≡ before) → Reports statuses.Memory (ending_shown meant) b n f f' → OnTrue shares (ServedSo statuses.Memory)
  memory-by opened false drilled asked meant h w g r = tt
  memory-by true true drilled asked meant h w g r = record { starts = h.starts; permitted = h.permitted; due = h.due; so = memory-serves May (Rest h.starts) (BeganWith h.starts) last policy pid turns before now start seen refused b n f f' meant h.so r }
  memory-by false true drilled asked meant h w g r = some-begun here by (λ starts. Serves May (Rest starts) (BeganWith starts) last policy pid turns before now start seen refused statuses.Memory b n f f') (λ starts. inl (record { same_wire = w; same_house = g }))

  own-by : (b' : Bool) (meant : MeantEnding) → OnTrue b' (SharedSo (Err meant)) → Reports (status_of (ending_shown meant)) (ending_shown meant) b n f f' → OnTrue b' (ServedSo (status_of (ending_shown meant)))
  own-by false meant h r = tt
  own-by true meant h r = record { starts = h.starts; permitted = h.permitted; due = h.due; so = own-serves May (Rest h.starts) (BeganWith h.starts) last policy pid turns before now start seen refused b n f f' meant h.so r }

  shared-by : (k : KnownCommand) (status : Status) (meant : MeantEnding) → (status ≡ statuses.Memory) ⊎ (status ≡ status_of (ending_shown meant)) → Reports status (ending_shown meant) b n f f' → OnTrue (may_share k (status_of (ending_shown meant))) (SharedSo (Err meant)) → OnFalse (reaches k (status_of (ending_shown meant))) (seen.recorded ≡ start) → OnFalse (may_share k (status_of (ending_shown meant))) (now ≡ before) → OnTrue (may_share k status) (ServedSo status)
  shared-by k status meant (inl e) r h w g = subst (λ s. OnTrue (may_share k s) (ServedSo s)) (sym e) (memory-by (may_open_wire (status_of (ending_shown meant))) (opens k) (drills k) (may_ask_master k) meant h w g (subst (λ s. Reports s (ending_shown meant) b n f f') e r))
  shared-by k status meant (inr e) r h w g = subst (λ s. OnTrue (may_share k s) (ServedSo s)) (sym e) (own-by (may_share k (status_of (ending_shown meant))) meant h (subst (λ s. Reports s (ending_shown meant) b n f f') e r))

  pub shared_after : (k : KnownCommand) (status : Status) (meant : MeantEnding) → Reports status (ending_shown meant) b n f f' → OnTrue (may_share k (status_of (ending_shown meant))) (SharedSo (Err meant)) → OnFalse (reaches k (status_of (ending_shown meant))) (seen.recorded ≡ start) → OnFalse (may_share k (status_of (ending_shown meant))) (now ≡ before) → OnTrue (may_share k status) (ServedSo status)
  shared_after k status meant r h w g = shared-by k status meant (reported status (ending_shown meant) b n f f' r) r h w g

-- an end without a line
done-is : (status : Status) (x : Rattle.mux_history.specs.declared.ended.Ended.Ended) → Ok status ≡ recorded_as x → status ≡ statuses.Done
done-is status answers.ServerEnd t = cc
done-is status answers.Disconnected t = cc
done-is status (answers.Terminated client id) t = cc
done-is status answers.ServerFailed t = absurd cc
done-is status (answers.Broke index why) t = absurd cc
done-is status (answers.StartRefused index) t = absurd cc
done-is status answers.Spent t = absurd cc
done-is status answers.OutOfMemory t = absurd cc

shared-well-now : (May : HouseReply → Type 0) (Rest : Resting) (stands : List HouseCall → Type 0) (last : HouseState) (policy : Policy) (pid turns : ℕ) (before now : Option (List HouseMark)) (start : Option (List Mark)) (seen : Seen) (refused : Option ℕ) (b : Option (List ℕ)) (f : ℕ) (status : Status) → IsShared May Rest stands last policy pid turns before now start seen refused (Ok status) → Serves May Rest stands last policy pid turns before now start seen refused status b b f f
shared-well-now May Rest stands last policy pid turns before now start seen refused b f status h =
    let e : status ≡ statuses.Done = done-is status h.answer h.is_recorded in
    subst (λ s. Serves May Rest stands last policy pid turns before now start seen refused s b b f f) (sym e)
    (record { answer = h.answer; run = h.run; line = subst (λ x. RecordsEnd x statuses.Done b b f f) (ap (λ (s : Status). Ok s) (sym e) ∙ h.is_recorded) (refl, refl) })

pub shared_well : (May : HouseReply → Type 0) (Rest : Starts → Resting) (last : HouseState) (here : ListenPermit) (by : Option Recorded) (policy : Policy) (pid turns : ℕ) (before now : Option (List HouseMark)) (start : Option (List Mark)) (seen : Seen) (refused : Option ℕ) (b : Option (List ℕ)) (f : ℕ) (shares : Bool) (status : Status) → OnTrue shares (Begun here by (λ starts. IsShared May (Rest starts) (BeganWith starts) last policy pid turns before now start seen refused (Ok status))) → OnTrue shares (Begun here by (λ starts. Serves May (Rest starts) (BeganWith starts) last policy pid turns before now start seen refused status b b f f))
shared_well May Rest last here by policy pid turns before now start seen refused b f false status h = tt
shared_well May Rest last here by policy pid turns before now start seen refused b f true status h = record { starts = h.starts; permitted = h.permitted; due = h.due; so = shared-well-now May (Rest h.starts) (BeganWith h.starts) last policy pid turns before now start seen refused b f status h.so }

pub calls_after : (turns : ℕ) (status : Status) (ending : Ending) (b n : Option (List ℕ)) (f f' : ℕ) (old calls : CallCounts) → Reports status ending b n f f' → CallsEnd turns (status_of ending) old calls → CallsEnd turns status old calls
calls_after turns status ending b n f f' old calls r h = carried (λ s. CallsEnd turns s old calls) status ending (reported status ending b n f f' r) (record { few = h.few; opens = h.opens; wants = h.wants; starved = λ ne. refl; late = h.late }) h

pub on-memory : (b : Bool) → OnTrue b Unit
on-memory true = tt
on-memory false = tt

pub wire_after : (k : KnownCommand) (status : Status) (ending : Ending) (b n : Option (List ℕ)) (f f' : ℕ) (w w' : Faults) → Reports status ending b n f f' → OnTrue (touches k (status_of ending)) (WireCause (status_of ending) w w') → OnTrue (touches k status) (WireCause status w w')
wire_after k status ending b n f f' w w' r h = carried (λ x. OnTrue (touches k x) (WireCause x w w')) status ending (reported status ending b n f f' r) (on-memory (opens k || drills k)) h

pub came_after : (k : KnownCommand) (status : Status) (ending : Ending) (b n : Option (List ℕ)) (f f' : ℕ) (old calls : CallCounts) → Reports status ending b n f f' → OnTrue (touches k (status_of ending)) (CameFor (status_of ending) old calls) → OnTrue (touches k status) (CameFor status old calls)
came_after k status ending b n f f' old calls r h = carried (λ x. OnTrue (touches k x) (CameFor x old calls)) status ending (reported status ending b n f f' r) on-memory-of h
  where
    on-memory-of : OnTrue (opens k || drills k) (CameFor statuses.Memory old calls)
    on-memory-of = on-memory (opens k || drills k)

pub start_after : (k : KnownCommand) (status : Status) (ending : Ending) (b n : Option (List ℕ)) (f f' : ℕ) (refused : Option ℕ) → Reports status ending b n f f' → OnTrue (may_share k (status_of ending)) (StartCause (status_of ending) refused) → OnTrue (may_share k status) (StartCause status refused)
start_after k status ending b n f f' refused r h = carried (λ x. OnTrue (may_share k x) (StartCause x refused)) status ending (reported status ending b n f f' r) (on-memory (opens k)) h

pub must_after : (k : KnownCommand) (due : Option Bool) (must : Bool) (status : Status) (ending : Ending) (b n : Option (List ℕ)) (f f' : ℕ) → Reports status ending b n f f' → OnTrue (may_share k (status_of ending)) (MustsAs (status_of ending) due must) → OnTrue (may_share k status) (MustsAs status due must)
must_after k due must status ending b n f f' r h = carried (λ x. OnTrue (may_share k x) (MustsAs x due must)) status ending (reported status ending b n f f' r) (on-memory (opens k)) h

pub waits_after : (k : KnownCommand) (turns : ℕ) (status : Status) (ending : Ending) (b n : Option (List ℕ)) (f f' : ℕ) (old calls : CallCounts) → Reports status ending b n f f' → OnTrue (touches k (status_of ending)) (WaitsFor turns (status_of ending) old calls) → OnTrue (touches k status) (WaitsFor turns status old calls)
waits_after k turns status ending b n f f' old calls r h = carried (λ x. OnTrue (touches k x) (WaitsFor turns x old calls)) status ending (reported status ending b n f f' r) (on-memory (opens k || drills k)) h

pub idle_after : (status : Status) (ending : Ending) (b n : Option (List ℕ)) (f f' : ℕ) (w w' : Faults) → Reports status ending b n f f' → IdleCause (status_of ending) w w' → IdleCause status w w'
idle_after status ending b n f f' w w' r h = carried (λ x. IdleCause x w w') status ending (reported status ending b n f f' r) tt h

unshared : (opened shares : Bool) (P : Type 0) → OnFalse (opened && shares) P → OnFalse shares P
unshared true shares P h = h
unshared false true P h = tt
unshared false false P h = h

-- what stays where nothing may have been opened; `shares` says whether something may be
pub stays_after : (shares : Bool) (P : Type 0) (status : Status) (ending : Ending) (b n : Option (List ℕ)) (f f' : ℕ) → Reports status ending b n f f' → OnFalse (may_open_wire (status_of ending) && shares) P → OnFalse (may_open_wire status && shares) P
stays_after shares P status ending b n f f' r h = carried (λ s. OnFalse (may_open_wire s && shares) P) status ending (reported status ending b n f f' r) (unshared (may_open_wire (status_of ending)) shares P h) h

unreached : (opened a b : Bool) (P : Type 0) → OnFalse ((opened && a) || (opened && b)) P → OnFalse (a || b) P
unreached true a b P h = h
unreached false true b P h = tt
unreached false false true P h = tt
unreached false false false P h = h

-- the same of the wire
pub wire_stays_after : (k : KnownCommand) (P : Type 0) (status : Status) (ending : Ending) (b n : Option (List ℕ)) (f f' : ℕ) → Reports status ending b n f f' → OnFalse (reaches k (status_of ending)) P → OnFalse (reaches k status) P
wire_stays_after k P status ending b n f f' r h = carried (λ s. OnFalse (reaches k s) P) status ending (reported status ending b n f f' r) (unreached (may_open_wire (status_of ending)) (opens k || drills k) (may_ask_master k) P h) h

-- what is recorded of what stays
pub same_recorded : {X Y : Type 0} (b : Bool) (recorded : X → Y) (before now : X) → OnFalse b (now ≡ before) → OnFalse b (recorded now ≡ recorded before)
same_recorded true recorded before now h = tt
same_recorded false recorded before now h = ap recorded h
