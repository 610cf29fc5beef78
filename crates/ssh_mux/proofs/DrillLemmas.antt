-- How a drill goes, from what was served and what was handed over to what the program records.
use Rattle.std.proofs.Common.{◌≡◌, ◌⊎◌, ◌&&◌, inl, inr, ℕ, Bool, true, false, List, [], Option, Some, None, Result, Ok, Err, refl, sym, subst, ◌∙◌, arith}
use Rattle.std.specs.Bool.{OnTrue}
use Rattle.conf_rules.specs.declared.causes.Cause.TheVariants.{ReadFault, RunFault}
use Rattle.conf_rules.specs.CommandOutcome.{Ends, Writes, Opens, Drills, Joins}
use Rattle.conf_resolve.specs.Faults.{FailedPaths}
use Rattle.conf_rules.specs.Texts.{Bytes}
use Rattle.conf_rules.specs.Recorded.{Recorded}
use Rattle.ssh_mux.specs.Places.{Placed}
use Rattle.mux_history.specs.Policy.{any_policy}
use Rattle.mux_outside.specs.declared.mark.Mark.{Mark}
use Rattle.mux_outside.specs.declared.turn.Tally.{Tally}
use Rattle.mux_outside.specs.Seen.{Seen}
use Rattle.mux_outside.specs.WireState.{WireState}
use Rattle.mux_outside.specs.Faults.{Faults}
use Rattle.mux_outside.specs.CallCounts.{CallCounts}
use Rattle.ssh_mux.specs.declared.ending.Ending.{Ending}
use Rattle.ssh_mux.specs.declared.ending.Ending.TheVariants as endings
use Rattle.ssh_mux.specs.declared.status.Status.{Status}
use Rattle.ssh_mux.specs.declared.status.Status.TheVariants as statuses
use Rattle.ssh_mux.specs.Answers.{Comes, IsRunRefused, may_open_wire, so_far, touches}
use Rattle.ssh_mux.specs.Causes.{Caused}
use Rattle.mux_outside.specs.NoHouse.{no_house}
use Rattle.ssh_mux.specs.Drill.{AnyCalls, DrillGoes, DrillServes, DrillShares, DrillRecords, EndsDrill, IsDrill, IsDrilled, NoneRests, RefusesAll, RunsDrill, SumsUp, drill_text, drill_transport}
use Rattle.ssh_mux.specs.Ending.{ending_shown}
use Rattle.ssh_mux.specs.Err.{Reports}
use Rattle.ssh_mux.specs.Master.{EndsMaster}
use Rattle.ssh_mux.specs.Out.{HandsOver, OutTakes}
use Rattle.ssh_mux.specs.Outcomes.{KnownCommand, Certain, Listing, Master, Client, drills}
use Rattle.ssh_mux.specs.Sharing.{CallsEnd, CameFor, CountsFor, IdleCause, IsShared, OpensAt, Shares, StartCause, WaitsFor, WireCause, recorded_as}
use Rattle.ssh_mux.specs.Status.{status_of}
use Rattle.ssh_mux.specs.World.{OutState, Sockets, Sources, world}
use Rattle.ssh_mux.proofs.EndLemmas.{reported}
use Rattle.ssh_mux.proofs.StillLemmas.{loud, quiet-out}

-- ---- how it ends

pub drill-comes : (seed clients messages : ℕ) (result : Result Status Ending) → EndsDrill result → Comes (Certain (Drills seed clients messages)) result
drill-comes seed clients messages (Ok statuses.Done) h = refl
drill-comes seed clients messages (Ok statuses.Write) h = refl
drill-comes seed clients messages (Ok status) h = absurd cc
drill-comes seed clients messages (Err endings.NotOpened) h = refl
drill-comes seed clients messages (Err endings.TransportFailed) h = refl
drill-comes seed clients messages (Err (endings.ServerBroke index why)) h = refl
drill-comes seed clients messages (Err endings.TurnsSpent) h = refl
drill-comes seed clients messages (Err endings.NoMemory) h = tt
drill-comes seed clients messages (Err ending) h = absurd cc

pub drill-opens : (result : Result Status Ending) → EndsDrill result → may_open_wire (so_far result) ≡ true
drill-opens (Ok statuses.Done) h = refl
drill-opens (Ok statuses.Write) h = refl
drill-opens (Ok status) h = absurd cc
drill-opens (Err endings.NotOpened) h = refl
drill-opens (Err endings.TransportFailed) h = refl
drill-opens (Err (endings.ServerBroke index why)) h = refl
drill-opens (Err endings.TurnsSpent) h = refl
drill-opens (Err endings.NoMemory) h = refl
drill-opens (Err ending) h = absurd cc

pub drill-touches : (seed clients messages : ℕ) (result : Result Status Ending) → EndsDrill result → touches (Certain (Drills seed clients messages)) (so_far result) ≡ true
drill-touches seed clients messages result h = rw (drill-opens result h) refl

-- files and commands have no part in it
pub drill-cause : (result : Result Status Ending) (f r : ℕ) → EndsDrill result → Caused result f f r r
drill-cause (Ok status) f r h = (refl, refl)
drill-cause (Err endings.NoMemory) f r h = (omega arith, omega arith)
drill-cause (Err endings.NotOpened) f r h = (refl, refl)
drill-cause (Err endings.TransportFailed) f r h = (refl, refl)
drill-cause (Err (endings.ServerBroke index why)) f r h = (refl, refl)
drill-cause (Err endings.TurnsSpent) f r h = (refl, refl)
drill-cause (Err ending) f r h = absurd cc

-- nor is a fault of one recorded
pub drilled-placed : (recorded : Option Recorded) (result : Result Status Ending) (ran ran' : Option (List Bytes)) (failed failed' : FailedPaths) → EndsDrill result → Placed recorded result ran ran' failed failed'
drilled-placed recorded (Ok status) ran ran' failed failed' h = tt
drilled-placed None (Err ending) ran ran' failed failed' h = tt
drilled-placed (Some recorded) (Err endings.NoMemory) ran ran' failed failed' h = tt
drilled-placed (Some recorded) (Err endings.NotOpened) ran ran' failed failed' h = tt
drilled-placed (Some recorded) (Err endings.TransportFailed) ran ran' failed failed' h = tt
drilled-placed (Some recorded) (Err (endings.ServerBroke index why)) ran ran' failed failed' h = tt
drilled-placed (Some recorded) (Err endings.TurnsSpent) ran ran' failed failed' h = tt
drilled-placed (Some recorded) (Err ending) ran ran' failed failed' h = absurd cc

pub handed-ends : (text : Bytes) (result : Result Status Ending) (before now : Option (List ℕ)) → HandsOver result text before now → EndsDrill result
handed-ends text (Ok statuses.Done) before now h = refl
handed-ends text (Ok statuses.Write) before now h = refl
handed-ends text (Ok status) before now h = absurd h
handed-ends text (Err endings.NoMemory) before now h = refl
handed-ends text (Err ending) before now h = absurd h

-- ---- what was served, and the summary

module _ (words : List Bytes) (turns : ℕ) (w w' : WireState) (out out' : Option (List ℕ)) where
  abbrev Shared : Result Status Ending → Type 0
  Shared result = Shares RefusesAll NoneRests AnyCalls no_house any_policy 0 turns None None w.seen.recorded w'.seen None result

  abbrev Ran : Result Status Ending → Type 0
  Ran result = IsShared RefusesAll NoneRests AnyCalls no_house any_policy 0 turns None None w.seen.recorded w'.seen None result

  -- of a run that ended well
  summed-run : (due : Status) (result : Result Status Ending) → Ran (Ok due) → HandsOver result (drill_text w'.tally) out out' → RunsDrill turns w.seen.recorded w'.seen w'.tally result out out'
  summed-run due result h d = record { answer = h.answer; run = h.run; ends = subst (λ e. SumsUp e w'.tally result out out') h.is_recorded d }

  summed-shared : (due : Status) (result : Result Status Ending) → Ran (Ok due) → HandsOver result (drill_text w'.tally) out out' → DrillShares turns w.seen.recorded w'.seen w'.tally result out out'
  summed-shared due (Ok status) h d = summed-run due (Ok status) h d
  summed-shared due (Err endings.NotOpened) h d = absurd d
  summed-shared due (Err endings.NoMemory) h d = inr (summed-run due (Err endings.NoMemory) h d)
  summed-shared due (Err ending) h d = summed-run due (Err ending) h d

  summed-opened : (due : Status) (result : Result Status Ending) → due ≡ statuses.Done → HandsOver result (drill_text w'.tally) out out' → OpensAt [] (drill_transport words) due w.openings w'.openings → OpensAt [] (drill_transport words) (so_far result) w.openings w'.openings
  summed-opened due result is d o = on result d (subst (λ x. OpensAt [] (drill_transport words) x w.openings w'.openings) is o) where
    on : (r : Result Status Ending) → HandsOver r (drill_text w'.tally) out out' → OpensAt [] (drill_transport words) statuses.Done w.openings w'.openings → OpensAt [] (drill_transport words) (so_far r) w.openings w'.openings
    on (Ok statuses.Done) d o = o
    on (Ok statuses.Write) d o = o
    on (Ok status) d o = absurd d
    on (Err endings.NoMemory) d o = inr o
    on (Err ending) d o = absurd d

  pub summed-goes : (due : Status) (result : Result Status Ending) → EndsMaster (Ok due) → OpensAt [] (drill_transport words) due w.openings w'.openings → Shared (Ok due) → HandsOver result (drill_text w'.tally) out out' → DrillGoes words turns result w w' out out'
  summed-goes due result is o h d = record { ends = handed-ends (drill_text w'.tally) result out out' d; opened = summed-opened due result is d o; shared = summed-shared due result h d }

-- of one that ended badly
module _ (words : List Bytes) (turns : ℕ) (w w' : WireState) (out : Option (List ℕ)) where
  -- no forwarding of a start is refused
  drilled : (meant : Ending) → EndsMaster (Err meant) → StartCause (status_of (ending_shown meant)) None → EndsDrill (Err meant)
  drilled endings.StartRefused e r = absurd cc
  drilled meant e r = e

  unsummed-run : (meant : Ending) → IsShared RefusesAll NoneRests AnyCalls no_house any_policy 0 turns None None w.seen.recorded w'.seen None (Err meant) → RunsDrill turns w.seen.recorded w'.seen w'.tally (Err meant) out out
  unsummed-run meant h = record { answer = h.answer; run = h.run; ends = subst (λ e. SumsUp e w'.tally (Err meant) out out) h.is_recorded (refl, refl) }

  unsummed-shared : (meant : Ending) → Shares RefusesAll NoneRests AnyCalls no_house any_policy 0 turns None None w.seen.recorded w'.seen None (Err meant) → DrillShares turns w.seen.recorded w'.seen w'.tally (Err meant) out out
  unsummed-shared endings.NotOpened h = (h, refl)
  unsummed-shared endings.NoMemory (inl h) = inl (h, refl)
  unsummed-shared endings.NoMemory (inr h) = inr (unsummed-run endings.NoMemory h)
  unsummed-shared meant h = unsummed-run meant h

  pub unsummed-goes : (meant : Ending) → EndsMaster (Err meant) → StartCause (status_of (ending_shown meant)) None → OpensAt [] (drill_transport words) (status_of (ending_shown meant)) w.openings w'.openings → Shares RefusesAll NoneRests AnyCalls no_house any_policy 0 turns None None w.seen.recorded w'.seen None (Err meant) → DrillGoes words turns (Err meant) w w' out out
  unsummed-goes meant e r o h = record { ends = drilled meant e r; opened = o; shared = unsummed-shared meant h }

summed-cause : (text : Bytes) (result : Result Status Ending) (before now : Option (List ℕ)) (w w' : Faults) → HandsOver result text before now → WireCause (so_far result) w w'
summed-cause text (Ok statuses.Done) before now w w' d = tt
summed-cause text (Ok statuses.Write) before now w w' d = tt
summed-cause text (Ok status) before now w w' d = absurd d
summed-cause text (Err endings.NoMemory) before now w w' d = tt
summed-cause text (Err ending) before now w w' d = absurd d

summed-calls : (turns : ℕ) (due : Status) (text : Bytes) (result : Result Status Ending) (before now : Option (List ℕ)) (old new : CallCounts) → EndsMaster (Ok due) → HandsOver result text before now → CallsEnd turns due old new → CallsEnd turns (so_far result) old new
summed-calls turns due text result before now old new is d h = record { few = h.few; opens = h.opens; wants = h.wants; starved = λ ne. absurd (unstarved (sym is ∙ h.starved ne)); late = h.late } where
  unstarved : statuses.Done ≡ statuses.Memory → ⊥
  unstarved e = absurd cc

summed-waits : (turns : ℕ) (due : Status) (text : Bytes) (result : Result Status Ending) (before now : Option (List ℕ)) (old new : CallCounts) → EndsMaster (Ok due) → HandsOver result text before now → WaitsFor turns due old new → WaitsFor turns (so_far result) old new
summed-waits turns due text result before now old new is d h = on result d (subst (λ x. WaitsFor turns x old new) is h) where
  on : (r : Result Status Ending) → HandsOver r text before now → WaitsFor turns statuses.Done old new → WaitsFor turns (so_far r) old new
  on (Ok statuses.Done) d h = h
  on (Ok statuses.Write) d h = h
  on (Ok status) d h = absurd d
  on (Err endings.NoMemory) d h = tt
  on (Err ending) d h = absurd d

summed-came : (due : Status) (text : Bytes) (result : Result Status Ending) (before now : Option (List ℕ)) (old new : CallCounts) → EndsMaster (Ok due) → HandsOver result text before now → CameFor due old new → CameFor (so_far result) old new
summed-came due text result before now old new is d h = on result d (subst (λ x. CameFor x old new) is h) where
  on : (r : Result Status Ending) → HandsOver r text before now → CameFor statuses.Done old new → CameFor (so_far r) old new
  on (Ok statuses.Done) d h = h
  on (Ok statuses.Write) d h = h
  on (Ok status) d h = absurd d
  on (Err endings.NoMemory) d h = tt
  on (Err ending) d h = absurd d

summed-idle : (due : Status) (text : Bytes) (result : Result Status Ending) (before now : Option (List ℕ)) (w w' : Faults) → EndsMaster (Ok due) → HandsOver result text before now → IdleCause due w w' → IdleCause (so_far result) w w'
summed-idle due text result before now w w' is d h = on result d (subst (λ x. IdleCause x w w') is h) where
  on : (r : Result Status Ending) → HandsOver r text before now → IdleCause statuses.Done w w' → IdleCause (so_far r) w w'
  on (Ok statuses.Done) d h = h
  on (Ok statuses.Write) d h = h
  on (Ok status) d h = absurd d
  on (Err endings.NoMemory) d h = tt
  on (Err ending) d h = absurd d

pub summed-counts : (turns : ℕ) (due : Status) (text : Bytes) (result : Result Status Ending) (before now : Option (List ℕ)) (w w' : WireState) (f f' : Faults) → EndsMaster (Ok due) → HandsOver result text before now → CountsFor false turns due w w' f f' → CountsFor false turns (so_far result) w w' f f'
summed-counts turns due text result before now w w' f f' is d h = record {
  joinings = h.joinings;
  cause = summed-cause text result before now f f' d;
  own_faults = h.own_faults;
  calls = summed-calls turns due text result before now w.calls w'.calls is d h.calls;
  came = summed-came due text result before now w.calls w'.calls is d h.came;
  waited = summed-waits turns due text result before now w.calls w'.calls is d h.waited;
  idle = λ z. summed-idle due text result before now f f' is d (h.idle z);
}

-- ---- what the output accepts

-- by its end: nothing, but for the summary
unwritten-end : (tally : Tally) (meant : Ending) (end : Result Status Ending) (out out' : Option (List ℕ)) → SumsUp end tally (Err meant) out out' → out' ≡ out
unwritten-end tally endings.NoMemory (Ok due) out out' h = h
unwritten-end tally meant (Ok due) out out' h = absurd h
unwritten-end tally meant (Err ending) out out' h = h.1

unwritten : (turns : ℕ) (start : Option (List Mark)) (seen : Seen) (tally : Tally) (meant : Ending) (out out' : Option (List ℕ)) → DrillShares turns start seen tally (Err meant) out out' → out' ≡ out
unwritten turns start seen tally endings.NotOpened out out' h = h.1
unwritten turns start seen tally endings.NoMemory out out' (inl h) = h.1
unwritten turns start seen tally endings.NoMemory out out' (inr h) = unwritten-end tally endings.NoMemory (recorded_as h.answer) out out' h.ends
unwritten turns start seen tally meant out out' h = unwritten-end tally meant (recorded_as h.answer) out out' h.ends

drill-takes-from : (seed clients messages turns : ℕ) (start : Option (List Mark)) (seen : Seen) (tally : Tally) (result : Result Status Ending) (out out' : Option (List ℕ)) → EndsDrill result → DrillShares turns start seen tally result out out' → OutTakes (so_far result) (Certain (Drills seed clients messages)) out out'
drill-takes-from seed clients messages turns start seen tally (Ok statuses.Done) out out' e h = tt
drill-takes-from seed clients messages turns start seen tally (Ok statuses.Write) out out' e h = tt
drill-takes-from seed clients messages turns start seen tally (Ok status) out out' e h = absurd cc
drill-takes-from seed clients messages turns start seen tally (Err meant) out out' e h =
    subst (λ o. OutTakes (status_of (ending_shown meant)) (Certain (Drills seed clients messages)) out o) (sym (unwritten turns start seen tally meant out out' h)) (quiet-out (status_of (ending_shown meant)) (Certain (Drills seed clients messages)) out (loud (ending_shown meant)))

pub drill-takes : (seed clients messages : ℕ) (words : List Bytes) (turns : ℕ) (result : Result Status Ending) (w w' : WireState) (out out' : Option (List ℕ)) → DrillGoes words turns result w w' out out' → OutTakes (so_far result) (Certain (Drills seed clients messages)) out out'
drill-takes seed clients messages words turns result w w' out out' h = drill-takes-from seed clients messages turns w.seen.recorded w'.seen w'.tally result out out' h.ends h.shared

-- ---- an ending that came before

pub still-drill : (k : KnownCommand) (meant : Ending) (words : List Bytes) (turns : ℕ) (w : WireState) (out : Option (List ℕ)) → IsRunRefused k (ending_shown meant) → OnTrue (drills k) (DrillGoes words turns (Err meant) w w out out)
still-drill (Certain (Ends due)) meant words turns w out h = tt
still-drill (Certain (Writes text)) meant words turns w out h = tt
still-drill (Certain (Opens control transport ps)) meant words turns w out h = tt
still-drill Listing meant words turns w out h = tt
still-drill (Certain (Joins control asked what)) meant words turns w out h = tt
still-drill (Client asked what) meant words turns w out h = tt
still-drill (Master transport ps) meant words turns w out h = tt
still-drill (Certain (Drills seed clients messages)) endings.NoMemory words turns w out h =
    record { ends = refl; opened = inl refl; shared = inl (record { same_wire = refl; same_house = refl }, refl) }
still-drill (Certain (Drills seed clients messages)) (endings.BadLine file line ReadFault) words turns w out h = absurd cc
still-drill (Certain (Drills seed clients messages)) (endings.BadLine file line RunFault) words turns w out h = absurd cc
still-drill (Certain (Drills seed clients messages)) meant words turns w out h = absurd h

-- ---- with its line

module _ (words : List Bytes) (turns : ℕ) (w w' : WireState) (out out' : Option (List ℕ)) where
  abbrev Went : Result Status Ending → Type 0
  Went result = DrillGoes words turns result w w' out out'

  -- without one
  well-recorded : (status : Status) (end : Result Status Ending) (err : Option (List ℕ)) (f : ℕ) → SumsUp end w'.tally (Ok status) out out' → DrillRecords end w'.tally status out out' err err f f
  well-recorded statuses.Done (Ok due) err f h = (h, refl)
  well-recorded statuses.Write (Ok due) err f h = (h, refl)
  well-recorded status (Ok due) err f h = absurd h
  well-recorded status (Err ending) err f h = let e = h.0 in absurd cc

  well-run : (status : Status) (err : Option (List ℕ)) (f : ℕ) → RunsDrill turns w.seen.recorded w'.seen w'.tally (Ok status) out out' → IsDrilled turns w.seen.recorded w'.seen w'.tally status out out' err err f f
  well-run status err f h = record { answer = h.answer; run = h.run; ends = well-recorded status (recorded_as h.answer) err f h.ends }

  -- a status without a line is neither that of running out of memory nor that of sockets that
  -- aren't open
  silent-end : (status : Status) (end : Result Status Ending) → SumsUp end w'.tally (Ok status) out out' → (status ≡ statuses.Done) ⊎ (status ≡ statuses.Write)
  silent-end statuses.Done end h = inl refl
  silent-end statuses.Write end h = inr refl
  silent-end status (Ok due) h = absurd h
  silent-end status (Err ending) h = let e = h.0 in absurd cc

  abbrev Served : Status → Option (List ℕ) → ℕ → Type 0
  Served status err f = DrillServes turns w.seen.recorded w'.seen w'.tally status out out' err err f f

  well-served : (status : Status) (err : Option (List ℕ)) (f : ℕ) → (status ≡ statuses.Done) ⊎ (status ≡ statuses.Write) → IsDrilled turns w.seen.recorded w'.seen w'.tally status out out' err err f f → Served status err f
  well-served status err f (inl e) h = subst (λ x. Served x err f) (sym e) (subst (λ x. IsDrilled turns w.seen.recorded w'.seen w'.tally x out out' err err f f) e h)
  well-served status err f (inr e) h = subst (λ x. Served x err f) (sym e) (subst (λ x. IsDrilled turns w.seen.recorded w'.seen w'.tally x out out' err err f f) e h)

  well-goes : (status : Status) (err : Option (List ℕ)) (f : ℕ) → Went (Ok status) → OpensAt [] (drill_transport words) status w.openings w'.openings × Served status err f
  well-goes status err f h = (h.opened, well-served status err f (silent-end status (recorded_as h.shared.answer) h.shared.ends) (well-run status err f h.shared))

pub drill_well : (drilled : Bool) (words : List Bytes) (turns : ℕ) (status : Status) (k k' : Sockets) (s s' : Sources) (out out' err : OutState) → OnTrue drilled (DrillGoes words turns (Ok status) k.wire k'.wire out.recorded out'.recorded) → OnTrue drilled (IsDrill words turns status (world k s out err) (world k' s' out' err))
drill_well true words turns status k k' s s' out out' err h = let w = well-goes words turns k.wire k'.wire out.recorded out'.recorded status err.recorded err.faults h in record { opened = w.0; served = w.1 }
drill_well false words turns status k k' s s' out out' err h = tt

-- with one
module _ (words : List Bytes) (turns : ℕ) (w w' : WireState) (out out' : Option (List ℕ)) (err err' : Option (List ℕ)) (f f' : ℕ) where
  abbrev RecordedSo : Status → Type 0
  RecordedSo status = DrillServes turns w.seen.recorded w'.seen w'.tally status out out' err err' f f'

  bad-recorded : (meant : Ending) (status : Status) (end : Result Status Ending) → (meant ≡ endings.NoMemory → status ≡ statuses.Memory) → SumsUp end w'.tally (Err meant) out out' → Reports status (ending_shown meant) err err' f f' → DrillRecords end w'.tally status out out' err err' f f'
  bad-recorded endings.NoMemory status (Ok due) is h r = subst (λ x. DrillRecords (Ok due) w'.tally x out out' err err' f f') (sym (is refl)) (h, subst (λ x. Reports x (ending_shown endings.NoMemory) err err' f f') (is refl) r)
  bad-recorded meant status (Ok due) is h r = absurd h
  bad-recorded meant status (Err ending) is h r = let same : meant ≡ ending = (let e = h.0 in cc) in (h.1, subst (λ m. Reports status (ending_shown m) err err' f f') same r)

  bad-run : (meant : Ending) (status : Status) → (meant ≡ endings.NoMemory → status ≡ statuses.Memory) → RunsDrill turns w.seen.recorded w'.seen w'.tally (Err meant) out out' → Reports status (ending_shown meant) err err' f f' → IsDrilled turns w.seen.recorded w'.seen w'.tally status out out' err err' f f'
  bad-run meant status is h r = record { answer = h.answer; run = h.run; ends = bad-recorded meant status (recorded_as h.answer) is h.ends r }

  memory-recorded : (meant : Ending) → DrillShares turns w.seen.recorded w'.seen w'.tally (Err meant) out out' → Reports statuses.Memory (ending_shown meant) err err' f f' → RecordedSo statuses.Memory
  memory-recorded endings.NotOpened h r = inl h
  memory-recorded endings.NoMemory (inl h) r = inl h
  memory-recorded endings.NoMemory (inr h) r = inr (bad-run endings.NoMemory statuses.Memory (λ e. refl) h r)
  memory-recorded meant h r = inr (bad-run meant statuses.Memory (λ e. refl) h r)

  own-recorded : (meant : Ending) → EndsDrill (Err meant) → DrillShares turns w.seen.recorded w'.seen w'.tally (Err meant) out out' → Reports (status_of (ending_shown meant)) (ending_shown meant) err err' f f' → RecordedSo (status_of (ending_shown meant))
  own-recorded endings.NotOpened e h r = h
  own-recorded endings.NoMemory e h r = memory-recorded endings.NoMemory h r
  own-recorded endings.TransportFailed e h r = bad-run endings.TransportFailed statuses.Transport (λ x. absurd cc) h r
  own-recorded (endings.ServerBroke index why) e h r = bad-run (endings.ServerBroke index why) statuses.Broke (λ x. absurd cc) h r
  own-recorded endings.TurnsSpent e h r = bad-run endings.TurnsSpent statuses.Spent (λ x. absurd cc) h r
  own-recorded meant e h r = absurd cc

  memory-opened : (status : Status) → OpensAt [] (drill_transport words) status w.openings w'.openings → OpensAt [] (drill_transport words) statuses.Memory w.openings w'.openings
  memory-opened statuses.Memory h = h
  memory-opened status h = inr h

  abbrev Drilled : Status → Type 0
  Drilled status = OpensAt [] (drill_transport words) status w.openings w'.openings × RecordedSo status

  bad-goes : (meant : Ending) (status : Status) → (status ≡ statuses.Memory) ⊎ (status ≡ status_of (ending_shown meant)) → DrillGoes words turns (Err meant) w w' out out' → Reports status (ending_shown meant) err err' f f' → Drilled status
  bad-goes meant status (inl e) h r = subst Drilled (sym e) (memory-opened (status_of (ending_shown meant)) h.opened, memory-recorded meant h.shared (subst (λ x. Reports x (ending_shown meant) err err' f f') e r))
  bad-goes meant status (inr e) h r = subst Drilled (sym e) (h.opened, own-recorded meant h.ends h.shared (subst (λ x. Reports x (ending_shown meant) err err' f f') e r))

pub drill_after : (drilled : Bool) (words : List Bytes) (turns : ℕ) (meant : Ending) (status : Status) (k k' : Sockets) (s s' : Sources) (out out' err err' : OutState) → Reports status (ending_shown meant) err.recorded err'.recorded err.faults err'.faults → OnTrue drilled (DrillGoes words turns (Err meant) k.wire k'.wire out.recorded out'.recorded) → OnTrue drilled (IsDrill words turns status (world k s out err) (world k' s' out' err'))
drill_after true words turns meant status k k' s s' out out' err err' r h = let w = bad-goes words turns k.wire k'.wire out.recorded out'.recorded err.recorded err'.recorded err.faults err'.faults meant status (reported status (ending_shown meant) err.recorded err'.recorded err.faults err'.faults r) h r in record { opened = w.0; served = w.1 }
drill_after false words turns meant status k k' s s' out out' err err' r h = tt
