-- An ending that came before anything was written or opened.
use Rattle.std.proofs.Common.{◌≡◌, ◌⊎◌, inl, inr, ◌&&◌, ◌||◌, ℕ, Bool, true, false, List, [], Option, Some, None, Err, refl, sym, ap, subst, arith}
use Rattle.std.specs.Bool.{OnFalse, OnTrue}
use Rattle.conf_rules.specs.declared.causes.Cause.TheVariants.{ReadFault, RunFault}
use Rattle.conf_rules.specs.declared.causes.ListError.TheVariants as list_errors
use Rattle.conf_rules.specs.declared.causes.ResolveError.TheVariants.{At, OutOfMemory}
use Rattle.conf_rules.specs.Diagnostics as ends
use Rattle.conf_rules.specs.Diagnostics.{Ending}
use Rattle.conf_rules.specs.CommandOutcome.{Ends, Writes, Opens, Drills, Joins}
use Rattle.conf_rules.specs.Resolution.{all_rows}
use Rattle.conf_rules.specs.Recorded.{Recorded}
use Rattle.mux_engine.specs.Sides.{Resting}
use Rattle.mux_history.specs.Policy.{Policy}
use Rattle.mux_outside.specs.House.{HouseState}
use Rattle.mux_outside.specs.HouseCalls.{HouseCall}
use Rattle.mux_outside.specs.Seen.{Seen}
use Rattle.mux_outside.specs.Faults.{Faults}
use Rattle.mux_outside.specs.CallCounts.{CallCounts}
use Rattle.mux_outside.specs.declared.house.HouseReply.{HouseReply}
use Rattle.mux_outside.specs.declared.house_mark.HouseMark.{HouseMark}
use Rattle.mux_outside.specs.declared.mark.OpenCall.{OpenCall}
use Rattle.mux_outside.specs.declared.starts.ListenPermit.{ListenPermit}
use Rattle.mux_outside.specs.declared.starts.Starts.{Starts}
use Rattle.ssh_mux.specs.declared.ending.Ending.{Ending as MeantEnding}
use Rattle.ssh_mux.specs.declared.ending.Ending.TheVariants as endings
use Rattle.ssh_mux.specs.declared.status.Status.{Status}
use Rattle.ssh_mux.specs.declared.status.Status.TheVariants as statuses
use Rattle.ssh_mux.specs.Answers.{IsDue, IsRunRefused, has_no_line, may_open_wire, may_share, touches, refuses_master, ends_client, ends_master}
use Rattle.ssh_mux.specs.Causes.{OutCause}
use Rattle.ssh_mux.specs.Ending.{ending_shown}
use Rattle.ssh_mux.specs.Out.{OutStays, OutTakes}
use Rattle.ssh_mux.specs.Outcomes.{KnownCommand, Certain, Listing, Master, Client, drills, opens}
use Rattle.ssh_mux.specs.Sharing.{CallsEnd, CameFor, IdleCause, OpensOnce, Shares, StartCause, WaitsFor, WireCause}
use Rattle.ssh_mux.specs.Starts.{BeganWith, Begun, MustsAs, starts_due}
use Rattle.ssh_mux.specs.Status.{status_of, refusal_status, listing_status}

-- ---- small facts

pub on_false : (b : Bool) {X : Type 0} (x : X) → OnFalse b (x ≡ x)
on_false true x = tt
on_false false x = refl

pub on_true : (b : Bool) (P : Type 0) → P → OnTrue b P
on_true true P h = h
on_true false P h = tt

pub not_false : (b : Bool) (P : Type 0) → b ≡ true → OnFalse b P
not_false b P e = subst (λ x. OnFalse x P) (sym e) tt

pub not_true : (b : Bool) (P : Type 0) → b ≡ false → OnTrue b P
not_true b P e = subst (λ x. OnTrue x P) (sym e) tt

-- what holds at any rate
pub where_false : (b : Bool) (P : Type 0) → P → OnFalse b P
where_false true P h = tt
where_false false P h = h

-- of two things
pub both-still : (b : Bool) {X Y : Type 0} (x : X) (y : Y) → OnFalse b ((x ≡ x) × (y ≡ y))
both-still true x y = tt
both-still false x y = (refl, refl)

pub first-still : (b : Bool) (P Q : Type 0) → OnFalse b (P × Q) → OnFalse b P
first-still true P Q h = tt
first-still false P Q h = h.0

pub second-still : (b : Bool) (P Q : Type 0) → OnFalse b (P × Q) → OnFalse b Q
second-still true P Q h = tt
second-still false P Q h = h.1

-- and of what they show
pub both-shown : (b : Bool) {X Y A B : Type 0} (f : X → A) (g : Y → B) (x x' : X) (y y' : Y) → OnFalse b ((x' ≡ x) × (y' ≡ y)) → OnFalse b ((f x' ≡ f x) × (g y' ≡ g y))
both-shown true f g x x' y y' h = tt
both-shown false f g x x' y y' h = (ap f h.0, ap g h.1)

-- what follows there
pub follows : (b : Bool) (P Q : Type 0) → (P → Q) → OnFalse b P → OnFalse b Q
follows true P Q f h = tt
follows false P Q f h = f h

-- a forwarder that a master serves, where something opens
pub served-house : (present shares : Bool) (P : Type 0) → shares ≡ true → OnFalse present P → OnFalse (present && shares) P
served-house true true P e h = tt
served-house true false P e h = absurd cc
served-house false shares P e h = h

-- what stays where one of two things is not
pub or-else : (a b : Bool) (P : Type 0) → OnFalse a P → OnFalse (a || b) P
or-else true b P h = tt
or-else false true P h = tt
or-else false false P h = h

pub else-or : (a b : Bool) (P : Type 0) → OnFalse b P → OnFalse (a || b) P
else-or true b P h = tt
else-or false b P h = h

or-left : (a b : Bool) → a ≡ true → (a || b) ≡ true
or-left true b e = refl
or-left false b e = absurd cc

-- what stays where nothing may have been opened for a master stays where it was not for a drill
-- either
pub untouched : (opened shares drilled : Bool) (P : Type 0) → OnFalse (opened && shares) P → OnFalse (opened && (shares || drilled)) P
untouched false shares drilled P h = h
untouched true true drilled P h = tt
untouched true false true P h = tt
untouched true false false P h = h

-- nothing is shared where nothing opens
pub shut : (k : KnownCommand) (status : Status) → opens k ≡ false → may_share k status ≡ false
shut k status e = rw e (and-false (may_open_wire status)) where
  and-false : (b : Bool) → (b && false) ≡ false
  and-false true = refl
  and-false false = refl

-- ---- an ending has a line

refusal-loud : (e : _) → has_no_line (refusal_status e) ≡ false
refusal-loud (At file line ReadFault) = refl
refusal-loud (At file line RunFault) = refl
refusal-loud (At file line cause) = refl
refusal-loud OutOfMemory = refl

listing-loud : (e : _) → has_no_line (listing_status e) ≡ false
listing-loud (list_errors.Token key error) = refl
listing-loud list_errors.OutOfMemory = refl

pub loud : (ending : Ending) → has_no_line (status_of ending) ≡ false
loud (ends.BadWords e) = refl
loud (ends.BadLine e) = refusal-loud e
loud (ends.BadListing e) = listing-loud e
loud ends.NoControlPath = refl
loud ends.NotOpened = refl
loud ends.TransportFailed = refl
loud (ends.ServerBroke index why) = refl
loud ends.TurnsSpent = refl
loud ends.StartRefused = refl
loud ends.MasterRefused = refl
loud ends.MasterBroke = refl
loud ends.NoMemory = refl

-- ---- what it leaves

pub still-due : (k : KnownCommand) (ending : Ending) → IsRunRefused k ending → IsDue k ending
still-due k ends.NoMemory h = tt
still-due k (ends.BadLine (At file line ReadFault)) h = h
still-due k (ends.BadLine (At file line RunFault)) h = h
still-due (Certain (Ends due)) ending h = h
still-due (Certain (Writes text)) ending h = h
still-due (Certain (Opens control transport ps)) ending h = absurd h
still-due (Certain (Drills seed clients messages)) ending h = absurd h
still-due Listing ending h = h
still-due (Certain (Joins control asked what)) ending h = absurd h
still-due (Master transport ps) ending h = or-left (refuses_master ending) (ends_master ending) h
still-due (Client asked what) ending h = or-left (refuses_master ending) (ends_client ending) h

-- nothing more was accepted
pub out-stays : (status : Status) (k : KnownCommand) (before : Option (List ℕ)) → OutStays status k before before
out-stays status (Certain (Joins control asked what)) before = on_false (may_open_wire status) before
out-stays status (Client asked what) before = on_false (may_open_wire status) before
out-stays status (Certain (Ends due)) before = refl
out-stays status (Certain (Writes text)) before = refl
out-stays status (Certain (Opens control transport ps)) before = refl
out-stays status (Certain (Drills seed clients messages)) before = refl
out-stays status Listing before = refl
out-stays status (Master transport ps) before = refl

pub quiet-out : (status : Status) (k : KnownCommand) (before : Option (List ℕ)) → has_no_line status ≡ false → OutTakes status k before before
quiet-out statuses.Done k before e = absurd cc
quiet-out statuses.Write k before e = absurd cc
quiet-out status k before e = out-stays status k before

pub quiet-count : (status : Status) (count : ℕ) → has_no_line status ≡ false → OutCause status count count
quiet-count statuses.Write count e = absurd cc
quiet-count status count e = refl

pub still-opened : (k : KnownCommand) (ending : Ending) (before : Option (List OpenCall)) → IsRunRefused k ending → OpensOnce k (status_of ending) before before
still-opened (Certain (Ends due)) ending before h = refl
still-opened (Certain (Writes text)) ending before h = refl
still-opened (Certain (Drills seed clients messages)) ending before h = tt
still-opened Listing ending before h = refl
still-opened (Certain (Joins control asked what)) ending before h = refl
still-opened (Client asked what) ending before h = refl
still-opened (Certain (Opens control transport ps)) ends.NoMemory before h = inl refl
still-opened (Certain (Opens control transport ps)) (ends.BadLine (At file line ReadFault)) before h = refl
still-opened (Certain (Opens control transport ps)) (ends.BadLine (At file line RunFault)) before h = refl
still-opened (Certain (Opens control transport ps)) ending before h = absurd h
still-opened (Master transport ps) ends.NoMemory before h = inl refl
still-opened (Master transport ps) (ends.BadLine OutOfMemory) before h = inl refl
still-opened (Master transport ps) (ends.BadLine (At file line ReadFault)) before h = refl
still-opened (Master transport ps) (ends.BadLine (At file line RunFault)) before h = refl
still-opened (Master transport ps) (ends.BadLine (At file line cause)) before h = refl
still-opened (Master transport ps) (ends.BadListing (list_errors.Token key error)) before h = refl
still-opened (Master transport ps) (ends.BadListing list_errors.OutOfMemory) before h = inl refl
still-opened (Master transport ps) ends.NoControlPath before h = refl
still-opened (Master transport ps) ending before h = absurd cc

-- no wire is opened by it, but maybe if memory runs out
abbrev Unshared : KnownCommand → Ending → Type 0
Unshared k ending = (may_share k (status_of ending) ≡ false) ⊎ (status_of ending ≡ statuses.Memory)

unshared : (k : KnownCommand) (ending : Ending) → IsRunRefused k ending → Unshared k ending
unshared (Certain (Ends due)) ending h = inl (shut (Certain (Ends due)) (status_of ending) refl)
unshared (Certain (Writes text)) ending h = inl (shut (Certain (Writes text)) (status_of ending) refl)
unshared (Certain (Drills seed clients messages)) ending h = inl (shut (Certain (Drills seed clients messages)) (status_of ending) refl)
unshared Listing ending h = inl (shut Listing (status_of ending) refl)
unshared (Certain (Joins control asked what)) ending h = inl (shut (Certain (Joins control asked what)) (status_of ending) refl)
unshared (Client asked what) ending h = inl (shut (Client asked what) (status_of ending) refl)
unshared (Certain (Opens control transport ps)) ends.NoMemory h = inr refl
unshared (Certain (Opens control transport ps)) (ends.BadLine (At file line ReadFault)) h = inl refl
unshared (Certain (Opens control transport ps)) (ends.BadLine (At file line RunFault)) h = inl refl
unshared (Certain (Opens control transport ps)) ending h = absurd h
unshared (Master transport ps) ends.NoMemory h = inr refl
unshared (Master transport ps) (ends.BadLine OutOfMemory) h = inr refl
unshared (Master transport ps) (ends.BadLine (At file line ReadFault)) h = inl refl
unshared (Master transport ps) (ends.BadLine (At file line RunFault)) h = inl refl
unshared (Master transport ps) (ends.BadLine (At file line cause)) h = inl refl
unshared (Master transport ps) (ends.BadListing (list_errors.Token key error)) h = inl refl
unshared (Master transport ps) (ends.BadListing list_errors.OutOfMemory) h = inr refl
unshared (Master transport ps) ends.NoControlPath h = inl refl
unshared (Master transport ps) ending h = absurd cc

-- only running out of memory has its status
pub only-memory : (meant : MeantEnding) → status_of (ending_shown meant) ≡ statuses.Memory → meant ≡ endings.NoMemory
only-memory endings.NoMemory e = refl
only-memory (endings.BadWords e) h = absurd cc
only-memory (endings.BadLine file line ReadFault) h = absurd cc
only-memory (endings.BadLine file line RunFault) h = absurd cc
only-memory (endings.BadLine file line cause) h = absurd cc
only-memory (endings.BadListing key error) h = absurd cc
only-memory endings.NoControlPath h = absurd cc
only-memory endings.NotOpened h = absurd cc
only-memory endings.TransportFailed h = absurd cc
only-memory (endings.ServerBroke index why) h = absurd cc
only-memory endings.TurnsSpent h = absurd cc
only-memory endings.StartRefused h = absurd cc
only-memory endings.MasterRefused h = absurd cc
only-memory endings.MasterBroke h = absurd cc

-- a forwarder begins somehow, as is due
pub some-begun : (here : ListenPermit) (by : Option Recorded) (So : Starts → Type 0) → ((starts : Starts) → So starts) → Begun here by So
some-begun here None So h = let none : Starts = record { asks = []; gateway = false; must = false; here = here } in record { starts = none; permitted = refl; due = tt; so = h none }
some-begun here (Some recorded) So h = record { starts = starts_due here (all_rows recorded); permitted = refl; due = refl; so = h (starts_due here (all_rows recorded)) }

pub still-shared : (k : KnownCommand) (meant : MeantEnding) (May : HouseReply → Type 0) (Rest : Starts → Resting) (last : HouseState) (here : ListenPermit) (by : Option Recorded) (policy : Policy) (pid turns : ℕ) (recorded : Option (List HouseMark)) (seen : Seen) (refused : Option ℕ) → IsRunRefused k (ending_shown meant) → OnTrue (may_share k (status_of (ending_shown meant))) (Begun here by (λ starts. Shares May (Rest starts) (BeganWith starts) last policy pid turns recorded recorded seen.recorded seen refused (Err meant)))
still-shared k meant May Rest last here by policy pid turns recorded seen refused h = on (unshared k (ending_shown meant) h) where
  on : Unshared k (ending_shown meant) → OnTrue (may_share k (status_of (ending_shown meant))) (Begun here by (λ starts. Shares May (Rest starts) (BeganWith starts) last policy pid turns recorded recorded seen.recorded seen refused (Err meant)))
  on (inl e) = not_true (may_share k (status_of (ending_shown meant))) (Begun here by (λ starts. Shares May (Rest starts) (BeganWith starts) last policy pid turns recorded recorded seen.recorded seen refused (Err meant))) e
  on (inr e) = on_true (may_share k (status_of (ending_shown meant))) (Begun here by (λ starts. Shares May (Rest starts) (BeganWith starts) last policy pid turns recorded recorded seen.recorded seen refused (Err meant)))
      (subst (λ m. Begun here by (λ starts. Shares May (Rest starts) (BeganWith starts) last policy pid turns recorded recorded seen.recorded seen refused (Err m))) (sym (only-memory meant e)) (some-begun here by (λ starts. Shares May (Rest starts) (BeganWith starts) last policy pid turns recorded recorded seen.recorded seen refused (Err endings.NoMemory)) (λ starts. inl (record { same_wire = refl; same_house = refl }))))

-- there may be no memory for anything
pub starved-due : (k : KnownCommand) → IsRunRefused k ends.NoMemory
starved-due (Certain (Ends due)) = tt
starved-due (Certain (Writes text)) = tt
starved-due (Certain (Opens control transport ps)) = tt
starved-due (Certain (Drills seed clients messages)) = tt
starved-due Listing = tt
starved-due (Certain (Joins control asked what)) = tt
starved-due (Client asked what) = tt
starved-due (Master transport ps) = tt

-- the wire wasn't called
pub still-calls : (turns : ℕ) (status : Status) (calls : CallCounts) → CallsEnd turns status calls calls
still-calls turns status calls = record { few = omega arith; opens = omega arith; wants = omega arith; starved = λ ne. absurd (ne refl); late = λ e. refl }

pub still-wire : (k : KnownCommand) (ending : Ending) (w w' : Faults) → IsRunRefused k ending → OnTrue (may_share k (status_of ending)) (WireCause (status_of ending) w w')
still-wire k ending w w' h = on (unshared k ending h) where
  on : Unshared k ending → OnTrue (may_share k (status_of ending)) (WireCause (status_of ending) w w')
  on (inl e) = not_true (may_share k (status_of ending)) (WireCause (status_of ending) w w') e
  on (inr e) = subst (λ x. OnTrue (may_share k x) (WireCause x w w')) (sym e) (on_true (may_share k statuses.Memory) (WireCause statuses.Memory w w') tt)

pub still-came : (k : KnownCommand) (ending : Ending) (old new : CallCounts) → IsRunRefused k ending → OnTrue (may_share k (status_of ending)) (CameFor (status_of ending) old new)
still-came k ending old new h = on (unshared k ending h) where
  on : Unshared k ending → OnTrue (may_share k (status_of ending)) (CameFor (status_of ending) old new)
  on (inl e) = not_true (may_share k (status_of ending)) (CameFor (status_of ending) old new) e
  on (inr e) = subst (λ x. OnTrue (may_share k x) (CameFor x old new)) (sym e) (on_true (may_share k statuses.Memory) (CameFor statuses.Memory old new) tt)

pub still-start : (k : KnownCommand) (ending : Ending) (refused : Option ℕ) → IsRunRefused k ending → OnTrue (may_share k (status_of ending)) (StartCause (status_of ending) refused)
still-start k ending refused h = on (unshared k ending h) where
  on : Unshared k ending → OnTrue (may_share k (status_of ending)) (StartCause (status_of ending) refused)
  on (inl e) = not_true (may_share k (status_of ending)) (StartCause (status_of ending) refused) e
  on (inr e) = subst (λ x. OnTrue (may_share k x) (StartCause x refused)) (sym e) (on_true (may_share k statuses.Memory) (StartCause statuses.Memory refused) tt)

pub still-must : (k : KnownCommand) (ending : Ending) (due : Option Bool) (must : Bool) → IsRunRefused k ending → OnTrue (may_share k (status_of ending)) (MustsAs (status_of ending) due must)
still-must k ending due must h = on (unshared k ending h) where
  on : Unshared k ending → OnTrue (may_share k (status_of ending)) (MustsAs (status_of ending) due must)
  on (inl e) = not_true (may_share k (status_of ending)) (MustsAs (status_of ending) due must) e
  on (inr e) = subst (λ x. OnTrue (may_share k x) (MustsAs x due must)) (sym e) (on_true (may_share k statuses.Memory) (MustsAs statuses.Memory due must) tt)

pub still-waits : (k : KnownCommand) (ending : Ending) (turns : ℕ) (old new : CallCounts) → IsRunRefused k ending → OnTrue (may_share k (status_of ending)) (WaitsFor turns (status_of ending) old new)
still-waits k ending turns old new h = on (unshared k ending h) where
  on : Unshared k ending → OnTrue (may_share k (status_of ending)) (WaitsFor turns (status_of ending) old new)
  on (inl e) = not_true (may_share k (status_of ending)) (WaitsFor turns (status_of ending) old new) e
  on (inr e) = subst (λ x. OnTrue (may_share k x) (WaitsFor turns x old new)) (sym e) (on_true (may_share k statuses.Memory) (WaitsFor turns statuses.Memory old new) tt)

-- where a drill is refused memory ran out
drill-starved : (k : KnownCommand) (ending : Ending) → IsRunRefused k ending → drills k ≡ true → status_of ending ≡ statuses.Memory
drill-starved (Certain (Drills seed clients messages)) ends.NoMemory h d = refl
drill-starved (Certain (Drills seed clients messages)) (ends.BadLine (At file line ReadFault)) h d = absurd cc
drill-starved (Certain (Drills seed clients messages)) (ends.BadLine (At file line RunFault)) h d = absurd cc
drill-starved (Certain (Drills seed clients messages)) ending h d = absurd h
drill-starved (Certain (Ends due)) ending h d = absurd cc
drill-starved (Certain (Writes text)) ending h d = absurd cc
drill-starved (Certain (Opens control transport ps)) ending h d = absurd cc
drill-starved Listing ending h d = absurd cc
drill-starved (Certain (Joins control asked what)) ending h d = absurd cc
drill-starved (Client asked what) ending h d = absurd cc
drill-starved (Master transport ps) ending h d = absurd cc

-- what holds where a wire may have been opened for a master
pub for-master : (opened shares drilled : Bool) (P : Type 0) → drilled ≡ false → OnTrue (opened && shares) P → OnTrue (opened && (shares || drilled)) P
for-master false shares drilled P e h = tt
for-master true true drilled P e h = h
for-master true false true P e h = absurd cc
for-master true false false P e h = h

pub still-waited : (k : KnownCommand) (ending : Ending) (turns : ℕ) (old new : CallCounts) → IsRunRefused k ending → OnTrue (touches k (status_of ending)) (WaitsFor turns (status_of ending) old new)
still-waited k ending turns old new h = by_drill (drills k) refl where
  by_drill : (d : Bool) → drills k ≡ d → OnTrue (touches k (status_of ending)) (WaitsFor turns (status_of ending) old new)
  by_drill true e = subst (λ x. OnTrue (touches k x) (WaitsFor turns x old new)) (sym (drill-starved k ending h e)) (on_true (touches k statuses.Memory) (WaitsFor turns statuses.Memory old new) tt)
  by_drill false e = for-master (may_open_wire (status_of ending)) (opens k) (drills k) (WaitsFor turns (status_of ending) old new) e (still-waits k ending turns old new h)

pub still-caused : (k : KnownCommand) (ending : Ending) (w w' : Faults) → IsRunRefused k ending → OnTrue (touches k (status_of ending)) (WireCause (status_of ending) w w')
still-caused k ending w w' h = by_drill (drills k) refl where
  by_drill : (d : Bool) → drills k ≡ d → OnTrue (touches k (status_of ending)) (WireCause (status_of ending) w w')
  by_drill true e = subst (λ x. OnTrue (touches k x) (WireCause x w w')) (sym (drill-starved k ending h e)) (on_true (touches k statuses.Memory) (WireCause statuses.Memory w w') tt)
  by_drill false e = for-master (may_open_wire (status_of ending)) (opens k) (drills k) (WireCause (status_of ending) w w') e (still-wire k ending w w' h)

pub refused-came : (k : KnownCommand) (ending : Ending) (old new : CallCounts) → IsRunRefused k ending → OnTrue (touches k (status_of ending)) (CameFor (status_of ending) old new)
refused-came k ending old new h = by_drill (drills k) refl where
  by_drill : (d : Bool) → drills k ≡ d → OnTrue (touches k (status_of ending)) (CameFor (status_of ending) old new)
  by_drill true e = subst (λ x. OnTrue (touches k x) (CameFor x old new)) (sym (drill-starved k ending h e)) (on_true (touches k statuses.Memory) (CameFor statuses.Memory old new) tt)
  by_drill false e = for-master (may_open_wire (status_of ending)) (opens k) (drills k) (CameFor (status_of ending) old new) e (still-came k ending old new h)

-- what opens nothing
pub shut-all : (k : KnownCommand) (status : Status) → opens k ≡ false → drills k ≡ false → touches k status ≡ false
shut-all k status e d = rw (e, d) (and-false (may_open_wire status)) where
  and-false : (b : Bool) → (b && false) ≡ false
  and-false true = refl
  and-false false = refl

-- of a command that opens nothing
pub unopened-waits : (b : Bool) (k : KnownCommand) (status : Status) (turns : ℕ) (old new : CallCounts) → opens k ≡ false → drills k ≡ false → OnFalse b (OnTrue (touches k status) (WaitsFor turns status old new))
unopened-waits b k status turns old new e d = where_false b (OnTrue (touches k status) (WaitsFor turns status old new)) (not_true (touches k status) (WaitsFor turns status old new) (shut-all k status e d))

-- of one that was refused
pub refused-waits : (b : Bool) (k : KnownCommand) (ending : Ending) (turns : ℕ) (old new : CallCounts) → IsRunRefused k ending → OnFalse b (OnTrue (touches k (status_of ending)) (WaitsFor turns (status_of ending) old new))
refused-waits b k ending turns old new h = where_false b (OnTrue (touches k (status_of ending)) (WaitsFor turns (status_of ending) old new)) (still-waited k ending turns old new h)

-- of a master that was refused
pub unshared-waits : (b : Bool) (k : KnownCommand) (ending : Ending) (turns : ℕ) (old new : CallCounts) → IsRunRefused k ending → OnFalse b (OnTrue (may_share k (status_of ending)) (WaitsFor turns (status_of ending) old new))
unshared-waits b k ending turns old new h = where_false b (OnTrue (may_share k (status_of ending)) (WaitsFor turns (status_of ending) old new)) (still-waits k ending turns old new h)

pub still-idle : (status : Status) (w : Faults) → IdleCause status w w
still-idle statuses.Open w = tt
still-idle statuses.Memory w = tt
still-idle status w = record { server = refl; client = refl }
