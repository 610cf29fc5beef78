-- What a client leaves whose control path was found, and one that asks no master.
use Rattle.std.proofs.Common.{◌≡◌, ◌⊎◌, inl, inr, ℕ, true, List, Option, Some, None, Result, Ok, Err, refl, sym, ap, subst}
use Rattle.conf_rules.specs.declared.asked.Asked.{Asked}
use Rattle.conf_rules.specs.declared.causes.Cause.TheVariants as causes
use Rattle.conf_rules.specs.declared.causes.ResolveError.{ResolveError}
use Rattle.conf_rules.specs.declared.causes.ResolveError.TheVariants as resolve_errors
use Rattle.conf_rules.specs.declared.control.MasterCommand.{MasterCommand}
use Rattle.conf_rules.specs.Diagnostics as ends
use Rattle.conf_resolve.specs.Faults.{FailedPaths}
use Rattle.conf_rules.specs.Texts.{Bytes}
use Rattle.conf_rules.specs.Recorded.{Recorded}
use Rattle.mux_client.specs.declared.asks.Asks.{Asks}
use Rattle.mux_outside.specs.Faults.{Faults}
use Rattle.mux_outside.specs.WireState.{WireState}
use Rattle.ssh_mux.specs.declared.ending.Ending.{Ending}
use Rattle.ssh_mux.specs.declared.ending.Ending.TheVariants as endings
use Rattle.ssh_mux.specs.declared.status.Status.{Status}
use Rattle.ssh_mux.specs.declared.status.Status.TheVariants as statuses
use Rattle.ssh_mux.specs.Answers.{Comes, IsAskDue, may_have_joined, may_open_wire, so_far}
use Rattle.ssh_mux.specs.Asks.{FindsAsks, asks_for}
use Rattle.ssh_mux.specs.Causes.{Caused, OutCause}
use Rattle.ssh_mux.specs.Client.{ClientLeaves, Converses, ConversesBy, EndsClient, JoinsAt, JoinsOnce, TalkCounts, TalksFor, client_asks_in}
use Rattle.ssh_mux.specs.Ending.{ending_shown}
use Rattle.ssh_mux.specs.Outcomes.{KnownCommand, Certain, Client, may_ask_master, joins_at}
use Rattle.ssh_mux.specs.Places.{Placed}
use Rattle.ssh_mux.specs.Sharing.{WireCause}
use Rattle.ssh_mux.specs.Status.{status_of}
use Rattle.ssh_mux.specs.World.{OutState}
use Rattle.ssh_mux.proofs.StillLemmas.{loud, on_true, quiet-count, still-calls, still-idle}
use Rattle.ssh_mux.proofs.TalkLemmas.{Unjoined, still-asked-cause, still-asked-waits, still-talked}

-- what was found of it
abbrev pub IsClient : KnownCommand → Asked → MasterCommand → Bytes → Type 0
IsClient k asked what path = (k ≡ Certain (joins_at asked what path)) ⊎ (k ≡ Client asked what)

-- ---- one that asks no master

pub unasked-leaves : (k : KnownCommand) (meant : Ending) (turns : ℕ) (w : WireState) (f : Faults) (out : OutState) → JoinsOnce k (status_of (ending_shown meant)) w.joinings w.joinings → Unjoined k (ending_shown meant) → ClientLeaves k turns (Err meant) w w f f out out
unasked-leaves k meant turns w f out joined none = record {
  joined = joined;
  openings = refl;
  unopened = refl;
  talked = still-talked k meant w.seen.recorded out.recorded none;
  wire_cause = still-asked-cause k (ending_shown meant) f f none;
  out_cause = quiet-count (status_of (ending_shown meant)) out.faults (loud (ending_shown meant));
  calls = still-calls turns (status_of (ending_shown meant)) w.calls;
  waited = still-asked-waits k (ending_shown meant) turns w.calls w.calls none;
  idle = λ z. still-idle (status_of (ending_shown meant)) f;
}

-- where its forwardings have no reading, or memory ran out for them
pub bad-asks-unjoined : (k : KnownCommand) (meant : Ending) (reading : Result Asks ResolveError) → FindsAsks {A = Asks} (Err meant) reading → Unjoined k (ending_shown meant)
bad-asks-unjoined k endings.NoMemory reading h = inr refl
bad-asks-unjoined k (endings.BadLine file line (causes.Value e)) reading h = inl refl
bad-asks-unjoined k meant reading h = absurd h

certain-unasked : (asked : Asked) (what : MasterCommand) (path : Bytes) (meant : Ending) (before : Option (List Bytes)) → FindsAsks {A = Asks} (Err meant) (asks_for asked what) → JoinsOnce (Certain (joins_at asked what path)) (status_of (ending_shown meant)) before before
certain-unasked asked what path endings.NoMemory before h = inl refl
certain-unasked asked what path (endings.BadLine file line (causes.Value e)) before h = refl
certain-unasked asked what path meant before h = absurd h

some-unasked : (asked : Asked) (what : MasterCommand) (meant : Ending) (before : Option (List Bytes)) → FindsAsks {A = Asks} (Err meant) (asks_for asked what) → JoinsOnce (Client asked what) (status_of (ending_shown meant)) before before
some-unasked asked what endings.NoMemory before h = inl refl
some-unasked asked what (endings.BadLine file line (causes.Value e)) before h = refl
some-unasked asked what meant before h = absurd h

pub bad-asks-joined : (k : KnownCommand) (asked : Asked) (what : MasterCommand) (path : Bytes) (meant : Ending) (before : Option (List Bytes)) → IsClient k asked what path → FindsAsks {A = Asks} (Err meant) (asks_for asked what) → JoinsOnce k (status_of (ending_shown meant)) before before
bad-asks-joined k asked what path meant before (inl e) h = subst (λ x. JoinsOnce x (status_of (ending_shown meant)) before before) (sym e) (certain-unasked asked what path meant before h)
bad-asks-joined k asked what path meant before (inr e) h = subst (λ x. JoinsOnce x (status_of (ending_shown meant)) before before) (sym e) (some-unasked asked what meant before h)

certain-refused : (asked : Asked) (what : MasterCommand) (path : Bytes) (meant : Ending) → FindsAsks {A = Asks} (Err meant) (asks_for asked what) → Comes (Certain (joins_at asked what path)) (Err meant)
certain-refused asked what path endings.NoMemory h = tt
certain-refused asked what path (endings.BadLine file line (causes.Value e)) h = subst (λ r. IsAskDue r (ends.BadLine (resolve_errors.At file line (causes.Value e)))) (sym h) refl
certain-refused asked what path meant h = absurd h

some-refused : (asked : Asked) (what : MasterCommand) (meant : Ending) → FindsAsks {A = Asks} (Err meant) (asks_for asked what) → Comes (Client asked what) (Err meant)
some-refused asked what endings.NoMemory h = tt
some-refused asked what (endings.BadLine file line (causes.Value e)) h = refl
some-refused asked what meant h = absurd h

pub bad-asks-come : (k : KnownCommand) (asked : Asked) (what : MasterCommand) (path : Bytes) (meant : Ending) → IsClient k asked what path → FindsAsks {A = Asks} (Err meant) (asks_for asked what) → Comes k (Err meant)
bad-asks-come k asked what path meant (inl e) h = subst (λ x. Comes x (Err meant)) (sym e) (certain-refused asked what path meant h)
bad-asks-come k asked what path meant (inr e) h = subst (λ x. Comes x (Err meant)) (sym e) (some-refused asked what meant h)

pub bad-asks-placed : (recorded : Option Recorded) (meant : Ending) (reading : Result Asks ResolveError) (ran ran' : Option (List Bytes)) (failed failed' : FailedPaths) → FindsAsks {A = Asks} (Err meant) reading → Placed {A = Status} recorded (Err meant) ran ran' failed failed'
bad-asks-placed None meant reading ran ran' failed failed' h = tt
bad-asks-placed (Some recorded) endings.NoMemory reading ran ran' failed failed' h = tt
bad-asks-placed (Some recorded) (endings.BadLine file line (causes.Value e)) reading ran ran' failed failed' h = tt
bad-asks-placed (Some recorded) meant reading ran ran' failed failed' h = absurd h

-- no fault of files or commands is reported of them
pub bad-asks-cause : (meant : Ending) (reading : Result Asks ResolveError) (f f' r r' : ℕ) → FindsAsks {A = Asks} (Err meant) reading → (f' ≡ f) × (r' ≡ r) → Caused {A = Status} (Err meant) f f' r r'
bad-asks-cause endings.NoMemory reading f f' r r' h e = e
bad-asks-cause (endings.BadLine file line (causes.Value x)) reading f f' r r' h e = e
bad-asks-cause meant reading f f' r r' h e = absurd h

-- ---- one that asked

certain-comes : (asked : Asked) (what : MasterCommand) (path : Bytes) (due : Asks) (result : Result Status Ending) → asks_for asked what ≡ Ok due → EndsClient result → Comes (Certain (joins_at asked what path)) result
certain-comes asked what path due (Ok statuses.Done) e h = refl
certain-comes asked what path due (Ok statuses.Write) e h = refl
certain-comes asked what path due (Ok status) e h = absurd cc
certain-comes asked what path due (Err endings.NoMemory) e h = tt
certain-comes asked what path due (Err endings.NotOpened) e h = subst (λ r. IsAskDue r ends.NotOpened) (sym e) refl
certain-comes asked what path due (Err endings.TransportFailed) e h = subst (λ r. IsAskDue r ends.TransportFailed) (sym e) refl
certain-comes asked what path due (Err endings.TurnsSpent) e h = subst (λ r. IsAskDue r ends.TurnsSpent) (sym e) refl
certain-comes asked what path due (Err endings.MasterRefused) e h = subst (λ r. IsAskDue r ends.MasterRefused) (sym e) refl
certain-comes asked what path due (Err endings.MasterBroke) e h = subst (λ r. IsAskDue r ends.MasterBroke) (sym e) refl
certain-comes asked what path due (Err ending) e h = absurd cc

some-comes : (asked : Asked) (what : MasterCommand) (result : Result Status Ending) → EndsClient result → Comes (Client asked what) result
some-comes asked what (Ok statuses.Done) h = refl
some-comes asked what (Ok statuses.Write) h = refl
some-comes asked what (Ok status) h = absurd cc
some-comes asked what (Err endings.NoMemory) h = tt
some-comes asked what (Err endings.NotOpened) h = refl
some-comes asked what (Err endings.TransportFailed) h = refl
some-comes asked what (Err endings.TurnsSpent) h = refl
some-comes asked what (Err endings.MasterRefused) h = refl
some-comes asked what (Err endings.MasterBroke) h = refl
some-comes asked what (Err ending) h = absurd cc

pub client-comes : (k : KnownCommand) (asked : Asked) (what : MasterCommand) (path : Bytes) (due : Asks) (result : Result Status Ending) → IsClient k asked what path → asks_for asked what ≡ Ok due → EndsClient result → Comes k result
client-comes k asked what path due result (inl i) e h = subst (λ x. Comes x result) (sym i) (certain-comes asked what path due result e h)
client-comes k asked what path due result (inr i) e h = subst (λ x. Comes x result) (sym i) (some-comes asked what result h)

pub client-cause : (result : Result Status Ending) (f f' r r' : ℕ) → EndsClient result → (f' ≡ f) × (r' ≡ r) → Caused result f f' r r'
client-cause (Ok status) f f' r r' h e = e
client-cause (Err (endings.BadLine file line causes.ReadFault)) f f' r r' h e = absurd cc
client-cause (Err (endings.BadLine file line causes.RunFault)) f f' r r' h e = absurd cc
client-cause (Err ending) f f' r r' h e = e

-- it may have joined its wire
client-opens : (result : Result Status Ending) → EndsClient result → may_open_wire (so_far result) ≡ true
client-opens (Ok statuses.Done) h = refl
client-opens (Ok statuses.Write) h = refl
client-opens (Ok status) h = absurd cc
client-opens (Err endings.NoMemory) h = refl
client-opens (Err endings.NotOpened) h = refl
client-opens (Err endings.TransportFailed) h = refl
client-opens (Err endings.TurnsSpent) h = refl
client-opens (Err endings.MasterRefused) h = refl
client-opens (Err endings.MasterBroke) h = refl
client-opens (Err ending) h = absurd cc

asks-for : (k : KnownCommand) (asked : Asked) (what : MasterCommand) (path : Bytes) → IsClient k asked what path → may_ask_master k ≡ true
asks-for k asked what path (inl e) = subst (λ x. may_ask_master x ≡ true) (sym e) refl
asks-for k asked what path (inr e) = subst (λ x. may_ask_master x ≡ true) (sym e) refl

pub client-asks : (k : KnownCommand) (asked : Asked) (what : MasterCommand) (path : Bytes) (result : Result Status Ending) → IsClient k asked what path → EndsClient result → may_have_joined k (so_far result) ≡ true
client-asks k asked what path result i h = rw (client-opens result h) (asks-for k asked what path i)

certain-joined : (asked : Asked) (what : MasterCommand) (path : Bytes) (status : Status) (before now : Option (List Bytes)) → may_open_wire status ≡ true → JoinsAt path status before now → JoinsOnce (Certain (joins_at asked what path)) status before now
certain-joined asked what path statuses.Config before now o h = absurd cc
certain-joined asked what path statuses.Outside before now o h = absurd cc
certain-joined asked what path status before now o h = h

some-joined : (asked : Asked) (what : MasterCommand) (path : Bytes) (status : Status) (before now : Option (List Bytes)) → may_open_wire status ≡ true → JoinsAt path status before now → JoinsOnce (Client asked what) status before now
some-joined asked what path statuses.Config before now o h = absurd cc
some-joined asked what path statuses.Outside before now o h = absurd cc
some-joined asked what path statuses.Memory before now o (inl h) = inl h
some-joined asked what path statuses.Memory before now o (inr h) = inr (record { control = path; once = h })
some-joined asked what path status before now o h = record { control = path; once = h }

joined-once : (k : KnownCommand) (asked : Asked) (what : MasterCommand) (path : Bytes) (status : Status) (before now : Option (List Bytes)) → IsClient k asked what path → may_open_wire status ≡ true → JoinsAt path status before now → JoinsOnce k status before now
joined-once k asked what path status before now (inl e) o h = subst (λ x. JoinsOnce x status before now) (sym e) (certain-joined asked what path status before now o h)
joined-once k asked what path status before now (inr e) o h = subst (λ x. JoinsOnce x status before now) (sym e) (some-joined asked what path status before now o h)

asks-are : (k : KnownCommand) (asked : Asked) (what : MasterCommand) (path : Bytes) (due : Asks) → IsClient k asked what path → asks_for asked what ≡ Ok due → client_asks_in k ≡ Some (Ok due)
asks-are k asked what path due (inl i) e = subst (λ x. client_asks_in x ≡ Some (Ok due)) (sym i) (ap Some e)
asks-are k asked what path due (inr i) e = subst (λ x. client_asks_in x ≡ Some (Ok due)) (sym i) (ap Some e)

pub asked-leaves : (k : KnownCommand) (asked : Asked) (what : MasterCommand) (path : Bytes) (due : Asks) (turns : ℕ) (result : Result Status Ending) (w w' : WireState) (f f' : Faults) (out out' : OutState) → IsClient k asked what path → asks_for asked what ≡ Ok due → EndsClient result → JoinsAt path (so_far result) w.joinings w'.joinings → Converses due w.seen.recorded w'.seen.recorded out.recorded out'.recorded result → OutCause (so_far result) out.faults out'.faults → TalkCounts turns (so_far result) w w' f f' → ClientLeaves k turns result w w' f f' out out'
asked-leaves k asked what path due turns result w w' f f' out out' i e ends joined talked cause counts = record {
  joined = joined-once k asked what path (so_far result) w.joinings w'.joinings i (client-opens result ends) joined;
  openings = counts.openings;
  unopened = counts.unopened;
  talked = on_true (may_have_joined k (so_far result)) (ConversesBy (client_asks_in k) w.seen.recorded w'.seen.recorded out.recorded out'.recorded result) (subst (λ x. ConversesBy x w.seen.recorded w'.seen.recorded out.recorded out'.recorded result) (sym (asks-are k asked what path due i e)) talked);
  wire_cause = on_true (may_have_joined k (so_far result)) (WireCause (so_far result) f f') counts.cause;
  out_cause = cause;
  calls = counts.calls;
  waited = on_true (may_have_joined k (so_far result)) (TalksFor turns (so_far result) w.calls w'.calls) counts.waited;
  idle = counts.idle;
}
