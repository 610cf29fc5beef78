-- What a master leaves of its wire and its forwarder, from what was opened and served.
use Rattle.std.proofs.Common.{◌≡◌, inr, ℕ, Bool, true, false, List, [], ◌++◌, Option, Some, None, Result, Ok, Err, refl, sym, ap, subst, ◌∙◌}
use Rattle.std.proofs.lemmas.List.{append-nil}
use Rattle.std.specs.Prelude.{IsTrue, option_map}
use Rattle.conf_options.specs.Kept.{Given}
use Rattle.conf_rules.specs.declared.asked.Asked.{Asked}
use Rattle.conf_rules.specs.declared.command.Command.TheVariants as commands
use Rattle.conf_rules.specs.CommandOutcome.{Machine}
use Rattle.conf_rules.specs.Texts.{Bytes}
use Rattle.conf_rules.specs.Recorded.{Recorded}
use Rattle.mux_engine.specs.Came.{EndedBy}
use Rattle.mux_engine.specs.Rests.{HasCalled, HasEnded, refusal_after}
use Rattle.mux_engine.specs.Wires.{IsWireOpened, KeepsWire, NoFault}
use Rattle.mux_history.specs.declared.ended.Ended.{Ended}
use Rattle.mux_history.specs.declared.ended.Ended.TheVariants as ends
use Rattle.mux_outside.specs.CallCounts.{CallCounts, calls_after_open}
use Rattle.mux_outside.specs.declared.file_error.FileError.TheVariants as failures
use Rattle.mux_outside.specs.declared.house.HouseReply.{HouseReply}
use Rattle.mux_outside.specs.declared.mark.OpenCall.{OpenCall}
use Rattle.mux_outside.specs.declared.starts.Starts.{Starts}
use Rattle.mux_outside.specs.Faults.{Faults, OpeningFault}
use Rattle.mux_outside.specs.House.{HouseState}
use Rattle.mux_outside.specs.WireState.{WireState, state_after_open}
use Rattle.ssh_mux.specs.declared.ending.Ending.{Ending}
use Rattle.ssh_mux.specs.declared.status.Status.{Status}
use Rattle.ssh_mux.specs.declared.status.Status.TheVariants as statuses
use Rattle.ssh_mux.specs.Answers.{IsRunRefused, may_share, serves_house, so_far}
use Rattle.ssh_mux.specs.Ending.{ending_shown}
use Rattle.ssh_mux.specs.Here.{here_of}
use Rattle.ssh_mux.specs.Master.{EndsMaster}
use Rattle.ssh_mux.specs.Outcomes.{KnownCommand, of_command}
use Rattle.ssh_mux.specs.Sharing.{CameFor, CountsFor, MasterLeaves, OpensAt, SharesWith, StartCause, WireCause, opened, here_in, policy_in, policy_of, recorded_as}
use Rattle.ssh_mux.specs.Starts.{BeganWith, Begun, BegunRests, MustsAs, SettledFor, must_for, starts_for}
use Rattle.ssh_mux.specs.Status.{status_of}
use Rattle.ssh_mux.specs.World.{Sockets}
use Rattle.ssh_mux.proofs.OwnLemmas.{from-own, kept-own, still-own}
use Rattle.ssh_mux.proofs.PolicyLemmas.{with-permissions}
use Rattle.ssh_mux.proofs.SharingLemmas.{IsMaster, came_end, idle_end, master-came, master-idle, master-opened, master-opens, master-waits, opened_ended, opened_stops, opening_calls, serving_calls, waits_end}
use Rattle.ssh_mux.proofs.StartLemmas.{musts-recorded, starts-recorded}
use Rattle.ssh_mux.proofs.StillLemmas.{on_true, still-came, still-calls, still-idle, still-must, still-opened, still-shared, still-start, still-wire, unshared-waits, where_false}
use Rattle.conf_rules.specs.declared.command.Permissions.{Permissions}

-- ---- counts

-- where there was no memory before the opening
pub starved-counts : (housed : Bool) (turns : ℕ) (w : WireState) (f : Faults) → CountsFor housed turns statuses.Memory w w f f
starved-counts housed turns w f = record {
  joinings = refl;
  cause = tt;
  own_faults = still-own w.seen.recorded f.own;
  calls = still-calls turns statuses.Memory w.calls;
  came = tt;
  waited = where_false housed Unit tt;
  idle = λ z. where_false housed Unit tt;
}

-- where the opening had this answer, and nothing was served
module _ (housed : Bool) (turns : ℕ) (control transport : Bytes) (old new : WireState) (f f' : Faults) where
  pub failed-counts : new ≡ state_after_open (Err failures.Failed) control transport new.tally old → OpeningFault f f' → CountsFor housed turns statuses.Open old new f f'
  failed-counts e cause = record {
    joinings = ap (λ (w : WireState). w.joinings) e;
    cause = cause;
    own_faults = kept-own old.seen.recorded new.seen.recorded f.own f'.own (ap (λ (w : WireState). w.seen.recorded) e) cause.own;
    calls = opening_calls (Err failures.Failed) turns statuses.Open old.calls new.calls (ap (λ (w : WireState). w.calls) e);
    came = tt;
    waited = where_false housed Unit tt;
    idle = λ z. where_false housed Unit tt;
  }

-- ---- after the opening

pub is-opened : (x : Unit {0}) (control transport : Bytes) (old mid : WireState) → mid ≡ state_after_open (Ok x) control transport mid.tally old → IsWireOpened mid.seen
is-opened x control transport old mid e = subst (λ (w : WireState). IsWireOpened w.seen) (sym e) (record { server_alone = refl; none_blocked = refl; listens = refl; own = refl; listeners = refl })

-- where it was served
served-cause : (ended : Ended) (present : Bool) (refused : Option ℕ) (mid new : WireState) (f f' f'' : Faults) → f' ≡ f → HasEnded present refused ended mid new f' f'' → WireCause (so_far (recorded_as ended)) f f''
served-cause ends.ServerFailed present refused mid new f f' f'' e h = subst (λ (x : Faults). WireCause statuses.Transport x f'') e (h.failed refl)
served-cause ends.ServerEnd present refused mid new f f' f'' e h = tt
served-cause ends.Disconnected present refused mid new f f' f'' e h = tt
served-cause (ends.Terminated client id) present refused mid new f f' f'' e h = tt
served-cause (ends.Broke index why) present refused mid new f f' f'' e h = tt
served-cause (ends.StartRefused index) present refused mid new f f' f'' e h = tt
served-cause ends.Spent present refused mid new f f' f'' e h = tt
served-cause ends.OutOfMemory present refused mid new f f' f'' e h = tt

pub served-counts : (housed : Bool) (turns : ℕ) (ended : Ended) (refused : Option ℕ) (x : Unit {0}) (control transport : Bytes) (old mid new : WireState) (f f' f'' : Faults) → mid ≡ state_after_open (Ok x) control transport mid.tally old → f' ≡ f → HasCalled housed turns ended mid new → HasEnded housed refused ended mid new f' f'' → EndedBy ended mid.calls new.calls → KeepsWire mid new f' f'' → (turns ≡ 0 → housed ≡ false → NoFault f' f'') → CountsFor housed turns (so_far (recorded_as ended)) old new f f''
served-counts housed turns ended refused x control transport old mid new f f' f'' e same called over came keeps idle =
    let c : mid.calls ≡ calls_after_open (Ok x) old.calls = ap (λ (w : WireState). w.calls) e in
    record {
      joinings = keeps.joinings ∙ ap (λ (w : WireState). w.joinings) e;
      cause = served-cause ended housed refused mid new f f' f'' same over;
      own_faults = from-own old.seen.recorded mid.seen.recorded new.seen.recorded f.own f'.own f''.own (ap (λ (w : WireState). w.seen.recorded) e) (ap (λ (x : Faults). x.own) same) keeps.own_faults;
      calls = serving_calls (Ok x) housed turns ended old.calls mid.calls new.calls c called.stops called.came;
      came = came_end ended old.calls new.calls (opened_ended (Ok x) ended old.calls mid.calls new.calls c came);
      waited = waits_end housed turns ended old.calls new.calls (opened_stops (Ok x) housed turns ended old.calls mid.calls new.calls c called.stops);
      idle = λ z. idle_end housed ended f f' f'' same (idle z);
    }

-- and the wire was opened once
pub opens_end : (ended : Ended) (control transport : Bytes) (before now : Option (List OpenCall)) → now ≡ opened control transport before → OpensAt control transport (so_far (recorded_as ended)) before now
opens_end ends.OutOfMemory control transport before now e = inr e
opens_end ends.ServerEnd control transport before now e = e
opens_end ends.Disconnected control transport before now e = e
opens_end (ends.Terminated client id) control transport before now e = e
opens_end ends.ServerFailed control transport before now e = e
opens_end (ends.Broke index why) control transport before now e = e
opens_end (ends.StartRefused index) control transport before now e = e
opens_end ends.Spent control transport before now e = e

-- where the opening found no memory, nothing more is recorded of it
pub nothing-more : {A : Type 0} (recorded : Option (List A)) → option_map (λ xs. xs ++ []) recorded ≡ recorded
nothing-more None = refl
nothing-more (Some xs) = ap Some (append-nil xs)

-- ---- what is left

module _ {T : Type 0} (May : HouseReply → Type 0) (state : T → HouseState) where
  -- of a master that was refused before
  pub refused-leaves : (known : KnownCommand) (by : Option Recorded) (pid turns : ℕ) (meant : Ending) (k : Sockets) → IsRunRefused known (ending_shown meant) → MasterLeaves May state known by pid turns (Err meant) k k
  refused-leaves known by pid turns meant k r = record {
    opened = still-opened known (ending_shown meant) k.wire.openings r;
    joinings = refl;
    served = still-shared known meant May (BegunRests state k.house.known.present) k.house (here_in known) by (policy_in known) pid turns k.house.recorded k.wire.seen (refusal_after k.house k.house) r;
    start = still-start known (ending_shown meant) (refusal_after k.house k.house) r;
    must = λ p. still-must known (ending_shown meant) (must_for by) k.house.must r;
    wire_cause = still-wire known (ending_shown meant) k.faults k.faults r;
    own_faults = still-own k.wire.seen.recorded k.faults.own;
    calls = still-calls turns (status_of (ending_shown meant)) k.wire.calls;
    came = still-came known (ending_shown meant) k.wire.calls k.wire.calls r;
    waited = unshared-waits (serves_house k.house.known.present known) known (ending_shown meant) turns k.wire.calls k.wire.calls r;
    idle = λ z. where_false (serves_house k.house.known.present known) _ (still-idle (status_of (ending_shown meant)) k.faults);
  }

  -- of one whose control path was found
  pub served-leaves : (m : Option Machine) (asked : Asked) (transport : Bytes) (ps : Permissions) (control : Bytes) (by : Option Recorded) (settings : List Given) (pid turns : ℕ) (result : Result Status Ending) (k k' : Sockets) → IsMaster (of_command m (commands.Master asked transport ps)) transport ps control → SettledFor by settings → EndsMaster result → OpensAt control transport (so_far result) k.wire.openings k'.wire.openings
      → SharesWith May (BegunRests state k.house.known.present (starts_for (here_of ps.here) settings)) (BeganWith (starts_for (here_of ps.here) settings)) (policy_of ps) pid turns k.house k'.house k.wire k'.wire result
      → StartCause (so_far result) (refusal_after k.house k'.house) → (IsTrue k.house.known.present → MustsAs (so_far result) (Some (starts_for (here_of ps.here) settings).must) k'.house.must) → CountsFor k.house.known.present turns (so_far result) k.wire k'.wire k.faults k'.faults
      → MasterLeaves May state (of_command m (commands.Master asked transport ps)) by pid turns result k k'
  served-leaves m asked transport ps control by settings pid turns result k k' is settled over once served start must counts =
      let known : KnownCommand = of_command m (commands.Master asked transport ps) in
      let present : Bool = k.house.known.present in
      let status : Status = so_far result in
      record {
        opened = master-opened known transport ps control status k.wire.openings k'.wire.openings is (master-opens result over) once;
        joinings = counts.joinings;
        served = with-permissions m asked transport ps status (λ (p : Permissions). Begun (here_of p.here) by (λ (starts : Starts). SharesWith May (BegunRests state present starts) (BeganWith starts) (policy_of p) pid turns k.house k'.house k.wire k'.wire result))
            (on_true (may_share known status) (Begun (here_of ps.here) by (λ (starts : Starts). SharesWith May (BegunRests state present starts) (BeganWith starts) (policy_of ps) pid turns k.house k'.house k.wire k'.wire result)) (record { starts = starts_for (here_of ps.here) settings; permitted = refl; due = starts-recorded (here_of ps.here) by settings settled; so = served }));
        start = on_true (may_share known status) (StartCause status (refusal_after k.house k'.house)) start;
        must = λ p. on_true (may_share known status) (MustsAs status (must_for by) k'.house.must) (musts-recorded by settings status k'.house.must settled (must p));
        wire_cause = on_true (may_share known status) (WireCause status k.faults k'.faults) counts.cause;
        own_faults = counts.own_faults;
        calls = counts.calls;
        came = master-came known status k.wire.calls k'.wire.calls counts.came;
        waited = master-waits known transport ps control present turns status k.wire.calls k'.wire.calls is counts.waited;
        idle = λ z. master-idle known transport ps control present status k.faults k'.faults is (counts.idle z);
      }
