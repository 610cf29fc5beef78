-- How a talk over a wire that was joined ends.
use Rattle.std.proofs.Common.{◌≡◌, ◌≤◌, ◌+◌, inl, inr, ℕ, List, Option, Result, Ok, Err, refl, sym, ap, subst, ◌∙◌, arith}
use Rattle.conf_rules.specs.Texts.{Bytes}
use Rattle.mux_client.specs.Counted.{SinkFaults, TalkStops, WireFaults}
use Rattle.mux_client.specs.declared.asks.Asks.{Asks}
use Rattle.mux_client.specs.declared.talked.Talked.{Talked}
use Rattle.mux_client.specs.declared.talked.Talked.TheVariants as talks
use Rattle.mux_client.specs.Journal.{ShowsRecorded, TalksRecorded}
use Rattle.mux_client.specs.Talking.{IsTransportJoined, SameWire}
use Rattle.mux_outside.specs.CallCounts.{CallCounts}
use Rattle.mux_outside.specs.declared.file_error.FileError.{FileError}
use Rattle.mux_outside.specs.declared.file_error.FileError.TheVariants as failures
use Rattle.mux_outside.specs.declared.mark.Mark.{Mark}
use Rattle.mux_outside.specs.Faults.{Faults, ServerFault}
use Rattle.mux_outside.specs.WireState.{WireState, state_after_join}
use Rattle.ssh_mux.specs.declared.status.Status.{Status}
use Rattle.ssh_mux.specs.declared.status.Status.TheVariants as statuses
use Rattle.ssh_mux.specs.Answers.{so_far}
use Rattle.ssh_mux.specs.Causes.{OutCause}
use Rattle.ssh_mux.specs.Client.{Converses, JoinsAt, TalkCounts, TalksFor, with_joined, talk_recorded}
use Rattle.ssh_mux.specs.Sharing.{CallsEnd, IdleCause, WireCause}
use Rattle.ssh_mux.proofs.StillLemmas.{still-calls, still-idle}

-- ---- what is counted

same-idle : (status : Status) (f f' : Faults) → f' ≡ f → IdleCause status f f'
same-idle status f f' e = subst (λ (x : Faults). IdleCause status f x) (sym e) (still-idle status f)

talked-cause : (talked : Talked) (f f' : Faults) → WireFaults talked f f' → WireCause (so_far (talk_recorded talked)) f f'
talked-cause talks.Done f f' h = tt
talked-cause (talks.Refused id) f f' h = tt
talked-cause (talks.BadMaster at) f f' h = tt
talked-cause talks.WriteFault f f' h = tt
talked-cause talks.ServerFailed f f' h = h.rose
talked-cause talks.Spent f f' h = tt
talked-cause talks.OutOfMemory f f' h = tt

talked-waits : (turns : ℕ) (talked : Talked) (old new : CallCounts) → TalkStops turns talked old new → TalksFor turns (so_far (talk_recorded talked)) old new
talked-waits turns talks.Spent old new h = h.spent refl
talked-waits turns talks.Done old new h = h.ends (λ e. absurd cc) (λ e. absurd cc) (λ e. absurd cc)
talked-waits turns talks.WriteFault old new h = h.ends (λ e. absurd cc) (λ e. absurd cc) (λ e. absurd cc)
talked-waits turns (talks.Refused id) old new h = h.ends (λ e. absurd cc) (λ e. absurd cc) (λ e. absurd cc)
talked-waits turns (talks.BadMaster at) old new h = h.ends (λ e. absurd cc) (λ e. absurd cc) (λ e. absurd cc)
talked-waits turns talks.ServerFailed old new h = tt
talked-waits turns talks.OutOfMemory old new h = tt

talked-calls : (turns : ℕ) (talked : Talked) (old new : CallCounts) → TalkStops turns talked old new → CallsEnd turns (so_far (talk_recorded talked)) old new
talked-calls turns talked old new h = record {
  few = h.few;
  opens = subst (λ (n : ℕ). n ≤ old.opens + 1) (sym h.opens) (omega arith);
  wants = h.wants;
  starved = λ ne. ap (λ (t : Talked). so_far (talk_recorded t)) (h.starved ne);
  late = h.late;
}

pub talk-counts : (turns : ℕ) (talked : Talked) (answer : Result (Unit {0}) FileError) (control : Bytes) (old mid new : WireState) (f f' f'' : Faults) → mid ≡ state_after_join answer control old → f' ≡ f → TalkStops turns talked mid.calls new.calls → WireFaults talked f' f'' → SameWire mid new → (turns ≡ 0 → f'' ≡ f') → TalkCounts turns (so_far (talk_recorded talked)) old new f f''
talk-counts turns talked answer control old mid new f f' f'' e same stops cause wire idle =
    let s : TalkStops turns talked old.calls new.calls = subst (λ (c : CallCounts). TalkStops turns talked c new.calls) (ap (λ (w : WireState). w.calls) e) stops in
    record {
      openings = wire.openings ∙ ap (λ (w : WireState). w.openings) e;
      unopened = s.opens;
      cause = talked-cause talked f f'' (subst (λ (x : Faults). WireFaults talked x f'') same cause);
      calls = talked-calls turns talked old.calls new.calls s;
      waited = talked-waits turns talked old.calls new.calls s;
      idle = λ z. same-idle (so_far (talk_recorded talked)) f f'' (idle z ∙ same);
    }

pub is-joined : (x : Unit {0}) (control : Bytes) (old mid : WireState) → mid ≡ state_after_join (Ok x) control old → IsTransportJoined mid.seen
is-joined x control old mid e = subst (λ (w : WireState). IsTransportJoined w.seen) (sym e) (record { alone = record { streams = refl; listens = refl; listeners = refl; own = refl }; none_blocked = refl })

-- where the wire wasn't joined
module _ (turns : ℕ) (control : Bytes) (old new : WireState) (f f' : Faults) where
  pub failed-talk : new ≡ state_after_join (Err failures.Failed) control old → ServerFault f f' → TalkCounts turns statuses.Open old new f f'
  failed-talk e cause = record {
    openings = ap (λ (w : WireState). w.openings) e;
    unopened = ap (λ (w : WireState). w.calls.opens) e;
    cause = record { later_server = cause.rose.later; later_client = subst (λ (n : ℕ). f.client ≤ n) (sym cause.client) (omega arith); own = cause.own; some = inl cause.rose };
    calls = subst (λ (c : CallCounts). CallsEnd turns statuses.Open old.calls c) (sym (ap (λ (w : WireState). w.calls) e)) (still-calls turns statuses.Open old.calls);
    waited = tt;
    idle = λ z. tt;
  }

  pub lacking-talk : new ≡ state_after_join (Err failures.OutOfMemory) control old → TalkCounts turns statuses.Memory old new f f'
  lacking-talk e = record {
    openings = ap (λ (w : WireState). w.openings) e;
    unopened = ap (λ (w : WireState). w.calls.opens) e;
    cause = tt;
    calls = subst (λ (c : CallCounts). CallsEnd turns statuses.Memory old.calls c) (sym (ap (λ (w : WireState). w.calls) e)) (still-calls turns statuses.Memory old.calls);
    waited = tt;
    idle = λ z. tt;
  }

-- ---- what else follows from the end of a talk

pub joins_end : (talked : Talked) (control : Bytes) (before now : Option (List Bytes)) → now ≡ with_joined control before → JoinsAt control (so_far (talk_recorded talked)) before now
joins_end talks.Done control before now e = e
joins_end (talks.Refused id) control before now e = e
joins_end (talks.BadMaster at) control before now e = e
joins_end talks.WriteFault control before now e = e
joins_end talks.ServerFailed control before now e = e
joins_end talks.Spent control before now e = e
joins_end talks.OutOfMemory control before now e = inr e

pub sinks_end : (talked : Talked) (f f' : ℕ) → SinkFaults talked f f' → OutCause (so_far (talk_recorded talked)) f f'
sinks_end talks.Done f f' h = h
sinks_end (talks.Refused id) f f' h = h
sinks_end (talks.BadMaster at) f f' h = h
sinks_end talks.WriteFault f f' h = h
sinks_end talks.ServerFailed f f' h = h
sinks_end talks.Spent f f' h = h
sinks_end talks.OutOfMemory f f' h = h

pub converses_end : (what : Asks) (talked : Talked) (start recorded : Option (List Mark)) (out out' : Option (List ℕ)) → TalksRecorded what talked start recorded → ShowsRecorded what talked start recorded out out' → Converses what start recorded out out' (talk_recorded talked)
converses_end what talks.OutOfMemory start recorded out out' t s = inr (record { answer = talks.OutOfMemory; is_recorded = refl; talks = t; shows = s })
converses_end what talks.Done start recorded out out' t s = record { answer = talks.Done; is_recorded = refl; talks = t; shows = s }
converses_end what (talks.Refused id) start recorded out out' t s = record { answer = talks.Refused id; is_recorded = refl; talks = t; shows = s }
converses_end what (talks.BadMaster at) start recorded out out' t s = record { answer = talks.BadMaster at; is_recorded = refl; talks = t; shows = s }
converses_end what talks.WriteFault start recorded out out' t s = record { answer = talks.WriteFault; is_recorded = refl; talks = t; shows = s }
converses_end what talks.ServerFailed start recorded out out' t s = record { answer = talks.ServerFailed; is_recorded = refl; talks = t; shows = s }
converses_end what talks.Spent start recorded out out' t s = record { answer = talks.Spent; is_recorded = refl; talks = t; shows = s }
