-- What an answer to a write makes of what holds while a wire is served.
use Rattle.std.proofs.Common.{◌≡◌, ◌≢◌, ◌≤◌, ◌<◌, ℕ, Bool, true, false, ◌||◌, List, [], ◌∷◌, ◌++◌, take, drop, length, Option, None, refl, sym, ap, ◌∙◌, subst, inl, inr, arith, append-nil}
use Rattle.std.specs.Prelude.{◌==◌, is_some, reverse, IsTrue}
use Rattle.std.specs.Bool.{MatchBool}
use Rattle.std.proofs.lemmas.Bool.Decides.{eqb_tells}
use Rattle.std.proofs.lemmas.List.{take-append-drop}
use Rattle.ssh_fields.specs.Fields.{AreBytes}
use Rattle.mux_outside.specs.HouseCalls.{Failed, Turns}
use Rattle.mux_outside.specs.HouseCalls as call
use Rattle.mux_outside.specs.OwnStreams.{is_own}
use Rattle.mux_outside.specs.Seen.{Seen, seen_after_write}
use Rattle.mux_outside.specs.Streams.{among, without}
use Rattle.mux_outside.specs.declared.house.HouseReply.{HouseReply}
use Rattle.mux_outside.specs.declared.house_mark.HouseMark.{HouseMark}
use Rattle.mux_outside.specs.declared.mark.Mark.{Mark}
use Rattle.mux_outside.specs.declared.mark.Mark.TheVariants.{Takes, Holds, WriteFails}
use Rattle.mux_outside.specs.Wire.{WroteFits}
use Rattle.mux_outside.specs.Seen.{blocked_after_write, write_marks}
use Rattle.mux_outside.specs.declared.turn.Wrote.{Wrote}
use Rattle.mux_outside.specs.declared.turn.Wrote.TheVariants as wrote
use Rattle.mux_history.specs.declared.limits.TheConstants.{HOUSE}
use Rattle.mux_history.specs.Policy.{Policy}
use Rattle.mux_history.specs.Rows.{rows_of, is_out, is_run_over}
use Rattle.mux_history.specs.Pending.{pending}
use Rattle.mux_history.specs.Solo.{run_end_of}
use Rattle.mux_history.specs.Log.{Setting}
use Rattle.mux_history.specs.Settings.{by_lists}
use Rattle.mux_history.specs.Journal.{is_own_stream, log_of_journal}
use Rattle.mux_history.specs.Promises.{IsFront, turns_in}
use Rattle.mux_history.proofs.Wires.{wire-keeps}
use Rattle.mux_state.specs.State.{EngineState}
use Rattle.mux_state.specs.Events.{here}
use Rattle.mux_state.specs.Stands.{GoesBy, log}
use Rattle.mux_state.proofs.Over.{some-end}
use Rattle.mux_engine.specs.Places.{IsTaking, own_in}
use Rattle.mux_engine.specs.Run.{IsOfWire}
use Rattle.mux_engine.specs.Serving.{IsRunSound, Promised, Serving, is_stream_open}
use Rattle.mux_engine.specs.SilentAnswers.{AcceptsAs}
use Rattle.mux_engine.specs.Sides.{Resting, Side}
use Rattle.mux_engine.proofs.Called.{calls-none, calls-other}
use Rattle.mux_engine.proofs.Cuts.{cut-next, cut-still, of-streams, on-next}
use Rattle.mux_engine.proofs.Lists.{among-last, among-other-last, apart-or-left, not-own-stream, or-last, test-other, true-false, without-other}
use Rattle.mux_engine.proofs.Logs.{blocked-other, failed-more, failed-other, failed-pending, fails-failed, has-failed-other, holds-blocked, holds-failed, log-out, lost-out, settled-as, takes-failed, took-pending}
use Rattle.mux_engine.proofs.Marks.{NextEvent, log-is, may-let-in, sound-at, stood-at}
use Rattle.mux_engine.proofs.Owns.{fails-placed, holds-placed, owns-as, takes-placed, writes-client}
use Rattle.mux_engine.proofs.Places.{house-other, open-own, placed-by, placed-still, stream-open}
use Rattle.mux_engine.proofs.Quiet.{askers-more, notes-none}
use Rattle.mux_engine.proofs.Recorded.{records-none, recorded-none}

-- ---- the engine after it

-- an engine that goes on with the same streams and the same end
pub record SameRun (s s' : EngineState) : Type 0 where
  pub policy : s'.core.policy ≡ s.core.policy
  pub pid : s'.pid ≡ s.pid
  pub streams : here s' ≡ here s
  pub ended : s'.ended ≡ s.ended
  pub listening : s'.listening ≡ s.listening

-- what waits for a stream, as the engine shows it
abbrev pub Waiting : List ℕ → ℕ → EngineState → List ℕ → List HouseReply → List Mark → Type 0
Waiting bytes k s picked replies marks = (picks : List ℕ) (later : List HouseReply) → bytes ≡ pending k (log s (picked ++ picks) (replies ++ later) marks)

-- ---- bytes that were accepted

-- the front of what waits
front-of : (set : Setting) (k : ℕ) (journal : List Mark) (bytes : List ℕ) → is_own_stream k ≡ false → IsFront bytes (pending k (log_of_journal set journal)) → MatchBool (is_own_stream k) (Unit {0}) (IsFront bytes (pending k (log_of_journal set journal)))
front-of set k journal bytes e front = subst (λ (b : Bool). MatchBool b (Unit {0}) (IsFront bytes (pending k (log_of_journal set journal)))) (sym e) front

pub next-takes : {May : HouseReply → Type 0} {Rest : Resting} {before : Option (List HouseMark)} {now : Side} {policy : Policy} {pid : ℕ} {start : Option (List Mark)} {seen : Seen} {held failed : List ℕ} {given : ℕ} {todo : List ℕ} {s : EngineState} (v : Serving May Rest before now policy pid start seen held failed given todo s) (s' : EngineState) (k n : ℕ) (bytes : List ℕ)
    → is_stream_open s k ≡ true → k ≢ HOUSE → SameRun s s' → AreBytes bytes → 1 ≤ n → n ≤ length bytes → AcceptsAs seen s → Waiting bytes k s v.picked v.replies v.journal
    → NextEvent Rest before now now policy pid v.picked v.replies [] s s' v.journal seen (seen_after_write (wrote.Took n) k bytes seen) held failed given (k ∷ todo) (Takes k (take n bytes) seen.listens)
next-takes {May} {Rest} {before} {now} {policy} {pid} {start} {seen} {held} {failed} {given} {todo} {s} v s' k n bytes opened ne same are one fits accepts waiting =
    let mark : Mark = Takes k (take n bytes) seen.listens in
    record {
      recorded = refl;
      policy_is = same.policy;
      pid_is = same.pid;
      notes = notes-none now mark refl;
      called = λ picks later. calls-other now k (call.Takes k (take n bytes)) (open-own v k opened ne);
      askers = askers-more v mark;
      house_in = v.house_in;
      house_there = v.house_there;
      rested = λ picks later. tt;
      absent = λ e. refl;
      turns = v.turns;
      placed = placed-still v mark (seen_after_write (wrote.Took n) k bytes seen) s' ((wire-keeps seen v.journal).write (wrote.Took n) k bytes are (omega arith) (stream-open v k opened ne) (one, fits) v.of_wire)
          refl refl refl refl refl same.streams (λ t. refl) (λ t. refl) (λ t. refl)
          (owns-as v.journal seen (seen_after_write (wrote.Took n) k bytes seen) mark v.places (takes-placed v.journal k (take n bytes) seen.listens (writes-client v.journal k (open-own v k opened ne)) (test-other k HOUSE ne)) (λ o. refl) (λ l. refl) refl refl refl);
      sound = λ picks later.
          let set : Setting = by_lists policy pid (v.picked ++ picks) (v.replies ++ later) in
          let old : IsRunSound set v.journal todo s = v.sound picks later in
          record {
            promise = record {
              takes = front-of set k v.journal (take n bytes) (not-own-stream k (open-own v k opened ne)) (drop n bytes, sym (waiting picks later ∙ ap (pending k) (log-is s policy pid (v.picked ++ picks) (v.replies ++ later) v.journal v.policy_is v.pid_is)) ∙ sym (take-append-drop n bytes));
              waits = tt;
              speaks = tt;
              open_streams = tt;
              answers = tt;
              after_end = tt;
              silence = λ l. may-let-in v accepts l picks later;
            };
            failed_out = λ t client w live. elim (eqb_tells k t) [
              | inl q ↦ true-false (sym w ∙ takes-failed k t (take n bytes) seen.listens v.journal true q.0)
              | inr q ↦ log-out set mark v.journal t (old.failed_out t client (sym (failed-other mark v.journal t q.1) ∙ w) (sym same.ended ∙ live))
            ];
            settled = λ t client a. let q : (k ≢ t) × (among t todo ≡ false) = apart-or-left k t todo a in
                settled-as set mark v.journal t (took-pending policy pid (v.picked ++ picks) (v.replies ++ later) k t (take n bytes) seen.listens v.journal q.0) refl (failed-other mark v.journal t q.0) (old.settled t client q.1);
          };
    }

-- ---- a stream that is blocked now

pub next-holds : {May : HouseReply → Type 0} {Rest : Resting} {before : Option (List HouseMark)} {now : Side} {policy : Policy} {pid : ℕ} {start : Option (List Mark)} {seen : Seen} {held failed : List ℕ} {given : ℕ} {todo : List ℕ} {s : EngineState} (v : Serving May Rest before now policy pid start seen held failed given todo s) (k : ℕ) (bytes : List ℕ)
    → is_stream_open s k ≡ true → k ≢ HOUSE → AreBytes bytes → 0 < length bytes → NextEvent Rest before now now policy pid v.picked v.replies [] s s v.journal seen (seen_after_write wrote.Later k bytes seen) (held ++ k ∷ []) failed given (without k todo) (Holds k)
next-holds {May} {Rest} {before} {now} {policy} {pid} {start} {seen} {held} {failed} {given} {todo} {s} v k bytes opened ne are some =
    let mark : Mark = Holds k in
    let there : among k seen.streams ≡ true = stream-open v k opened ne in
    let now-blocked : among k (seen.blocked ++ k ∷ []) ≡ true = among-last k k seen.blocked ∙ (ap (λ b. among k seen.blocked || (b || false)) (test-same k) ∙ or-last (among k seen.blocked)) in
    record {
      recorded = refl;
      policy_is = refl;
      pid_is = refl;
      notes = notes-none now mark refl;
      called = λ picks later. calls-none now;
      askers = askers-more v mark;
      house_in = v.house_in;
      house_there = v.house_there;
      rested = λ picks later. tt;
      absent = λ e. refl;
      turns = v.turns;
      placed = placed-by v mark (seen_after_write wrote.Later k bytes seen) (held ++ k ∷ []) failed s k there ((wire-keeps seen v.journal).write wrote.Later k bytes are some there tt v.of_wire)
          refl refl refl refl refl (ap (λ l. l ++ k ∷ []) v.held_is) (now-blocked ∙ sym (holds-blocked k k v.journal true (test-same k))) (λ t q. among-other-last k t seen.blocked q) (λ t q. blocked-other mark v.journal t tt q) (λ t. refl) (λ t q. refl)
          (λ own f. v.failed_are k own there f) (λ t a. a) v.failed_did
          (owns-as v.journal seen (seen_after_write wrote.Later k bytes seen) mark v.places (holds-placed v.journal k (writes-client v.journal k (open-own v k opened ne)) (test-other k HOUSE ne)) (λ o. refl) (λ l. refl) refl refl refl);
      sound = λ picks later.
          let set : Setting = by_lists policy pid (v.picked ++ picks) (v.replies ++ later) in
          let old : IsRunSound set v.journal todo s = v.sound picks later in
          record {
            promise = record { takes = tt; waits = tt; speaks = tt; open_streams = tt; answers = tt; after_end = tt; silence = tt };
            failed_out = λ t client w live. elim (eqb_tells k t) [
              | inl q ↦ true-false (sym w ∙ holds-failed k t v.journal true q.0)
              | inr q ↦ log-out set mark v.journal t (old.failed_out t client (sym (failed-other mark v.journal t q.1) ∙ w) live)
            ];
            settled = λ t client a. elim (eqb_tells k t) [
              | inl q ↦ inr (inl (holds-blocked k t v.journal true q.0))
              | inr q ↦ settled-as set mark v.journal t refl (blocked-other mark v.journal t tt q.1) (failed-other mark v.journal t q.1) (old.settled t client (sym (without-other k t todo q.1) ∙ a))
            ];
          };
    }
  where
    test-same : (i : ℕ) → (i == i) ≡ true
    test-same i = elim (eqb_tells i i) [ inl q ↦ q.0 | inr q ↦ absurd (q.1 refl) ]

-- ---- a stream that failed

-- of the server that is the end; a client's farewell is left to the server's stream
pub next-fails : {May : HouseReply → Type 0} {Rest : Resting} {before : Option (List HouseMark)} {now : Side} {policy : Policy} {pid : ℕ} {start : Option (List Mark)} {seen : Seen} {held failed : List ℕ} {given : ℕ} {todo : List ℕ} {s : EngineState} (v : Serving May Rest before now policy pid start seen held failed given todo s) {recorded recorded' : Option (List HouseMark)} {s' : EngineState} (k : ℕ) (bytes : List ℕ) (g : GoesBy May recorded recorded' v.picked v.replies s s' (WriteFails k) v.journal v.closed)
    → g.asks ≡ [] → is_stream_open s k ≡ true → k ≢ HOUSE → AreBytes bytes → 0 < length bytes → among 0 (k ∷ todo) ≡ true → s'.core.policy ≡ s.core.policy → s'.pid ≡ s.pid → here s' ≡ here s → (s'.ended ≡ None → s.ended ≡ None) → (k ≡ 0 → s'.ended ≢ None)
    → NextEvent Rest before now now policy pid (v.picked ++ g.picks) (v.replies ++ g.replies) g.asks s s' v.journal seen (seen_after_write wrote.Failed k bytes seen) held failed given (without k todo) (WriteFails k)
next-fails {May} {Rest} {before} {now} {policy} {pid} {start} {seen} {held} {failed} {given} {todo} {s} v {s' = s'} k bytes g unasked opened ne are some zero same_policy same_pid same on over =
    let mark : Mark = WriteFails k in
    let there : among k seen.streams ≡ true = stream-open v k opened ne in
    let client_is : is_own_stream k ≡ false = not-own-stream k (open-own v k opened ne) in
    record {
      recorded = refl;
      policy_is = same_policy;
      pid_is = same_pid;
      notes = subst (Rattle.mux_engine.proofs.Marks.Notes now now mark) (sym unasked) (notes-none now mark refl);
      called = λ picks later. calls-other now k (Turns (Failed k)) (open-own v k opened ne);
      askers = askers-more v mark;
      house_in = v.house_in;
      house_there = v.house_there;
      rested = λ picks later. tt;
      absent = λ e. refl;
      turns = v.turns;
      placed = placed-by v mark (seen_after_write wrote.Failed k bytes seen) held failed s' k there ((wire-keeps seen v.journal).write wrote.Failed k bytes are some there tt v.of_wire)
          refl refl refl refl same v.held_is (v.blocked_is k there) (λ t q. refl) (λ t q. refl) (λ t. refl) (λ t q. has-failed-other k t v.journal q)
          (λ own f. true-false (sym own ∙ open-own v k opened ne)) (λ t a. a) (λ t a. failed-more mark v.journal t (v.failed_did t a))
          (owns-as v.journal seen (seen_after_write wrote.Failed k bytes seen) mark v.places (fails-placed v.journal k (writes-client v.journal k (open-own v k opened ne)) (test-other k HOUSE ne)) (λ o. refl) (λ l. refl) refl refl refl);
      sound = λ picks later.
          let ps : List ℕ = (v.picked ++ g.picks) ++ picks in
          let rs : List HouseReply = (v.replies ++ g.replies) ++ later in
          let set : Setting = by_lists policy pid ps rs in
          let old : IsRunSound set v.journal todo s = sound-at v g.picks g.replies (v.picked ++ g.picks) (v.replies ++ g.replies) refl refl picks later in
          let live-rows : s.ended ≡ None → is_run_over (log_of_journal set v.journal) ≡ false = λ l.
          sym (some-end (log_of_journal set v.journal)) ∙ ap is_some (ap run_end_of (sym (log-is s policy pid ps rs v.journal v.policy_is v.pid_is)) ∙ (sym (stood-at v.stands g.picks g.replies (v.picked ++ g.picks) (v.replies ++ g.replies) refl refl picks later).rows.ended_is ∙ l)) in
          record {
            promise = record { takes = tt; waits = tt; speaks = tt; open_streams = tt; answers = tt; after_end = tt; silence = tt };
            failed_out = λ t client w live. elim (eqb_tells k t) [
              | inl q ↦ elim (eqb_tells k 0) [
                | inl z ↦ absurd (over z.1 live)
                | inr z ↦ ap (λ i. is_out (rows_of i (log_of_journal set (mark ∷ v.journal)))) (sym q.1) ∙ lost-out policy pid ps rs k v.journal z.1 client_is (live-rows (on live))
              ]
              | inr q ↦ log-out set mark v.journal t (old.failed_out t client (sym (failed-other mark v.journal t q.1) ∙ w) (on live))
            ];
            settled = λ t client a. elim (eqb_tells k t) [
              | inl q ↦ inr (inr (fails-failed k t v.journal true q.0))
              | inr q ↦
                  let left : among t todo ≡ false = sym (without-other k t todo q.1) ∙ a in
                  let nz : t ≢ 0 = λ z. true-false (sym zero ∙ (ap (λ b. b || among 0 todo) (test-other k 0 (λ e. q.1 (e ∙ sym z))) ∙ (ap (λ i. among i todo) (sym z) ∙ left))) in
                  settled-as set mark v.journal t (failed-pending policy pid ps rs k t v.journal q.1 nz) refl (failed-other mark v.journal t q.1) (old.settled t client left)
            ];
          };
    }

-- ---- running out of memory

wrote-of-wire : {May : HouseReply → Type 0} {Rest : Resting} {before : Option (List HouseMark)} {now : Side} {policy : Policy} {pid : ℕ} {start : Option (List Mark)} {seen : Seen} {held failed : List ℕ} {given : ℕ} {todo : List ℕ} {s : EngineState} (v : Serving May Rest before now policy pid start seen held failed given todo s) (answer : Wrote) (k : ℕ) (bytes : List ℕ)
    → among k seen.streams ≡ true → AreBytes bytes → 0 < length bytes → WroteFits answer (length bytes) → IsOfWire (reverse (write_marks answer k bytes seen.listens) ++ v.journal)
wrote-of-wire {seen = seen} v answer k bytes there are some fits =
    of-streams seen.streams (blocked_after_write answer k seen.blocked) seen.last (reverse (write_marks answer k bytes seen.listens) ++ v.journal)
    ((wire-keeps seen v.journal).write answer k bytes are some there fits v.of_wire)

-- none to note that the stream is blocked
pub cut-holds : {May : HouseReply → Type 0} {Rest : Resting} {before : Option (List HouseMark)} {now : Side} {policy : Policy} {pid : ℕ} {start : Option (List Mark)} {seen : Seen} {held failed : List ℕ} {given : ℕ} {todo : List ℕ} {s : EngineState} (v : Serving May Rest before now policy pid start seen held failed given todo s) (seen' : Seen) (k : ℕ) (bytes : List ℕ)
    → (IsTrue (is_own k) → IsTaking k v.journal) → among k seen.streams ≡ true → AreBytes bytes → 0 < length bytes → seen' ≡ seen_after_write wrote.Later k bytes seen → Promised May Rest before now.recorded policy pid start seen'.recorded given
cut-holds {now = now} {given = given} v seen' k bytes takes there are some e =
    cut-next v now.recorded seen'.recorded given (Holds k) [] now.unnoted (ap (λ (x : Seen). x.recorded) e) (records-none now.recorded) (sym (append-nil now.unnoted)) (wrote-of-wire v wrote.Later k bytes there are some tt) (holds-placed v.journal k takes (house-other v k there)) (let w : turns_in v.journal ≡ given = v.turns in omega arith) (λ set. tt) (λ e. refl) (on-next v (Holds k))
    (λ set. inr (0, refl)) (λ picks later. record { takes = tt; waits = tt; speaks = tt; open_streams = tt; answers = tt; after_end = tt; silence = tt })

-- none for the event of a stream that failed
pub cut-fails : {May : HouseReply → Type 0} {Rest : Resting} {before : Option (List HouseMark)} {now : Side} {policy : Policy} {pid : ℕ} {start : Option (List Mark)} {seen : Seen} {held failed : List ℕ} {given : ℕ} {todo : List ℕ} {s : EngineState} (v : Serving May Rest before now policy pid start seen held failed given todo s) (seen' : Seen) (k : ℕ) (bytes : List ℕ)
    → (IsTrue (is_own k) → IsTaking k v.journal) → among k seen.streams ≡ true → AreBytes bytes → 0 < length bytes → seen' ≡ seen_after_write wrote.Failed k bytes seen → Promised May Rest before now.recorded policy pid start seen'.recorded given
cut-fails {now = now} {given = given} v seen' k bytes takes there are some e =
    cut-next v now.recorded seen'.recorded given (WriteFails k) [] now.unnoted (ap (λ (x : Seen). x.recorded) e) (records-none now.recorded) (sym (append-nil now.unnoted)) (wrote-of-wire v wrote.Failed k bytes there are some tt) (fails-placed v.journal k takes (house-other v k there)) (let w : turns_in v.journal ≡ given = v.turns in omega arith) (λ set. tt) (λ e. refl) (on-next v (WriteFails k))
    (λ set. inr (0, refl)) (λ picks later. record { takes = tt; waits = tt; speaks = tt; open_streams = tt; answers = tt; after_end = tt; silence = tt })

-- none for the write
pub cut-starved : {May : HouseReply → Type 0} {Rest : Resting} {before : Option (List HouseMark)} {now : Side} {policy : Policy} {pid : ℕ} {start : Option (List Mark)} {seen : Seen} {held failed : List ℕ} {given : ℕ} {todo : List ℕ} {s : EngineState} (v : Serving May Rest before now policy pid start seen held failed given todo s) (seen' : Seen) (k : ℕ) (bytes : List ℕ) → seen' ≡ seen_after_write wrote.NoMemory k bytes seen → Promised May Rest before now.recorded policy pid start seen'.recorded given
cut-starved {seen = seen} v seen' k bytes e = cut-still v seen'.recorded (ap (λ (x : Seen). x.recorded) e ∙ recorded-none seen.recorded)
