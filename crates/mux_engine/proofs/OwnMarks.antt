-- What the master's own streams make of what holds while a wire is served.
use Rattle.std.proofs.Common.{◌≡◌, ◌≢◌, ◌<◌, ℕ, Bool, true, false, ◌||◌, List, [], ◌∷◌, ◌++◌, length, take, Option, refl, sym, ap, ◌∙◌, subst}
use Rattle.std.specs.Prelude.{◌==◌, IsTrue}
use Rattle.std.specs.Bool.{MatchBool}
use Rattle.ssh_fields.specs.Fields.{AreBytes}
use Rattle.mux_outside.specs.HouseCalls.{Failed, Turns}
use Rattle.mux_outside.specs.HouseCalls as call
use Rattle.mux_outside.specs.OwnStreams.{is_finished, is_own}
use Rattle.mux_outside.specs.Seen.{Seen, seen_after_write}
use Rattle.mux_outside.specs.Streams.{among}
use Rattle.mux_outside.specs.Wire.{WroteFits}
use Rattle.mux_outside.specs.declared.house.HouseReply.{HouseReply}
use Rattle.mux_outside.specs.declared.house_mark.HouseMark.{HouseMark}
use Rattle.mux_outside.specs.declared.mark.Mark.{Mark}
use Rattle.mux_outside.specs.declared.mark.Mark.TheVariants.{Takes, Holds, WriteFails}
use Rattle.mux_outside.specs.declared.turn.Wrote.TheVariants as wrote
use Rattle.mux_history.specs.Pending.{pending}
use Rattle.mux_history.specs.Policy.{Policy}
use Rattle.mux_history.specs.Log.{Setting}
use Rattle.mux_history.specs.Settings.{by_lists}
use Rattle.mux_history.specs.Journal.{is_own_stream, log_of_journal}
use Rattle.mux_history.specs.Promises.{IsFront, TakesFront, has_failed}
use Rattle.mux_history.proofs.Wires.{wire-keeps}
use Rattle.mux_state.specs.State.{EngineState}
use Rattle.mux_state.proofs.Twins.{own-silent, stands-alike}
use Rattle.mux_engine.specs.Called.{if_own}
use Rattle.mux_engine.specs.Serving.{Serving}
use Rattle.mux_engine.specs.SilentAnswers.{AcceptsAs}
use Rattle.mux_engine.specs.Sides.{Resting, Side}
use Rattle.mux_engine.proofs.Called.{CallsOn, calling, calls-none, calls-own}
use Rattle.mux_engine.proofs.Lists.{among-last, among-other-last, or-last, own-stream, test-same, true-false}
use Rattle.mux_engine.proofs.Logs.{blocked-other, failed-last, failed-other, has-failed-other, has-failed-same, holds-blocked}
use Rattle.mux_engine.proofs.Marks.{may-let-in}
use Rattle.mux_engine.proofs.Owns.{fails-placed, holds-placed, owns-as, takes-placed, taking}
use Rattle.mux_engine.proofs.Places.{house-other, house-shut, placed-by, placed-still}
use Rattle.mux_engine.proofs.Quiet.{notes-calling, notes-none, serve-quiet}
use Rattle.mux_engine.proofs.Silent.{holds-alike}

module _ {May : HouseReply → Type 0} {Rest : Resting} {before : Option (List HouseMark)} {now : Side} {policy : Policy} {pid : ℕ} {start : Option (List Mark)} {seen : Seen} {held failed : List ℕ} {given : ℕ} {todo : List ℕ} {s : EngineState}
    (v : Serving May Rest before now policy pid start seen held failed given todo s) (k : ℕ) (own : IsTrue (is_own k)) (found : among k seen.streams ≡ true) where
  -- its number is not that of the forwarder
  pub own-is : is_own_stream k ≡ true
  own-is = own-stream k own (λ e. true-false (sym found ∙ (ap (λ i. among i seen.streams) e ∙ house-shut v)))

  apart-own : (t : ℕ) → is_own_stream t ≡ false → k ≢ t
  apart-own t client e = true-false (sym own-is ∙ (ap is_own_stream e ∙ client))

  takes-own : (set : Setting) (bytes : List ℕ) (accepts : Bool) → TakesFront set v.journal (Takes k bytes accepts)
  takes-own set bytes accepts = subst (λ (b : Bool). MatchBool b (Unit {0}) (IsFront bytes (pending k (log_of_journal set v.journal)))) (sym own-is) tt

  -- one that isn't among those that failed has not failed
  pub still-sound : among k failed ≡ false → IsTrue (is_own k) → has_failed k v.journal ≡ false
  still-sound sound is = by_failed (has_failed k v.journal) refl
    where
      by_failed : (b : Bool) → has_failed k v.journal ≡ b → b ≡ false
      by_failed false e = refl
      by_failed true e = true-false (sym (v.failed_are k is found e) ∙ sound)

  -- it accepted bytes
  pub own-takes : (n : ℕ) (bytes : List ℕ) (seen' : Seen) → is_finished k seen.own ≡ false → among k failed ≡ false → now.unnoted ≡ [] → AreBytes bytes → 0 < length bytes → WroteFits (wrote.Took n) (length bytes) → AcceptsAs seen s → seen' ≡ seen_after_write (wrote.Took n) k bytes seen → Serving May Rest before (calling now (call.Takes k (take n bytes) ∷ [])) policy pid start seen' held failed given todo s
  own-takes n bytes seen' unfinished unfailed none are some fits accepts e =
      let mark : Mark = Takes k (take n bytes) seen.listens in
      let alike = own-silent.takes v.journal k (take n bytes) seen.listens own-is in
      subst (λ (x : Seen). Serving May Rest before (calling now (call.Takes k (take n bytes) ∷ [])) policy pid start x held failed given todo s) (sym e)
      (serve-quiet v (calling now (call.Takes k (take n bytes) ∷ [])) (seen_after_write (wrote.Took n) k bytes seen) held failed given mark
      (record { log = alike.log; blocked = λ t client. refl; unwritten = λ t client. failed-other mark v.journal t (apart-own t client); promise = λ picks later. record { takes = takes-own (by_lists policy pid (v.picked ++ picks) (v.replies ++ later)) (take n bytes) seen.listens; waits = tt; speaks = tt; open_streams = tt; answers = tt; after_end = tt; silence = λ l. may-let-in v accepts l picks later }; rested = λ set. tt; absent = λ e. refl; house = refl })
      (stands-alike v.journal (mark ∷ v.journal) v.picked v.replies s v.closed alike v.stands) (notes-calling now (call.Takes k (take n bytes) ∷ []) mark refl)
      (λ set. calls-own now k (call.Takes k (take n bytes)) own none) refl refl refl v.turns
      (placed-still v mark (seen_after_write (wrote.Took n) k bytes seen) s ((wire-keeps seen v.journal).write (wrote.Took n) k bytes are some found fits v.of_wire) refl refl refl refl refl refl (λ t. refl) (λ t. refl) (λ t. refl)
      (owns-as v.journal seen (seen_after_write (wrote.Took n) k bytes seen) mark v.places (takes-placed v.journal k (take n bytes) seen.listens (taking seen v.journal v.places k found unfinished (still-sound unfailed)) (house-other v k found)) (λ o. refl) (λ l. refl) refl refl refl)))

  -- it is blocked now
  pub own-holds : (bytes : List ℕ) (seen' : Seen) (held' : List ℕ) → is_finished k seen.own ≡ false → among k failed ≡ false → AreBytes bytes → 0 < length bytes → seen' ≡ seen_after_write wrote.Later k bytes seen → held' ≡ held ++ k ∷ [] → Serving May Rest before now policy pid start seen' held' failed given todo s
  own-holds bytes seen' held' unfinished unfailed are some e h =
      let mark : Mark = Holds k in
      let alike = holds-alike k v.journal in
      let now-blocked : among k (seen.blocked ++ k ∷ []) ≡ true = among-last k k seen.blocked ∙ (ap (λ b. among k seen.blocked || (b || false)) (test-same k) ∙ or-last (among k seen.blocked)) in
      subst (λ (x : Seen). Serving May Rest before now policy pid start x held' failed given todo s) (sym e)
      (subst (λ (l : List ℕ). Serving May Rest before now policy pid start (seen_after_write wrote.Later k bytes seen) l failed given todo s) (sym h)
      (serve-quiet v now (seen_after_write wrote.Later k bytes seen) (held ++ k ∷ []) failed given mark
      (record { log = alike.log; blocked = λ t client. blocked-other mark v.journal t tt (apart-own t client); unwritten = λ t client. failed-other mark v.journal t (apart-own t client); promise = λ picks later. record { takes = tt; waits = tt; speaks = tt; open_streams = tt; answers = tt; after_end = tt; silence = tt }; rested = λ set. tt; absent = λ e. refl; house = refl })
      (stands-alike v.journal (mark ∷ v.journal) v.picked v.replies s v.closed alike v.stands) (notes-none now mark refl) (λ set. calls-none now) refl refl refl v.turns
      (placed-by v mark (seen_after_write wrote.Later k bytes seen) (held ++ k ∷ []) failed s k found ((wire-keeps seen v.journal).write wrote.Later k bytes are some found tt v.of_wire)
      refl refl refl refl refl (ap (λ l. l ++ k ∷ []) v.held_is) (now-blocked ∙ sym (holds-blocked k k v.journal true (test-same k))) (λ t q. among-other-last k t seen.blocked q) (λ t q. blocked-other mark v.journal t tt q) (λ t. refl) (λ t q. refl)
      (λ is f. v.failed_are k is found f) (λ t a. a) v.failed_did
      (owns-as v.journal seen (seen_after_write wrote.Later k bytes seen) mark v.places (holds-placed v.journal k (taking seen v.journal v.places k found unfinished (still-sound unfailed)) (house-other v k found)) (λ o. refl) (λ l. refl) refl refl refl))))

  -- it failed
  pub own-fails : (bytes : List ℕ) (seen' : Seen) (failed' : List ℕ) → is_finished k seen.own ≡ false → among k failed ≡ false → now.unnoted ≡ [] → AreBytes bytes → 0 < length bytes → seen' ≡ seen_after_write wrote.Failed k bytes seen → failed' ≡ failed ++ k ∷ [] → Serving May Rest before (calling now (Turns (Failed k) ∷ [])) policy pid start seen' held failed' given todo s
  own-fails bytes seen' failed' unfinished unfailed none are some e f =
      let mark : Mark = WriteFails k in
      let alike = own-silent.unwritten v.journal k own-is in
      let noted : among k (failed ++ k ∷ []) ≡ true = among-last k k failed ∙ (ap (λ b. among k failed || (b || false)) (test-same k) ∙ or-last (among k failed)) in
      subst (λ (x : Seen). Serving May Rest before (calling now (Turns (Failed k) ∷ [])) policy pid start x held failed' given todo s) (sym e)
      (subst (λ (l : List ℕ). Serving May Rest before (calling now (Turns (Failed k) ∷ [])) policy pid start (seen_after_write wrote.Failed k bytes seen) held l given todo s) (sym f)
      (serve-quiet v (calling now (Turns (Failed k) ∷ [])) (seen_after_write wrote.Failed k bytes seen) held (failed ++ k ∷ []) given mark
      (record { log = alike.log; blocked = λ t client. refl; unwritten = λ t client. failed-other mark v.journal t (apart-own t client); promise = λ picks later. record { takes = tt; waits = tt; speaks = tt; open_streams = tt; answers = tt; after_end = tt; silence = tt }; rested = λ set. tt; absent = λ e. refl; house = refl })
      (stands-alike v.journal (mark ∷ v.journal) v.picked v.replies s v.closed alike v.stands) (notes-calling now (Turns (Failed k) ∷ []) mark refl) (λ set. calls-own now k (Turns (Failed k)) own none) refl refl refl v.turns
      (placed-by v mark (seen_after_write wrote.Failed k bytes seen) held (failed ++ k ∷ []) s k found ((wire-keeps seen v.journal).write wrote.Failed k bytes are some found tt v.of_wire)
      refl refl refl refl refl v.held_is (v.blocked_is k found) (λ t q. refl) (λ t q. refl) (λ t. refl) (λ t q. has-failed-other k t v.journal q)
      (λ is x. noted) (λ t a. among-last k t failed ∙ ap (λ b. b || ((k == t) || false)) a) (failed-last mark v.journal k failed (has-failed-same k v.journal) v.failed_did)
      (owns-as v.journal seen (seen_after_write wrote.Failed k bytes seen) mark v.places (fails-placed v.journal k (taking seen v.journal v.places k found unfinished (still-sound unfailed)) (house-other v k found)) (λ o. refl) (λ l. refl) refl refl refl))))
