-- The forwarder accepts what waits for it, and sends.
use Rattle.std.proofs.Common.{◌≡◌, ◌≢◌, ◌≤◌, ◌<◌, ◌+◌, ℕ, Bool, true, false, ◌||◌, List, [], ◌∷◌, ◌++◌, length, drop, take, Option, None, refl, sym, ap, ◌∙◌, subst, inl, inr, ◌⊎◌, append-nil}
use Rattle.std.specs.Prelude.{◌==◌}
use Rattle.std.proofs.lemmas.Bool.Decides.{eqb_tells}
use Rattle.ssh_fields.specs.Fields.{AreBytes}
use Rattle.mux_outside.specs.HouseCalls.{Receives}
use Rattle.mux_outside.specs.Seen.{Seen}
use Rattle.mux_outside.specs.Streams.{among, without}
use Rattle.mux_outside.specs.declared.house.HouseReply.{HouseReply}
use Rattle.mux_outside.specs.declared.house_mark.HouseMark.{HouseMark}
use Rattle.mux_outside.specs.declared.house_mark.HouseMark.TheVariants.{HouseSaid, HouseTook}
use Rattle.mux_outside.specs.declared.mark.Mark.{Mark}
use Rattle.mux_outside.specs.declared.mark.Mark.TheVariants.{Gets, Takes, House}
use Rattle.mux_history.specs.declared.limits.TheConstants.{HOUSE, READING_STOPS_AT}
use Rattle.mux_history.specs.Log.{Setting}
use Rattle.mux_history.specs.Pending.{pending}
use Rattle.mux_history.specs.Policy.{Policy}
use Rattle.mux_history.specs.Settings.{by_lists}
use Rattle.mux_history.specs.Steps.{TakeStep}
use Rattle.mux_history.specs.Journal.{is_accepted, log_of_journal}
use Rattle.mux_history.specs.Promises.{IsSettled}
use Rattle.mux_history.proofs.PendingSteps.{take-leaves}
use Rattle.mux_history.proofs.Wires.{wire-keeps}
use Rattle.mux_peers.specs.Asked.{asks_of_rows}
use Rattle.mux_state.specs.State.{EngineState, queue_in, took_and_listed}
use Rattle.mux_state.specs.Events.{MarkRecords, here}
use Rattle.mux_state.specs.declared.event.Event.{Event}
use Rattle.mux_state.specs.Stands.{GoesAlone, RowsFit, RepresentsSoFar}
use Rattle.mux_state.proofs.Twins.{house-client, stands-alike}
use Rattle.mux_engine.specs.Serving.{IsRunSound, Serving, is_stream_open}
use Rattle.mux_engine.specs.Sides.{Resting, Side}
use Rattle.mux_engine.proofs.Called.{CallsOn, calls-heard}
use Rattle.mux_engine.proofs.Lists.{among-open, test-other, true-false, without-other}
use Rattle.mux_engine.proofs.Logs.{log-out, settled-as, took-log}
use Rattle.mux_engine.proofs.Marks.{log-is, serve-alone}
use Rattle.mux_engine.proofs.Noted.{seen-with}
use Rattle.mux_engine.proofs.Offers.{SameRun, Waiting}
use Rattle.mux_engine.proofs.Owns.{owns-plain}
use Rattle.mux_engine.proofs.Places.{at-stream, placed-still}
use Rattle.mux_engine.proofs.Quiet.{askers-more}
use Rattle.mux_engine.proofs.Taken.{queue-present, took-asks, took-run}
use Rattle.mux_engine.proofs.Todo.{serve-todo}
use Rattle.mux_engine.proofs.Recorded.{records-none}
use Rattle.mux_engine.proofs.Turned.{EventAt, stayed}
use Rattle.mux_engine.proofs.Waits.{handed-all}

drop-all : (xs : List ℕ) → drop (length xs) xs ≡ []
drop-all [] = refl
drop-all (x ∷ xs) = drop-all xs

take-all : (xs : List ℕ) → take (length xs) xs ≡ xs
take-all [] = refl
take-all (x ∷ xs) = ap (λ (l : List ℕ). x ∷ l) (take-all xs)

-- all but the forwarder are left as they were
left-of-house : (t : ℕ) (xs : List ℕ) → HOUSE ≢ t → among t (0 ∷ without HOUSE xs) ≡ false → among t (0 ∷ xs) ≡ false
left-of-house t xs ne a = ap (λ b. (0 == t) || b) (sym (without-other HOUSE t xs ne)) ∙ a

module _ {May : HouseReply → Type 0} {Rest : Resting} {before : Option (List HouseMark)} {now : Side} {policy : Policy} {pid : ℕ} {start : Option (List Mark)} {seen : Seen} {held failed : List ℕ} {given : ℕ} {s : EngineState} where
  -- ---- nothing waits for it

  pub house-idle : (v : Serving May Rest before now policy pid start seen held failed given (0 ∷ here s) s) (bytes : List ℕ) → (among HOUSE v.closed ≡ false → Waiting bytes HOUSE s v.picked v.replies v.journal) → bytes ≡ [] → Serving May Rest before now policy pid start seen held failed given (0 ∷ without HOUSE (here s)) s
  house-idle v bytes waiting none = serve-todo v (0 ∷ without HOUSE (here s)) (λ t a. elim (eqb_tells HOUSE t) [
    | inl q ↦ by_open t q.1 (is_stream_open s HOUSE) refl
    | inr q ↦ inl (left-of-house t (here s) q.1 a)
  ])
    where
      by_open : (t : ℕ) → HOUSE ≡ t → (b : Bool) → is_stream_open s HOUSE ≡ b → (among t (0 ∷ here s) ≡ false) ⊎ ((picks : List ℕ) (later : List HouseReply) → IsSettled (by_lists policy pid (v.picked ++ picks) (v.replies ++ later)) v.journal t)
      by_open t q true e = inr (λ picks later. inl (ap (λ i. pending i (log_of_journal (by_lists policy pid (v.picked ++ picks) (v.replies ++ later)) v.journal)) (sym q)
          ∙ (sym (waiting (at-stream v.stands HOUSE e).not_closed picks later ∙ ap (pending HOUSE) (log-is s policy pid (v.picked ++ picks) (v.replies ++ later) v.journal v.policy_is v.pid_is)) ∙ none)))
      by_open t q false e = inl (ap (λ i. among i (0 ∷ here s)) (sym q) ∙ (among-open s HOUSE ∙ e))

  -- ---- it accepted all

  pub house-takes : {todo : List ℕ} (v : Serving May Rest before now policy pid start seen held failed given todo s) (s' : EngineState) (bytes : List ℕ) → now.unnoted ≡ HouseTook (length bytes) ∷ [] → now.let_in ≡ true → ((t : ℕ) → HOUSE ≢ t → among t (0 ∷ without HOUSE (here s')) ≡ false → among t todo ≡ false)
      → bytes ≡ queue_in s HOUSE → 0 < length bytes → Waiting bytes HOUSE s v.picked v.replies v.journal → s' ≡ took_and_listed s HOUSE (length bytes) → GoesAlone s s' (Takes HOUSE bytes true) → Serving May Rest before (record now { unnoted = []; calls = now.calls ++ Receives bytes ∷ [] }) policy pid start (seen-with (HouseTook (length bytes) ∷ []) seen) held failed given (0 ∷ without HOUSE (here s')) s'
  house-takes {todo} v s' bytes e within covers queue some waiting is goes =
      let n : ℕ = length bytes in
      let mark : Mark = House (HouseTook n) in
      let alike = house-client.takes v.journal bytes true n refl in
      let same : SameRun s s' = took-run s s' HOUSE n is in
      let st0 : RepresentsSoFar v.picked v.replies s' (Takes HOUSE bytes true ∷ v.journal) v.closed = goes v.picked v.replies v.journal v.closed v.stands ((λ nz. queue-present s HOUSE bytes queue some nz), refl) in
      serve-alone v (record now { unnoted = []; calls = now.calls ++ Receives bytes ∷ [] }) (seen-with (HouseTook n ∷ []) seen) held failed given (0 ∷ without HOUSE (here s')) s' mark
      (stands-alike (Takes HOUSE bytes true ∷ v.journal) (mark ∷ v.journal) v.picked v.replies s' v.closed alike st0)
      (λ picks replies. ap asks_of_rows (sym (alike.log (by_lists s'.core.policy s'.pid picks replies))) ∙ took-asks s s' HOUSE bytes true v.journal same picks replies) record {
        recorded = refl;
        policy_is = same.policy;
        pid_is = same.pid;
        notes = record { more = []; recorded_is = records-none now.recorded; noted_is = sym e ∙ sym (append-nil now.unnoted); asks_are = refl; opens_are = refl };
        called = λ picks later.
            let set : Setting = by_lists policy pid (v.picked ++ picks) (v.replies ++ later) in
            let was : pending HOUSE (log_of_journal set v.journal) ≡ bytes = sym (waiting picks later ∙ ap (pending HOUSE) (log-is s policy pid (v.picked ++ picks) (v.replies ++ later) v.journal v.policy_is v.pid_is)) in
            subst (λ (l : List ℕ). CallsOn now (record now { unnoted = []; calls = now.calls ++ Receives bytes ∷ [] }) (Receives l ∷ [])) (sym (ap (take n) was ∙ take-all bytes)) (calls-heard now n bytes e);
        askers = askers-more v mark;
        house_in = v.house_in;
        house_there = v.house_there;
        rested = λ picks later. tt;
        absent = λ e. true-false (sym (v.house_there within) ∙ e);
        turns = v.turns;
        placed = placed-still v mark (seen-with (HouseTook n ∷ []) seen) s' ((wire-keeps seen v.journal).note (HouseTook n) (v.house_in ∙ within) refl v.of_wire) refl refl refl refl refl same.streams (λ t. refl) (λ t. refl) (λ t. refl) (owns-plain v.journal seen (seen-with (HouseTook n ∷ []) seen) mark tt v.places refl refl refl);
        sound = λ picks later.
            let set : Setting = by_lists policy pid (v.picked ++ picks) (v.replies ++ later) in
            let old : IsRunSound set v.journal todo s = v.sound picks later in
            let step : TakeStep HOUSE n (log_of_journal set v.journal) = take-leaves HOUSE n (log_of_journal set v.journal) in
            let was : pending HOUSE (log_of_journal set v.journal) ≡ bytes = sym (waiting picks later ∙ ap (pending HOUSE) (log-is s policy pid (v.picked ++ picks) (v.replies ++ later) v.journal v.policy_is v.pid_is)) in
            record {
              promise = record { takes = tt; waits = tt; speaks = tt; open_streams = tt; answers = tt; after_end = tt; silence = tt };
              failed_out = λ t client w live. log-out set mark v.journal t (old.failed_out t client w (sym same.ended ∙ live));
              settled = λ t client a. elim (eqb_tells HOUSE t) [
                | inl q ↦ inl (ap (λ i. pending i (log_of_journal set (mark ∷ v.journal))) (sym q.1) ∙ (ap (pending HOUSE) (took-log policy pid (v.picked ++ picks) (v.replies ++ later) (log_of_journal set v.journal) HOUSE n) ∙ (step.own ∙ (ap (drop n) was ∙ drop-all bytes))))
                | inr q ↦ settled-as set mark v.journal t (ap (pending t) (took-log policy pid (v.picked ++ picks) (v.replies ++ later) (log_of_journal set v.journal) HOUSE n) ∙ step.others t (test-other t HOUSE (λ x. q.1 (sym x)))) refl refl (old.settled t client (covers t q.1 a))
              ];
            };
      }

  -- ---- it sent something

  pub house-said : (v : Serving May Rest before now policy pid start seen held failed given [] s) (live : s.ended ≡ None) (e : Event) (bytes : List ℕ) → now.unnoted ≡ HouseSaid bytes ∷ [] → now.let_in ≡ true → MarkRecords e (Gets HOUSE bytes) → 0 < length bytes → length bytes ≤ 65536 → AreBytes bytes → length (queue_in s 0) < READING_STOPS_AT
      → EventAt v live e (seen-with (HouseSaid bytes ∷ []) seen) (given + 1)
  house-said v live e bytes noted within records some few are room =
      let mark : Mark = House (HouseSaid bytes) in
      let here_is : is_accepted HOUSE v.journal ≡ true = v.house_in ∙ within in
      let of = (wire-keeps seen v.journal).note (HouseSaid bytes) (here_is, some, few, are) refl v.of_wire in
      record {
        mark = mark;
        twin = Gets HOUSE bytes;
        is = tt;
        alike = house-client.says v.journal bytes;
        records = records;
        allowed = ((λ nz. here_is), are, refl);
        marks = refl;
        of_wire = of;
        said = here_is;
        spares = λ j c. tt;
        speaks = λ picks later. record {
          room = subst (λ (q : List ℕ). length q < READING_STOPS_AT) (subst (RowsFit (length v.picked) v.stands.asks s v.closed) (log-is s policy pid (v.picked ++ picks) (v.replies ++ later) v.journal v.policy_is v.pid_is) (v.stands.at picks later).rows).fit.up room;
          heard = handed-all v picks later;
        };
        answers = λ set. tt;
        rested = λ set. tt;
        absent = λ e. true-false (sym (v.house_there within) ∙ e);
        turns = ap (λ n. n + 1) v.turns;
        plain = sym noted;
        cut = λ set. inr (0, refl);
        called = λ set. refl;
        house = refl;
        placed = λ s' arrives. placed-still v mark (seen-with (HouseSaid bytes ∷ []) seen) s' of refl refl refl refl refl (stayed e (Gets HOUSE bytes) s s' records tt (arrives live)) (λ t. refl) (λ t. refl) (λ t. refl) (owns-plain v.journal seen (seen-with (HouseSaid bytes ∷ []) seen) mark tt v.places refl refl refl);
        right = record { opened = tt; gives = tt; writes = tt; joins = tt; others = refl };
      }
