-- Marks that no row records: what holds while a wire is served goes on with them.
use Rattle.std.proofs.Common.{◌≡◌, ℕ, false, List, [], ◌∷◌, ◌++◌, Option, refl, sym, ap, ◌∙◌, subst, append-nil}
use Rattle.std.specs.Prelude.{All, IsTrue}
use Rattle.std.specs.Option.{option_map}
use Rattle.mux_outside.specs.House.{OpenAsk}
use Rattle.mux_outside.specs.HouseCalls.{HouseCall}
use Rattle.mux_outside.specs.Seen.{Seen}
use Rattle.mux_outside.specs.declared.house.HouseReply.{HouseReply}
use Rattle.mux_outside.specs.declared.house_mark.HouseMark.{HouseMark}
use Rattle.mux_outside.specs.declared.mark.Mark.{Mark}
use Rattle.mux_history.specs.declared.limits.TheConstants.{HOUSE}
use Rattle.mux_history.specs.Policy.{Policy}
use Rattle.mux_history.specs.Rows.{Row, rows_of, is_out}
use Rattle.mux_history.specs.Pending.{pending}
use Rattle.mux_history.specs.Log.{Setting}
use Rattle.mux_history.specs.Settings.{by_lists}
use Rattle.mux_history.specs.Journal.{is_accepted, is_blocked, is_own_stream, log_of_journal}
use Rattle.mux_history.specs.Promises.{turns_in, write_failed}
use Rattle.mux_peers.specs.Asked.{asks_of_rows}
use Rattle.mux_state.specs.State.{EngineState}
use Rattle.mux_state.specs.Stands.{RepresentsSoFar}
use Rattle.mux_engine.specs.Called.{calls_at}
use Rattle.mux_engine.specs.Run.{RestedAt, is_by_house}
use Rattle.mux_engine.specs.Serving.{IsRunSound, Serving}
use Rattle.mux_engine.specs.Sides.{Resting, Side, house_mark}
use Rattle.mux_engine.proofs.Called.{CallsOn, calling}
use Rattle.mux_engine.proofs.Logs.{accepted-more, settled-as}
use Rattle.mux_engine.proofs.Marks.{Notes, Placed, PromiseAt, serve-alone}
use Rattle.mux_engine.proofs.Recorded.{records-none}

-- the forwarder is not called
pub notes-none : (now : Side) (mark : Mark) → house_mark mark ≡ [] → Notes now now mark []
notes-none now mark e = record { more = []; recorded_is = records-none now.recorded; noted_is = ap (λ l. l ++ now.unnoted) e ∙ sym (append-nil now.unnoted); asks_are = refl; opens_are = refl }

-- it is called about a stream of its own
pub notes-calling : (now : Side) (calls : List HouseCall) (mark : Mark) → house_mark mark ≡ [] → Notes now (calling now calls) mark []
notes-calling now calls mark e = record { more = []; recorded_is = records-none now.recorded; noted_is = ap (λ l. l ++ now.unnoted) e ∙ sym (append-nil now.unnoted); asks_are = refl; opens_are = refl }

module _ {May : HouseReply → Type 0} {Rest : Resting} {before : Option (List HouseMark)} {now : Side} {policy : Policy} {pid : ℕ} {start : Option (List Mark)} {seen : Seen} {held failed : List ℕ} {given : ℕ} {todo : List ℕ} {s : EngineState} (v : Serving May Rest before now policy pid start seen held failed given todo s) where
  -- whoever asked was accepted
  pub askers-more : (mark : Mark) → All (λ (a : OpenAsk). IsTrue (is_accepted a.client (mark ∷ v.journal))) now.asks
  askers-more mark k d lt = accepted-more mark v.journal _ (v.askers k d lt)

  -- what a mark is that no row records
  pub record IsQuiet (mark : Mark) : Type 0 where
    pub log : (set : Setting) → log_of_journal set v.journal ≡ log_of_journal set (mark ∷ v.journal)
    pub blocked : (t : ℕ) → is_own_stream t ≡ false → is_blocked t (mark ∷ v.journal) ≡ is_blocked t v.journal
    pub unwritten : (t : ℕ) → is_own_stream t ≡ false → write_failed t (mark ∷ v.journal) ≡ write_failed t v.journal
    pub promise : (picks : List ℕ) (later : List HouseReply) → PromiseAt (by_lists policy pid (v.picked ++ picks) (v.replies ++ later)) v.journal mark
    pub rested : (set : Setting) → RestedAt Rest.rests set before v.journal mark
    pub absent : Rest.present ≡ false → is_by_house mark ≡ false
    pub house : is_accepted HOUSE (mark ∷ v.journal) ≡ is_accepted HOUSE v.journal

  pub serve-quiet : (now' : Side) (seen' : Seen) (held' failed' : List ℕ) (given' : ℕ) (mark : Mark) → IsQuiet mark → RepresentsSoFar v.picked v.replies s (mark ∷ v.journal) v.closed → Notes now now' mark [] → ((set : Setting) → CallsOn now now' (calls_at set v.journal mark)) → now'.asks ≡ now.asks → now'.let_in ≡ now.let_in
      → seen'.recorded ≡ option_map (λ m. m ++ mark ∷ []) seen.recorded → turns_in (mark ∷ v.journal) ≡ given' → Placed s v.journal seen seen' held' failed' mark → Serving May Rest before now' policy pid start seen' held' failed' given' todo s
  serve-quiet now' seen' held' failed' given' mark q st notes called asks within recorded turns placed =
      serve-alone v now' seen' held' failed' given' todo s mark st (λ picks replies. ap asks_of_rows (sym (q.log (by_lists s.core.policy s.pid picks replies)))) record {
        recorded = recorded;
        policy_is = refl;
        pid_is = refl;
        notes = notes;
        called = λ picks later. called (by_lists policy pid (v.picked ++ picks) (v.replies ++ later));
        askers = subst (λ (l : List OpenAsk). All (λ (a : OpenAsk). IsTrue (is_accepted a.client (mark ∷ v.journal))) l) (sym asks) (askers-more mark);
        house_in = q.house ∙ (v.house_in ∙ sym within);
        house_there = λ e. v.house_there (sym within ∙ e);
        rested = λ picks later. q.rested (by_lists policy pid (v.picked ++ picks) (v.replies ++ later));
        absent = q.absent;
        turns = turns;
        placed = placed;
        sound = λ picks later.
            let set : Setting = by_lists policy pid (v.picked ++ picks) (v.replies ++ later) in
            let old : IsRunSound set v.journal todo s = v.sound picks later in
            record {
              promise = q.promise picks later;
              failed_out = λ t client f live. ap (λ (r : List Row). is_out (rows_of t r)) (sym (q.log set)) ∙ old.failed_out t client (sym (q.unwritten t client) ∙ f) live;
              settled = λ t client a. settled-as set mark v.journal t (ap (pending t) (sym (q.log set))) (q.blocked t client) (q.unwritten t client) (old.settled t client a);
            };
      }
