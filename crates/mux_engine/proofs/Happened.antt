-- What an event makes of all that holds while a wire is served.
use Rattle.std.proofs.Common.{◌≡◌, ◌≢◌, ◌≤◌, ◌<◌, ◌+◌, ℕ, true, false, not, ◌||◌, ◌&&◌, List, [], ◌∷◌, ◌++◌, Option, None, refl, sym, ap, ◌∙◌, subst, inl, inr, cond, arith, append-nil}
use Rattle.std.specs.Prelude.{◌==◌, All, IsTrue}
use Rattle.std.specs.Option.{option_map}
use Rattle.std.proofs.lemmas.Bool.Decides.{eqb_tells}
use Rattle.std.proofs.lemmas.List.Elements.{filter-append}
use Rattle.mux_outside.specs.House.{OpenAsk}
use Rattle.mux_outside.specs.OwnStreams.{is_own}
use Rattle.mux_outside.specs.Seen.{Seen}
use Rattle.mux_outside.specs.Streams.{among}
use Rattle.mux_outside.specs.declared.house.HouseReply.{HouseReply}
use Rattle.mux_outside.specs.declared.house_mark.HouseMark.{HouseMark}
use Rattle.mux_outside.specs.declared.house_mark.HouseMark.TheVariants.{HouseIn}
use Rattle.mux_outside.specs.declared.mark.Mark.{Mark}
use Rattle.mux_outside.specs.declared.mark.Mark.TheVariants.{Accepts, Gets, Ends, Fails, House}
use Rattle.mux_outside.specs.declared.own_streams.TheConstants.{LAST_CLIENT}
use Rattle.mux_history.specs.declared.limits.TheConstants.{HOUSE}
use Rattle.mux_history.specs.Policy.{Policy}
use Rattle.mux_history.specs.Log.{Setting}
use Rattle.mux_history.specs.Settings.{by_lists}
use Rattle.mux_history.specs.Journal.{is_accepted, is_blocked, is_own_stream}
use Rattle.mux_history.specs.Promises.{SpeaksInTime, has_failed, not_own, turns_in}
use Rattle.mux_history.specs.Wires.{OfWire}
use Rattle.mux_state.specs.State.{EngineState}
use Rattle.mux_state.specs.Events.{here}
use Rattle.mux_state.specs.Stands.{GoesBy}
use Rattle.mux_engine.specs.Answers.{AnswersOpen}
use Rattle.mux_engine.specs.Called.{calls_at}
use Rattle.mux_engine.specs.Run.{RestedAt, is_by_house}
use Rattle.mux_engine.specs.Serving.{IsFreeForOwn, IsUnseen, IsUnused, Serving}
use Rattle.mux_engine.specs.Sides.{Resting, Side}
use Rattle.mux_engine.proofs.Called.{CallsOn}
use Rattle.mux_engine.proofs.Lists.{among-last, or-none, test-other, true-false}
use Rattle.mux_engine.proofs.Logs.{has-failed-other}
use Rattle.mux_engine.proofs.Marks.{Notes, Placed, serve-next}
use Rattle.mux_engine.proofs.Outs.{Spares}
use Rattle.mux_engine.proofs.Owns.{Owns}
use Rattle.mux_engine.proofs.Places.{placed-by}
use Rattle.mux_engine.proofs.Turns.{IsRecorded, recorded-sound}

-- what is in a list with one more is that one or was in it
pub last-or : (k t : ℕ) (xs : List ℕ) → among t (xs ++ k ∷ []) ≡ true → (k ≢ t) → among t xs ≡ true
last-or k t xs a ne = sym (among-last k t xs ∙ (ap (λ b. among t xs || (b || false)) (test-other k t ne) ∙ or-none (among t xs))) ∙ a

module _ {May : HouseReply → Type 0} {Rest : Resting} {before : Option (List HouseMark)} {now : Side} {policy : Policy} {pid : ℕ} {start : Option (List Mark)} {seen : Seen} {held failed : List ℕ} {given : ℕ} {todo : List ℕ} {s : EngineState}
    (v : Serving May Rest before now policy pid start seen held failed given todo s) where
  -- with what an event of the engine picks
  pub serve-event : {recorded recorded' : Option (List HouseMark)} {s' : EngineState} (mark : Mark) (g : GoesBy May recorded recorded' v.picked v.replies s s' mark v.journal v.closed) (now' : Side) (seen' : Seen) (held' failed' : List ℕ) (given' : ℕ)
      → s'.core.policy ≡ s.core.policy → s'.pid ≡ s.pid → s.ended ≡ None → IsRecorded mark → ((t : ℕ) → among t (0 ∷ here s') ≡ false → among t todo ≡ false) → ((k : ℕ) → among k v.closed ≡ true → Spares k mark)
      → ((picks : List ℕ) (later : List HouseReply) → SpeaksInTime (by_lists policy pid ((v.picked ++ g.picks) ++ picks) ((v.replies ++ g.replies) ++ later)) v.journal mark)
      → ((picks : List ℕ) (later : List HouseReply) → AnswersOpen (by_lists policy pid ((v.picked ++ g.picks) ++ picks) ((v.replies ++ g.replies) ++ later)) v.journal mark)
      → Notes now now' mark g.asks → ((set : Setting) → CallsOn now now' (calls_at set v.journal mark)) → All (λ (a : OpenAsk). IsTrue (is_accepted a.client (mark ∷ v.journal))) now'.asks → is_accepted HOUSE (mark ∷ v.journal) ≡ now'.let_in → (now'.let_in ≡ true → Rest.present ≡ true) → ((set : Setting) → RestedAt Rest.rests set before v.journal mark) → (Rest.present ≡ false → is_by_house mark ≡ false) → turns_in (mark ∷ v.journal) ≡ given'
      → seen'.recorded ≡ option_map (λ m. m ++ mark ∷ []) seen.recorded → Placed s' v.journal seen seen' held' failed' mark → Serving May Rest before now' policy pid start seen' held' failed' given' (0 ∷ here s') s'
  serve-event {s' = s'} mark g now' seen' held' failed' given' same_policy same_pid live is covers spares speaks answers notes called askers within there rested absent turns recorded placed =
      serve-next v now' seen' held' failed' given' (0 ∷ here s') s' mark g record {
        recorded = recorded;
        policy_is = same_policy;
        pid_is = same_pid;
        notes = notes;
        called = λ picks later. called (by_lists policy pid ((v.picked ++ g.picks) ++ picks) ((v.replies ++ g.replies) ++ later));
        askers = askers;
        house_in = within;
        house_there = there;
        rested = λ picks later. rested (by_lists policy pid ((v.picked ++ g.picks) ++ picks) ((v.replies ++ g.replies) ++ later));
        absent = absent;
        turns = turns;
        placed = placed;
        sound = recorded-sound v mark g same_policy same_pid is placed.of_wire.lawful covers live spares speaks answers;
      }

  -- ---- where the streams are then

  -- a stream gave bytes, or no more, or failed
  pub placed-gets : (seen' : Seen) (s' : EngineState) (k : ℕ) (bytes : List ℕ) → among k seen.streams ≡ true → OfWire seen'.streams seen'.blocked seen'.last (Gets k bytes ∷ v.journal)
      → seen'.streams ≡ seen.streams → seen'.blocked ≡ seen.blocked → seen'.last ≡ seen.last → seen'.last_own ≡ seen.last_own → seen'.listens ≡ seen.listens → here s' ≡ here s → Owns v.journal seen' (Gets k bytes) → Placed s' v.journal seen seen' held failed (Gets k bytes)
  placed-gets seen' s' k bytes found of streams blocked last last_own listens same owns =
      placed-by v (Gets k bytes) seen' held failed s' k found of streams last last_own listens same (v.held_is ∙ sym blocked) (ap (among k) blocked ∙ v.blocked_is k found) (λ t ne. ap (among t) blocked) (λ t ne. refl) (λ t. refl) (λ t ne. refl)
      (λ own f. v.failed_are k own found f) (λ t a. a) v.failed_did owns

  pub placed-ends : (seen' : Seen) (s' : EngineState) (k : ℕ) → among k seen.streams ≡ true → OfWire seen'.streams seen'.blocked seen'.last (Ends k ∷ v.journal)
      → seen'.streams ≡ seen.streams → seen'.blocked ≡ seen.blocked → seen'.last ≡ seen.last → seen'.last_own ≡ seen.last_own → seen'.listens ≡ seen.listens → here s' ≡ here s → Owns v.journal seen' (Ends k) → Placed s' v.journal seen seen' held failed (Ends k)
  placed-ends seen' s' k found of streams blocked last last_own listens same owns =
      placed-by v (Ends k) seen' held failed s' k found of streams last last_own listens same (v.held_is ∙ sym blocked) (ap (among k) blocked ∙ v.blocked_is k found) (λ t ne. ap (among t) blocked) (λ t ne. refl) (λ t. refl) (λ t ne. refl)
      (λ own f. v.failed_are k own found f) (λ t a. a) v.failed_did owns

  pub placed-fails : (seen' : Seen) (s' : EngineState) (failed' : List ℕ) (k : ℕ) → among k seen.streams ≡ true → OfWire seen'.streams seen'.blocked seen'.last (Fails k ∷ v.journal)
      → seen'.streams ≡ seen.streams → seen'.blocked ≡ seen.blocked → seen'.last ≡ seen.last → seen'.last_own ≡ seen.last_own → seen'.listens ≡ seen.listens → here s' ≡ here s → (IsTrue (is_own k) → among k failed' ≡ true) → ((t : ℕ) → among t failed ≡ true → among t failed' ≡ true) → ((t : ℕ) → among t failed' ≡ true → has_failed t (Fails k ∷ v.journal) ≡ true) → Owns v.journal seen' (Fails k) → Placed s' v.journal seen seen' held failed' (Fails k)
  placed-fails seen' s' failed' k found of streams blocked last last_own listens same noted grows did owns =
      placed-by v (Fails k) seen' held failed' s' k found of streams last last_own listens same (v.held_is ∙ sym blocked) (ap (among k) blocked ∙ v.blocked_is k found) (λ t ne. ap (among t) blocked) (λ t ne. refl) (λ t. refl) (λ t ne. has-failed-other k t v.journal ne)
      (λ own f. noted own) grows did owns

  -- a client came
  pub placed-accepts : (seen' : Seen) (s' : EngineState) (k : ℕ) → k ≡ seen.last + 1 → k ≤ LAST_CLIENT → OfWire seen'.streams seen'.blocked seen'.last (Accepts k ∷ v.journal)
      → seen'.streams ≡ seen.streams ++ k ∷ [] → seen'.blocked ≡ seen.blocked → seen'.last ≡ k → seen'.last_own ≡ seen.last_own → seen'.listens ≡ seen.listens → here s' ≡ here s ++ k ∷ [] → is_own k ≡ false → Owns v.journal seen' (Accepts k) → Placed s' v.journal seen seen' held failed (Accepts k)
  placed-accepts seen' s' k next most of streams blocked last last_own listens more client owns =
      let new : IsUnseen v.journal seen.blocked k = v.unseen k (omega arith) most in
      record {
        of_wire = of;
        open_are = ap not_own streams ∙ (filter-append (λ (t : ℕ). not (is_own t)) seen.streams (k ∷ []) ∙ (ap (λ l. l ++ not_own (k ∷ [])) v.open_are ∙ ap (λ l. 0 ∷ l) (sym (ap not_own more ∙ filter-append (λ (t : ℕ). not (is_own t)) (here s) (k ∷ [])))));
        apart = λ j a. elim (eqb_tells k j) [
          | inl q ↦ ap (λ b. b && not (j == HOUSE)) (ap is_own (sym q.1) ∙ client)
          | inr q ↦ v.apart j (last-or k j (here s) (ap (among j) (sym more) ∙ a) q.1)
        ];
        held_is = v.held_is ∙ sym blocked;
        blocked_is = λ t a. elim (eqb_tells k t) [
          | inl q ↦ ap (among t) blocked ∙ (ap (λ i. among i seen.blocked) (sym q.1) ∙ (new.not_blocked ∙ (sym new.never_blocked ∙ ap (λ i. is_blocked i v.journal) q.1)))
          | inr q ↦ ap (among t) blocked ∙ v.blocked_is t (last-or k t seen.streams (ap (among t) (sym streams) ∙ a) q.1)
        ];
        unseen = λ j lt le. let w : IsUnseen v.journal seen.blocked j = v.unseen j (before-too j lt) le in
            record { not_accepted = ap (λ b. cond b true (is_accepted j v.journal)) (test-other k j (λ q. same-not j lt q)) ∙ w.not_accepted; never_blocked = w.never_blocked; not_blocked = ap (among j) blocked ∙ w.not_blocked };
        unused = λ j free. let w : IsUnused v.journal seen j = v.unused j (subst (λ (n : ℕ). IsFreeForOwn n j) last_own free) in
            record { not_open = ap (among j) streams ∙ (among-last k j seen.streams ∙ (ap (λ b. among j seen.streams || (b || false)) (test-other k j (λ q. no-client j free q)) ∙ (or-none (among j seen.streams) ∙ w.not_open))); never_blocked = w.never_blocked; not_blocked = ap (among j) blocked ∙ w.not_blocked; never_failed = w.never_failed };
        failed_are = λ t own a f. v.failed_are t own (last-or k t seen.streams (ap (among t) (sym streams) ∙ a) (λ q. true-false (sym own ∙ (ap is_own (sym q) ∙ client)))) f;
        failed_did = v.failed_did;
        listens = λ l. listens ∙ l;
        owns = owns;
      }
    where
      before-too : (j : ℕ) → seen'.last < j → seen.last < j
      before-too j lt = let l : k < j = subst (λ n. n < j) last lt in omega arith

      same-not : (j : ℕ) → seen'.last < j → k ≡ j → ⊥
      same-not j lt q = let l : k < j = subst (λ n. n < j) last lt in omega arith

      no-client : (j : ℕ) → IsFreeForOwn seen'.last_own j → k ≡ j → ⊥
      no-client j (inl free) q = true-false (sym free.0 ∙ (ap is_own (sym q) ∙ client))
      no-client j (inr house) q = true-false (sym (ap is_own (q ∙ house)) ∙ client)

  -- the forwarder was admitted
  pub placed-house-in : (seen' : Seen) (s' : EngineState) → OfWire seen'.streams seen'.blocked seen'.last (House HouseIn ∷ v.journal) → seen'.streams ≡ seen.streams → seen'.blocked ≡ seen.blocked → seen'.last ≡ seen.last → seen'.last_own ≡ seen.last_own → seen'.listens ≡ seen.listens → here s' ≡ here s ++ HOUSE ∷ [] → Owns v.journal seen' (House HouseIn) → Placed s' v.journal seen seen' held failed (House HouseIn)
  placed-house-in seen' s' of streams blocked last last_own listens more owns = record {
    of_wire = of;
    open_are = ap not_own streams ∙ (v.open_are ∙ ap (λ l. 0 ∷ l) (sym (ap not_own more ∙ (filter-append (λ (t : ℕ). not (is_own t)) (here s) (HOUSE ∷ []) ∙ append-nil (not_own (here s))))));
    apart = λ j a. elim (eqb_tells HOUSE j) [
      | inl q ↦ ap is_own_stream (sym q.1)
      | inr q ↦ v.apart j (last-or HOUSE j (here s) (ap (among j) (sym more) ∙ a) q.1)
    ];
    held_is = v.held_is ∙ sym blocked;
    blocked_is = λ t a. ap (among t) blocked ∙ v.blocked_is t (ap (among t) (sym streams) ∙ a);
    unseen = λ j lt le. let w : IsUnseen v.journal seen.blocked j = v.unseen j (subst (λ n. n < j) last lt) le in
        record { not_accepted = ap (λ b. cond b true (is_accepted j v.journal)) (test-other HOUSE j (λ q. absurd (omega arith))) ∙ w.not_accepted; never_blocked = w.never_blocked; not_blocked = ap (among j) blocked ∙ w.not_blocked };
    unused = λ j free. let w : IsUnused v.journal seen j = v.unused j (subst (λ (n : ℕ). IsFreeForOwn n j) last_own free) in
        record { not_open = ap (among j) streams ∙ w.not_open; never_blocked = w.never_blocked; not_blocked = ap (among j) blocked ∙ w.not_blocked; never_failed = w.never_failed };
    failed_are = λ t own a f. v.failed_are t own (ap (among t) (sym streams) ∙ a) f;
    failed_did = v.failed_did;
    listens = λ l. listens ∙ l;
    owns = owns;
  }
