-- What a turn makes of what holds while a wire is served, where it reports something of the
-- master's own streams, or that a stream accepts bytes again.
use Rattle.std.proofs.Common.{◌≡◌, ◌≢◌, ◌≤◌, ◌<◌, ℕ, Bool, true, false, not, ◌||◌, List, [], ◌∷◌, ◌++◌, Option, refl, sym, ap, ◌∙◌, subst, inl, inr, cond, arith, append-nil}
use Rattle.std.specs.Prelude.{◌==◌, IsTrue}
use Rattle.std.specs.Option.{option_map}
use Rattle.std.proofs.lemmas.Bool.Decides.{eqb_tells}
use Rattle.std.proofs.lemmas.List.Elements.{filter-append}
use Rattle.ssh_fields.specs.Fields.{AreBytes}
use Rattle.mux_outside.specs.HouseCalls.{End, Failed, Got, Joined, Turns, Writable}
use Rattle.mux_outside.specs.OwnStreams.{is_own, is_silent, new_stream}
use Rattle.mux_outside.specs.Seen.{Seen}
use Rattle.mux_outside.specs.Streams.{among, without}
use Rattle.mux_outside.specs.Wire.{IsNewOwn}
use Rattle.mux_outside.specs.declared.own_streams.TheConstants.{LAST_OWN}
use Rattle.mux_outside.specs.declared.house.HouseReply.{HouseReply}
use Rattle.mux_outside.specs.declared.house_mark.HouseMark.{HouseMark}
use Rattle.mux_outside.specs.declared.mark.Mark.{Mark}
use Rattle.mux_outside.specs.declared.mark.Mark.TheVariants.{Gets, Ends, Frees, Fails, Joins}
use Rattle.mux_history.specs.declared.limits.TheConstants.{HOUSE}
use Rattle.mux_history.specs.Policy.{Policy}
use Rattle.mux_history.specs.Settings.{by_lists}
use Rattle.mux_history.specs.Log.{Setting}
use Rattle.mux_history.specs.Journal.{is_blocked, is_own_stream}
use Rattle.mux_history.specs.Promises.{has_failed, not_own}
use Rattle.mux_history.specs.Wires.{OfWire}
use Rattle.mux_peers.specs.Among.{numbers}
use Rattle.mux_state.specs.State.{EngineState}
use Rattle.mux_state.specs.Events.{here}
use Rattle.mux_state.proofs.Twins.{own-silent, stands-alike}
use Rattle.std.proofs.lemmas.List.Folds.{list_any-append}
use Rattle.mux_engine.specs.Places.{own_marked}
use Rattle.mux_engine.specs.Serving.{IsFreeForOwn, IsRunSound, IsUnseen, IsUnused, Serving}
use Rattle.mux_engine.specs.Sides.{Resting, Side}
use Rattle.mux_engine.proofs.Called.{calling, calls-behind, calls-other, calls-own}
use Rattle.mux_engine.proofs.Happened.{last-or, placed-ends, placed-fails, placed-gets}
use Rattle.mux_engine.proofs.Lists.{among-last, among-open, none-without, or-last, or-none, test-other, test-same, true-false, without-other}
use Rattle.mux_engine.proofs.Logs.{failed-last, has-failed-same, settled-as}
use Rattle.mux_engine.proofs.Marks.{Placed, serve-alone}
use Rattle.mux_engine.proofs.OwnMarks.{own-is}
use Rattle.mux_engine.proofs.Owns.{giving, owns-ends, owns-gets, owns-joins, owns-plain}
use Rattle.mux_engine.proofs.Places.{house-other, open-stream, placed-by}
use Rattle.mux_engine.proofs.Quiet.{askers-more, notes-calling, notes-none, serve-quiet}
use Rattle.mux_engine.proofs.Silent.{frees-alike, given-log, stands-given}
use Rattle.mux_engine.proofs.Todo.{serve-todo}

freed : (k t : ℕ) (journal : List Mark) (b : Bool) → (k == t) ≡ b → is_blocked t (Frees k ∷ journal) ≡ (elim b as (λ _. Bool) [ true ↦ false | false ↦ is_blocked t journal ])
freed k t journal b e = ap (λ c. elim c as (λ _. Bool) [ true ↦ false | false ↦ is_blocked t journal ]) e

module _ {May : HouseReply → Type 0} {Rest : Resting} {before : Option (List HouseMark)} {now : Side} {policy : Policy} {pid : ℕ} {start : Option (List Mark)} {seen : Seen} {held failed : List ℕ} {given : ℕ} {s : EngineState}
    (v : Serving May Rest before now policy pid start seen held failed given [] s) where
  -- all are to be offered what waits for them again
  pub offered-again : Serving May Rest before now policy pid start seen held failed given (0 ∷ here s) s
  offered-again = serve-todo v (0 ∷ here s) (λ t a. inl refl)

  module _ (k : ℕ) (found : among k seen.streams ≡ true) (seen' : Seen) where
    -- what a turn leaves as it was
    pub record Same (mark : Mark) (blocked' : List ℕ) : Type 0 where
      pub recorded : seen'.recorded ≡ option_map (λ m. m ++ mark ∷ []) seen.recorded
      pub of_wire : OfWire seen'.streams seen'.blocked seen'.last (mark ∷ v.journal)
      pub streams : seen'.streams ≡ seen.streams
      pub blocked : seen'.blocked ≡ blocked'
      pub last : seen'.last ≡ seen.last
      pub last_own : seen'.last_own ≡ seen.last_own
      pub listens : seen'.listens ≡ seen.listens
      pub listeners : seen'.listeners ≡ seen.listeners
      pub own : seen'.own ≡ own_marked mark seen.own

    apart-own : IsTrue (is_own k) → (t : ℕ) → is_own_stream t ≡ false → k ≢ t
    apart-own own t client e = true-false (sym (own-is v k own found) ∙ (ap is_own_stream e ∙ client))

    here-apart : IsTrue (is_own k) → (t : ℕ) → among t (numbers s.clients) ≡ true → k ≢ t
    here-apart own t a = apart-own own t (v.apart t (list_any-append (λ (i : ℕ). i == t) (numbers s.clients) s.refused ∙ ap (λ b. b || among t s.refused) a))

    -- it gave bytes
    pub own-gets : IsTrue (is_own k) → is_silent k seen.own ≡ false → now.unnoted ≡ [] → (bytes : List ℕ) → AreBytes bytes → Same (Gets k bytes) seen.blocked → Serving May Rest before (calling now (Turns (Got k bytes) ∷ [])) policy pid start seen' held failed given [] s
    own-gets own loud none bytes are m = serve-quiet v (calling now (Turns (Got k bytes) ∷ [])) seen' held failed given (Gets k bytes)
        (record { log = λ set. given-log set k bytes v.journal (own-is v k own found); blocked = λ t client. refl; unwritten = λ t client. refl; promise = λ picks later. record { takes = tt; waits = tt; speaks = tt; open_streams = tt; answers = tt; after_end = tt; silence = tt }; rested = λ set. tt; absent = λ e. refl; house = refl })
        (stands-given v.picked v.replies s k bytes v.journal v.closed (own-is v k own found) are (here-apart own) v.stands) (notes-calling now (Turns (Got k bytes) ∷ []) (Gets k bytes) refl) (λ set. calls-own now k (Turns (Got k bytes)) own none) refl refl m.recorded v.turns
        (placed-gets v seen' s k bytes found m.of_wire m.streams m.blocked m.last m.last_own m.listens refl
        (owns-gets v.journal seen seen' k bytes v.places (record { opened = tt; gives = giving seen v.journal v.places k found (λ own. loud); writes = tt; joins = tt; others = house-other v k found }) m.streams m.own m.listeners))

    -- it gives no more
    pub own-ends : IsTrue (is_own k) → is_silent k seen.own ≡ false → now.unnoted ≡ [] → Same (Ends k) seen.blocked → Serving May Rest before (calling now (Turns (End k) ∷ [])) policy pid start seen' held failed given [] s
    own-ends own loud none m = let alike = own-silent.ends v.journal k (own-is v k own found) in
        serve-quiet v (calling now (Turns (End k) ∷ [])) seen' held failed given (Ends k)
        (record { log = alike.log; blocked = λ t client. refl; unwritten = λ t client. refl; promise = λ picks later. record { takes = tt; waits = tt; speaks = tt; open_streams = tt; answers = tt; after_end = tt; silence = tt }; rested = λ set. tt; absent = λ e. refl; house = refl })
        (stands-alike v.journal (Ends k ∷ v.journal) v.picked v.replies s v.closed alike v.stands) (notes-calling now (Turns (End k) ∷ []) (Ends k) refl) (λ set. calls-own now k (Turns (End k)) own none) refl refl m.recorded v.turns
        (placed-ends v seen' s k found m.of_wire m.streams m.blocked m.last m.last_own m.listens refl
        (owns-ends v.journal seen seen' k v.places (record { opened = tt; gives = giving seen v.journal v.places k found (λ own. loud); writes = tt; joins = tt; others = house-other v k found }) m.streams m.own m.listeners))

    -- it failed
    pub own-failed : IsTrue (is_own k) → now.unnoted ≡ [] → Same (Fails k) seen.blocked → Serving May Rest before (calling now (Turns (Failed k) ∷ [])) policy pid start seen' held (failed ++ k ∷ []) given [] s
    own-failed own none m = let alike = own-silent.fails v.journal k (own-is v k own found) in
        serve-quiet v (calling now (Turns (Failed k) ∷ [])) seen' held (failed ++ k ∷ []) given (Fails k)
        (record { log = alike.log; blocked = λ t client. refl; unwritten = λ t client. refl; promise = λ picks later. record { takes = tt; waits = tt; speaks = tt; open_streams = tt; answers = tt; after_end = tt; silence = tt }; rested = λ set. tt; absent = λ e. refl; house = refl })
        (stands-alike v.journal (Fails k ∷ v.journal) v.picked v.replies s v.closed alike v.stands) (notes-calling now (Turns (Failed k) ∷ []) (Fails k) refl) (λ set. calls-own now k (Turns (Failed k)) own none) refl refl m.recorded v.turns
        (placed-fails v seen' s (failed ++ k ∷ []) k found m.of_wire m.streams m.blocked m.last m.last_own m.listens refl
        (λ is. among-last k k failed ∙ (ap (λ b. among k failed || (b || false)) (test-same k) ∙ or-last (among k failed))) (λ t a. among-last k t failed ∙ ap (λ b. b || ((k == t) || false)) a) (failed-last (Fails k) v.journal k failed (has-failed-same k v.journal) v.failed_did)
        (owns-plain v.journal seen seen' (Fails k) (house-other v k found) v.places m.streams m.own m.listeners))

    placed-frees : Same (Frees k) (without k seen.blocked) → Placed s v.journal seen seen' (without k held) failed (Frees k)
    placed-frees m = placed-by v (Frees k) seen' (without k held) failed s k found m.of_wire m.streams m.last m.last_own m.listens refl (ap (without k) v.held_is ∙ sym m.blocked)
        (ap (among k) m.blocked ∙ (none-without k seen.blocked ∙ sym (freed k k v.journal true (test-same k)))) (λ t ne. ap (among t) m.blocked ∙ without-other k t seen.blocked ne) (λ t ne. freed k t v.journal false (test-other k t ne)) (λ t. refl) (λ t ne. refl)
        (λ own f. v.failed_are k own found f) (λ t a. a) v.failed_did (owns-plain v.journal seen seen' (Frees k) (house-other v k found) v.places m.streams m.own m.listeners)

    -- it accepts bytes again
    pub own-frees : IsTrue (is_own k) → now.unnoted ≡ [] → Same (Frees k) (without k seen.blocked) → Serving May Rest before (calling now (Turns (Writable k) ∷ [])) policy pid start seen' (without k held) failed given [] s
    own-frees own none m = let alike = frees-alike k v.journal in
        serve-quiet v (calling now (Turns (Writable k) ∷ [])) seen' (without k held) failed given (Frees k)
        (record { log = alike.log; blocked = λ t client. freed k t v.journal false (test-other k t (apart-own own t client)); unwritten = λ t client. refl; promise = λ picks later. record { takes = tt; waits = tt; speaks = tt; open_streams = tt; answers = tt; after_end = tt; silence = tt }; rested = λ set. tt; absent = λ e. refl; house = refl })
        (stands-alike v.journal (Frees k ∷ v.journal) v.picked v.replies s v.closed alike v.stands) (notes-calling now (Turns (Writable k) ∷ []) (Frees k) refl) (λ set. calls-own now k (Turns (Writable k)) own none) refl refl m.recorded v.turns (placed-frees m)

    -- so does the server's or a client's
    pub client-frees : is_own k ≡ false → Same (Frees k) (without k seen.blocked) → Serving May Rest before now policy pid start seen' (without k held) failed given (0 ∷ here s) s
    client-frees client m = let alike = frees-alike k v.journal in
        serve-alone v now seen' (without k held) failed given (0 ∷ here s) s (Frees k)
        (stands-alike v.journal (Frees k ∷ v.journal) v.picked v.replies s v.closed alike v.stands) (λ picks replies. refl) record {
          recorded = m.recorded;
          policy_is = refl;
          pid_is = refl;
          notes = notes-none now (Frees k) refl;
          called = λ picks later. calls-other now k (Turns (Writable k)) client;
          askers = askers-more v (Frees k);
          house_in = v.house_in;
          house_there = v.house_there;
          rested = λ picks later. tt;
          absent = λ e. refl;
          turns = v.turns;
          placed = placed-frees m;
          sound = λ picks later.
              let set : Setting = by_lists policy pid (v.picked ++ picks) (v.replies ++ later) in
              let old : IsRunSound set v.journal [] s = v.sound picks later in
              record {
                promise = record { takes = tt; waits = tt; speaks = tt; open_streams = tt; answers = tt; after_end = tt; silence = tt };
                failed_out = old.failed_out;
                settled = λ t is a. settled-as set (Frees k) v.journal t refl (freed k t v.journal false (test-other k t (λ e. shut t a e))) refl (old.settled t is refl);
              };
        }
      where
        shut : (t : ℕ) → among t (0 ∷ here s) ≡ false → k ≡ t → ⊥
        shut t a e = true-false (sym (open-stream v k client found) ∙ (sym (among-open s k) ∙ (ap (λ i. among i (0 ∷ here s)) e ∙ a)))

  -- a socket was accepted
  pub own-joins : (l k : ℕ) → IsTrue (among l seen.listeners) → now.unnoted ≡ [] → IsNewOwn seen.last_own k → (seen' : Seen) → seen'.recorded ≡ option_map (λ m. m ++ Joins l k ∷ []) seen.recorded → OfWire seen'.streams seen'.blocked seen'.last (Joins l k ∷ v.journal)
      → seen'.streams ≡ seen.streams ++ k ∷ [] → seen'.blocked ≡ seen.blocked → seen'.last ≡ seen.last → seen'.last_own ≡ k → seen'.listens ≡ seen.listens → seen'.own ≡ seen.own ++ new_stream k ∷ [] → seen'.listeners ≡ seen.listeners → Serving May Rest before (calling now (Turns (Joined l k) ∷ [])) policy pid start seen' held failed given [] s
  own-joins l k there none new seen' recorded of streams blocked last last_own listens own listeners =
      let alike = own-silent.joins v.journal l k in
      let fresh : IsUnused v.journal seen k = v.unused k (inl (new.own, new.above)) in
      serve-quiet v (calling now (Turns (Joined l k) ∷ [])) seen' held failed given (Joins l k)
      (record { log = alike.log; blocked = λ t client. refl; unwritten = λ t client. refl; promise = λ picks later. record { takes = tt; waits = tt; speaks = tt; open_streams = tt; answers = tt; after_end = tt; silence = tt }; rested = λ set. tt; absent = λ e. refl; house = refl })
      (stands-alike v.journal (Joins l k ∷ v.journal) v.picked v.replies s v.closed alike v.stands) (notes-calling now (Turns (Joined l k) ∷ []) (Joins l k) refl) (λ set. calls-behind now (Turns (Joined l k) ∷ []) none) refl refl recorded v.turns record {
        of_wire = of;
        open_are = ap not_own streams ∙ (filter-append (λ (t : ℕ). not (is_own t)) seen.streams (k ∷ []) ∙ (ap (λ b. not_own seen.streams ++ cond (not b) (k ∷ []) []) new.own ∙ (append-nil (not_own seen.streams) ∙ v.open_are)));
        apart = v.apart;
        held_is = v.held_is ∙ sym blocked;
        blocked_is = λ t a. elim (eqb_tells k t) [
          | inl q ↦ ap (among t) blocked ∙ subst (λ (i : ℕ). among i seen.blocked ≡ is_blocked i v.journal) q.1 (fresh.not_blocked ∙ sym fresh.never_blocked)
          | inr q ↦ ap (among t) blocked ∙ v.blocked_is t (last-or k t seen.streams (ap (among t) (sym streams) ∙ a) q.1)
        ];
        unseen = λ j lt le. let w : IsUnseen v.journal seen.blocked j = v.unseen j (subst (λ n. n < j) last lt) le in record { not_accepted = w.not_accepted; never_blocked = w.never_blocked; not_blocked = ap (among j) blocked ∙ w.not_blocked };
        unused = λ j free. let w : IsUnused v.journal seen j = v.unused j (earlier j free) in
            record { not_open = ap (among j) streams ∙ (among-last k j seen.streams ∙ (ap (λ b. among j seen.streams || (b || false)) (test-other k j (λ q. not-new j free q)) ∙ (or-none (among j seen.streams) ∙ w.not_open))); never_blocked = w.never_blocked; not_blocked = ap (among j) blocked ∙ w.not_blocked; never_failed = w.never_failed };
        failed_are = λ t own a f. elim (eqb_tells k t) [
          | inl q ↦ true-false (sym f ∙ subst (λ (i : ℕ). has_failed i v.journal ≡ false) q.1 fresh.never_failed)
          | inr q ↦ v.failed_are t own (last-or k t seen.streams (ap (among t) (sym streams) ∙ a) q.1) f
        ];
        failed_did = v.failed_did;
        listens = λ x. listens ∙ x;
        owns = owns-joins v.journal seen seen' l k v.places there new.own streams own listeners;
      }
    where
      earlier : (j : ℕ) → IsFreeForOwn seen'.last_own j → IsFreeForOwn seen.last_own j
      earlier j (inl free) = inl (free.0, later)
        where
          later : seen.last_own < j
          later = let a : k < j = subst (λ n. n < j) last_own free.1 in let b : seen.last_own < k = new.above in omega arith
      earlier j (inr house) = inr house

      not-new : (j : ℕ) → IsFreeForOwn seen'.last_own j → k ≡ j → ⊥
      not-new j (inl free) q = let a : k < j = subst (λ n. n < j) last_own free.1 in omega arith
      not-new j (inr house) q = let a : k ≤ LAST_OWN = new.at_most in let b : k ≡ HOUSE = q ∙ house in omega arith
