-- A client that is closed.
use Rattle.std.proofs.Common.{◌≡◌, ◌≢◌, ◌≤◌, ◌<◌, ℕ, Bool, true, false, not, ◌||◌, List, [], ◌∷◌, ◌++◌, length, Option, Some, refl, sym, ap, ◌∙◌, subst, inl, inr, ◌⊎◌, cond, arith}
use Rattle.std.specs.Prelude.{◌==◌, filter, IsTrue}
use Rattle.std.specs.List.{list_any}
use Rattle.std.proofs.lemmas.Bool.{eq-eqb, eqb-true}
use Rattle.std.proofs.lemmas.Bool.Decides.{eqb_tells}
use Rattle.std.proofs.lemmas.List.Folds.{list_any-append}
use Rattle.mux_outside.specs.House.{Known}
use Rattle.mux_outside.specs.OwnStreams.{is_one, is_own, numbers_of, without_stream}
use Rattle.mux_outside.specs.Seen.{Seen, seen_after_close}
use Rattle.mux_outside.specs.Streams.{among, without}
use Rattle.mux_outside.specs.declared.own_streams.OwnStream.{OwnStream}
use Rattle.mux_outside.specs.declared.house.HouseReply.{HouseReply}
use Rattle.mux_outside.specs.declared.house_mark.HouseMark.{HouseMark}
use Rattle.mux_outside.specs.declared.mark.Mark.{Mark}
use Rattle.mux_history.specs.declared.limits.TheConstants.{HOUSE}
use Rattle.mux_history.specs.declared.why.Why.{Why}
use Rattle.mux_history.specs.Policy.{Policy}
use Rattle.mux_history.specs.Rows.{Row, rows_of, is_out, losses, loss_by, loses, is_refusal, Item, Gone, Fate, Goes, Refused, Drop, End}
use Rattle.mux_history.specs.Settings.{by_lists}
use Rattle.mux_history.specs.Promises.{not_own}
use Rattle.mux_history.proofs.Wires.{wire-keeps}
use Rattle.mux_peers.proofs.Stood.{own_row}
use Rattle.mux_state.specs.State.{EngineState, closed_by, first_lost_client, is_here}
use Rattle.mux_state.specs.Events.{here}
use Rattle.mux_state.specs.Stands.{Closes, IsFirstLost, RepresentsSoFar, EngineRepresents, log, not_closed}
use Rattle.mux_engine.specs.Serving.{IsRunSound, IsUnseen, IsUnused, Serving}
use Rattle.mux_engine.specs.Sides.{Housed, Resting, Side}
use Rattle.mux_engine.proofs.Lists.{among-here, among-less, none-without, or-true, own-or-house, test-other, true-false, without-other}
use Rattle.mux_engine.proofs.Logs.{out-more}
use Rattle.mux_engine.proofs.Owns.{client-apart, less-numbers, own-apart}
use Rattle.mux_engine.proofs.Places.{house-shut}
use Rattle.mux_engine.proofs.Taken.{here-less}

abbrev in-losses : ℕ → List (ℕ × Option Why) → Bool
in-losses k ls = list_any (λ l. l.0 == k) ls

first-in : (k : ℕ) (ls : List (ℕ × Option Why)) → IsFirstLost k ls → in-losses k ls ≡ true
first-in k [] f = absurd f
first-in k (l ∷ ls) f = ap (λ b. b || in-losses k ls) (eq-eqb l.0 k f)

unfiltered : (k : ℕ) (p : ℕ × Option Why → Bool) (ls : List (ℕ × Option Why)) → in-losses k (filter p ls) ≡ true → in-losses k ls ≡ true
unfiltered k p [] h = h
unfiltered k p (l ∷ ls) h = by_test (p l) (unfiltered k p ls) h
  where
    by_test : (b : Bool) → (in-losses k (filter p ls) ≡ true → in-losses k ls ≡ true) → in-losses k (cond b (l ∷ filter p ls) (filter p ls)) ≡ true → ((l.0 == k) || in-losses k ls) ≡ true
    by_test true ih h = by_own (l.0 == k) h
      where
        by_own : (c : Bool) → (c || in-losses k (filter p ls)) ≡ true → (c || in-losses k ls) ≡ true
        by_own true h = refl
        by_own false h = ih h
    by_test false ih h = ap (λ b. (l.0 == k) || b) (ih h) ∙ or-true (l.0 == k)

or-one : (a : Bool) → (a || false) ≡ true → a ≡ true
or-one true e = refl
or-one false e = e

own-out : (k : ℕ) (row : Row) (rows : List Row) → row.client ≡ k → (loses row || is_refusal row.fate) ≡ true → is_out (rows_of k (row ∷ rows)) ≡ true
own-out k row rows e p = ap is_out (own_row k row rows e) ∙ ap (λ b. b || is_out (rows_of k rows)) p

loss-out : (k : ℕ) (row : Row) (rows : List Row) (f : Fate) (i : Item) → row.fate ≡ f → row.item ≡ i → in-losses k (loss_by row) ≡ true → is_out (rows_of k (row ∷ rows)) ≡ true
loss-out k row rows (Drop cause) i e j h = own-out k row rows (eqb-true row.client k (or-one (row.client == k) (rw e at h))) (rw e refl)
loss-out k row rows Refused i e j h = own-out k row rows (eqb-true row.client k (or-one (row.client == k) (rw e at h))) (rw e refl)
loss-out k row rows (End cause) i e j h = true-false (sym (rw e at h))
loss-out k row rows Goes (Gone n) e j h = own-out k row rows (eqb-true row.client k (or-one (row.client == k) (rw (e, j) at h))) (rw (e, j) refl)
loss-out k row rows Goes i e j h = true-false (sym (rw (e, j) at h))

split-losses : (k : ℕ) (a b : List (ℕ × Option Why)) → in-losses k (a ++ b) ≡ true → (in-losses k a ≡ true) ⊎ (in-losses k b ≡ true)
split-losses k a b h = by_first (in-losses k a) refl (sym (list_any-append (λ (l : ℕ × Option Why). l.0 == k) a b) ∙ h)
  where
    by_first : (x : Bool) → in-losses k a ≡ x → (in-losses k a || in-losses k b) ≡ true → (in-losses k a ≡ true) ⊎ (in-losses k b ≡ true)
    by_first true e t = inl e
    by_first false e t = inr (sym (ap (λ y. y || in-losses k b) e) ∙ t)

-- a client that was lost or refused is out
loss-is-out : (k : ℕ) (rows : List Row) → in-losses k (losses rows) ≡ true → is_out (rows_of k rows) ≡ true
loss-is-out k [] h = true-false (sym h)
loss-is-out k (row ∷ rows) h = elim (split-losses k (losses rows) (loss_by row) h) [
  | inl a ↦ out-more k row rows (loss-is-out k rows a)
  | inr b ↦ loss-out k row rows row.fate row.item refl refl b
]

-- so is the one that is closed first
first-out : {picked : List ℕ} {replies : List HouseReply} {s : EngineState} {marks : List Mark} {closed : List ℕ} (st : RepresentsSoFar picked replies s marks closed) (k : ℕ) → IsFirstLost k s.leaving → (in-losses k (filter (not_closed closed) (losses (log s (picked ++ []) (replies ++ []) marks))) ≡ true) × (is_out (rows_of k (log s (picked ++ []) (replies ++ []) marks)) ≡ true)
first-out {picked} {replies} {s} {marks} {closed} st k first =
    let rows : List Row = log s (picked ++ []) (replies ++ []) marks in
    let v : EngineRepresents (picked ++ []) (replies ++ []) (length picked) st.asks s marks closed = st.at [] [] in
    let listed : in-losses k (filter (not_closed closed) (losses rows)) ≡ true = subst (λ ls. in-losses k ls ≡ true) v.rows.leaving_are (first-in k s.leaving first) in
    (listed, loss-is-out k rows (unfiltered k (not_closed closed) (losses rows) listed))

-- so the server's stream is never closed
pub first-nonzero : {picked : List ℕ} {replies : List HouseReply} {s : EngineState} {marks : List Mark} {closed : List ℕ} (st : RepresentsSoFar picked replies s marks closed) (k : ℕ) → IsFirstLost k s.leaving → k ≢ 0
first-nonzero {picked} {replies} {s} {marks} {closed} st k first e =
    let v : EngineRepresents (picked ++ []) (replies ++ []) (length picked) st.asks s marks closed = st.at [] [] in
    true-false (sym (first-out st k first).1 ∙ (ap (λ j. is_out (rows_of j (log s (picked ++ []) (replies ++ []) marks))) e ∙ v.rows.server_in))

-- what passes a test on the numbers passes it
passes : (k : ℕ) (closed : List ℕ) (ls : List (ℕ × Option Why)) → in-losses k (filter (not_closed closed) ls) ≡ true → among k closed ≡ false
passes k closed [] h = true-false (sym h)
passes k closed (l ∷ ls) h = by_test (not_closed closed l) refl h (passes k closed ls)
  where
    not-false : (b : Bool) → not b ≡ true → b ≡ false
    not-false false e = refl
    not-false true e = true-false (sym e)

    by_own : (b : Bool) → (l.0 == k) ≡ b → not_closed closed l ≡ true → (b || in-losses k (filter (not_closed closed) ls)) ≡ true → (in-losses k (filter (not_closed closed) ls) ≡ true → among k closed ≡ false) → among k closed ≡ false
    by_own true e p h ih = ap (λ i. among i closed) (sym (eqb-true l.0 k e)) ∙ not-false (among l.0 closed) p
    by_own false e p h ih = ih h

    by_test : (b : Bool) → not_closed closed l ≡ b → in-losses k (cond b (l ∷ filter (not_closed closed) ls) (filter (not_closed closed) ls)) ≡ true → (in-losses k (filter (not_closed closed) ls) ≡ true → among k closed ≡ false) → among k closed ≡ false
    by_test true p h ih = by_own (l.0 == k) refl p h ih
    by_test false p h ih = ih h

-- it is here until then
pub first-here : {picked : List ℕ} {replies : List HouseReply} {s : EngineState} {marks : List Mark} {closed : List ℕ} (st : RepresentsSoFar picked replies s marks closed) (k : ℕ) → IsFirstLost k s.leaving → among k (here s) ≡ true
first-here {picked} {replies} {s} {marks} {closed} st k first = among-here s k ∙ by_here (is_here s k) refl
  where
    v : EngineRepresents (picked ++ []) (replies ++ []) (length picked) st.asks s marks closed
    v = st.at [] []

    by_here : (b : Bool) → is_here s k ≡ b → b ≡ true
    by_here true e = refl
    by_here false e = true-false (sym (first-out st k first).1 ∙ ap is_out (v.rows.absent k (first-nonzero st k first) e (passes k closed (losses (log s (picked ++ []) (replies ++ []) marks)) (first-out st k first).0)))

-- ---- its stream

-- two tests in either order
pub both-tests : (P Q : ℕ → Bool) (xs : List ℕ) → filter P (filter Q xs) ≡ filter Q (filter P xs)
both-tests P Q [] = refl
both-tests P Q (x ∷ xs) = by_tests (P x) refl (Q x) refl (both-tests P Q xs)
  where
    by_tests : (a : Bool) → P x ≡ a → (b : Bool) → Q x ≡ b → filter P (filter Q xs) ≡ filter Q (filter P xs) → filter P (cond b (x ∷ filter Q xs) (filter Q xs)) ≡ filter Q (cond a (x ∷ filter P xs) (filter P xs))
    by_tests true e true f ih = ap (λ c. cond c (x ∷ filter P (filter Q xs)) (filter P (filter Q xs))) e ∙ (ap (λ l. x ∷ l) ih ∙ sym (ap (λ c. cond c (x ∷ filter Q (filter P xs)) (filter Q (filter P xs))) f))
    by_tests true e false f ih = ih ∙ sym (ap (λ c. cond c (x ∷ filter Q (filter P xs)) (filter Q (filter P xs))) f)
    by_tests false e true f ih = ap (λ c. cond c (x ∷ filter P (filter Q xs)) (filter P (filter Q xs))) e ∙ ih
    by_tests false e false f ih = ih

pub was-among : (k t : ℕ) (xs : List ℕ) → among t (without k xs) ≡ true → (among t xs ≡ true) × (k ≢ t)
was-among k t xs a = elim (eqb_tells k t) [
  | inl q ↦ true-false (sym a ∙ (ap (λ i. among i (without k xs)) (sym q.1) ∙ none-without k xs))
  | inr q ↦ (sym (without-other k t xs q.1) ∙ a, q.1)
]

-- no client is one of the master's own streams
pub stays-all : (k : ℕ) (own : List OwnStream) → is_one k own ≡ false → without_stream k own ≡ own
stays-all k [] e = refl
stays-all k (t ∷ own) e = by_head (t.number == k) e (stays-all k own)
  where
    by_head : (b : Bool) → (b || is_one k own) ≡ false → (is_one k own ≡ false → without_stream k own ≡ own) → cond (not b) (t ∷ without_stream k own) (without_stream k own) ≡ t ∷ own
    by_head true e ih = true-false e
    by_head false e ih = ap (λ l. t ∷ l) (ih e)

pub none-closed : {May : HouseReply → Type 0} {Rest : Resting} {before : Option (List HouseMark)} {now : Side} {policy : Policy} {pid : ℕ} {start : Option (List Mark)} {seen : Seen} {held failed : List ℕ} {given : ℕ} {todo : List ℕ} {s : EngineState} (v : Serving May Rest before now policy pid start seen held failed given todo s) (k : ℕ) → IsFirstLost k s.leaving → is_one k seen.own ≡ false
none-closed {seen = seen} {s = s} v k first = elim (eqb_tells k HOUSE) [
  | inl q ↦ ap (λ i. is_one i seen.own) q.1 ∙ own-apart seen v.journal v.places HOUSE (house-shut v)
  | inr q ↦ client-apart seen v.journal v.places k (own-or-house k (v.apart k (first-here v.stands k first)) q.1)
]

unfoldable pub serve-closed : {May : HouseReply → Type 0} {Rest : Resting} {before : Option (List HouseMark)} {now : Side} {policy : Policy} {pid : ℕ} {start : Option (List Mark)} {seen : Seen} {held failed : List ℕ} {given : ℕ} {todo : List ℕ} {s : EngineState} (v : Serving May Rest before now policy pid start seen held failed given todo s) (k : ℕ)
    → IsFirstLost k s.leaving → Closes s (closed_by s k) k → Serving May Rest before now policy pid start (seen_after_close k seen) (without k held) failed given todo (closed_by s k)
serve-closed {May} {Rest} {before} {now} {policy} {pid} {start} {seen} {held} {failed} {given} {todo} {s} v k first closes =
    let nz : k ≢ 0 = first-nonzero v.stands k first in
    let st : RepresentsSoFar v.picked v.replies (closed_by s k) v.journal (k ∷ v.closed) = closes v.picked v.replies v.journal v.closed v.stands in
    let asks : st.asks ≡ v.stands.asks = sym (st.at [] []).rows.asked_is ∙ (v.stands.at [] []).rows.asked_is in
    let less : without k (not_own (here s)) ≡ not_own (here (closed_by s k)) = both-tests (λ i. not (i == k)) (λ i. not (is_own i)) (here s) ∙ ap not_own (here-less s k) in
    record {
      journal = v.journal;
      closed = k ∷ v.closed;
      picked = v.picked;
      replies = v.replies;
      policy_is = v.policy_is;
      pid_is = v.pid_is;
      may = v.may;
      stands = st;
      house = v.house;
      asked = v.asked ∙ sym asks;
      called = v.called;
      askers = v.askers;
      opens = v.opens;
      house_in = v.house_in;
      house_there = v.house_there;
      rested = v.rested;
      absent = v.absent;
      records = v.records;
      of_wire = (wire-keeps seen v.journal).close k v.of_wire;
      places = record {
        own = stays-all k seen.own (none-closed v k first) ∙ v.places.own;
        listeners = v.places.listeners;
        streams = both-tests is_own (λ i. not (i == k)) seen.streams ∙ (ap (without k) v.places.streams ∙ less-numbers k seen.own);
      };
      own_streams = v.own_streams;
      turns = v.turns;
      open_are = both-tests (λ i. not (is_own i)) (λ i. not (i == k)) seen.streams ∙ (ap (without k) v.open_are ∙ (ap (λ b. cond (not b) (0 ∷ without k (not_own (here s))) (without k (not_own (here s)))) (test-other 0 k (λ e. nz (sym e))) ∙ ap (λ l. 0 ∷ l) less));
      apart = λ j a. v.apart j (was-among k j (here s) (ap (among j) (here-less s k) ∙ a)).0;
      held_is = ap (without k) v.held_is;
      blocked_is = λ t a. let w = was-among k t seen.streams a in without-other k t seen.blocked w.1 ∙ v.blocked_is t w.0;
      unseen = λ j lt le. let u : IsUnseen v.journal seen.blocked j = v.unseen j lt le in record { not_accepted = u.not_accepted; never_blocked = u.never_blocked; not_blocked = among-less k j seen.blocked u.not_blocked };
      unused = λ j free. let u : IsUnused v.journal seen j = v.unused j free in record { not_open = among-less k j seen.streams u.not_open; never_blocked = u.never_blocked; not_blocked = among-less k j seen.blocked u.not_blocked; never_failed = u.never_failed };
      failed_are = λ t own a f. v.failed_are t own (was-among k t seen.streams a).0 f;
      failed_did = v.failed_did;
      receives = v.receives;
      sound = λ picks later. let old : IsRunSound (by_lists policy pid (v.picked ++ picks) (v.replies ++ later)) v.journal todo s = v.sound picks later in
          record { kept = old.kept; failed_out = old.failed_out; settled = old.settled };
    }

-- ---- the master's own streams stay

pub housed-closed : {May : HouseReply → Type 0} {Rest : Resting} {before : Option (List HouseMark)} {now : Side} {policy : Policy} {pid : ℕ} {start : Option (List Mark)} {seen : Seen} {held failed : List ℕ} {given : ℕ} {todo : List ℕ} {s : EngineState} (v : Serving May Rest before now policy pid start seen held failed given todo s) (k : ℕ) → IsFirstLost k s.leaving → (known : Known) (own : List ℕ) → Housed known seen own → Housed known (seen_after_close k seen) own
housed-closed {seen = seen} {s = s} v k first known own h =
    record {
      ordering = h.ordering;
      listeners = h.listeners;
      streams = h.streams ∙ sym same;
      own_is = h.own_is ∙ ap numbers_of (sym same);
      places = record {
        opened = λ t one. without-other k t seen.streams (apart t (mine t one)) ∙ h.places.opened t (mine t one);
        numbered = λ t one. h.places.numbered t (mine t one);
        listed = λ t a is. subst (λ (l : List OwnStream). IsTrue (is_one t l)) (sym same) (h.places.listed t (was-among k t seen.streams a).0 is);
        given = λ t one. h.places.given t (mine t one);
        listening = h.places.listening;
      };
    }
  where
    same : without_stream k seen.own ≡ seen.own
    same = stays-all k seen.own (none-closed v k first)

    mine : (t : ℕ) → IsTrue (is_one t (without_stream k seen.own)) → IsTrue (is_one t seen.own)
    mine t one = subst (λ (l : List OwnStream). IsTrue (is_one t l)) same one

    apart : (t : ℕ) → IsTrue (is_one t seen.own) → k ≢ t
    apart t one e = true-false (sym one ∙ (ap (λ i. is_one i seen.own) (sym e) ∙ none-closed v k first))

-- ---- the list of those to be closed

filter-short : (p : ℕ × Option Why → Bool) (ls : List (ℕ × Option Why)) → length (filter p ls) ≤ length ls
filter-short p [] = omega arith
filter-short p (l ∷ ls) = by_test (p l) (filter-short p ls)
  where
    by_test : (b : Bool) → length (filter p ls) ≤ length ls → length (cond b (l ∷ filter p ls) (filter p ls)) ≤ length (l ∷ ls)
    by_test true ih = omega arith
    by_test false ih = omega arith

pub fewer : (k : ℕ) (ls : List (ℕ × Option Why)) → IsFirstLost k ls → length (filter (λ (l : ℕ × Option Why). not (l.0 == k)) ls) < length ls
fewer k [] f = absurd f
fewer k (l ∷ ls) f = let e : filter (λ (l : ℕ × Option Why). not (l.0 == k)) (l ∷ ls) ≡ filter (λ (l : ℕ × Option Why). not (l.0 == k)) ls = ap (λ b. cond (not b) (l ∷ filter (λ (l : ℕ × Option Why). not (l.0 == k)) ls) (filter (λ (l : ℕ × Option Why). not (l.0 == k)) ls)) (eq-eqb l.0 k f) in
    let s : length (filter (λ (l : ℕ × Option Why). not (l.0 == k)) ls) ≤ length ls = filter-short (λ (l : ℕ × Option Why). not (l.0 == k)) ls in
    omega (arith, ap length e)

pub first-is : (k : ℕ) (why : Option Why) (ls : List (ℕ × Option Why)) → first_lost_client ls ≡ Some (k, why) → IsFirstLost k ls
first-is k why [] e = absurd (cc)
first-is k why (l ∷ ls) e = let p : l ≡ (k, why) = cc in ap (λ (x : ℕ × Option Why). x.0) p
