-- What an order that was carried out makes of what holds while a wire is served.
use Rattle.std.proofs.Common.{◌≡◌, ◌≢◌, ◌≤◌, ◌<◌, ◌+◌, ℕ, Bool, true, false, not, ◌||◌, List, [], ◌∷◌, ◌++◌, Option, Some, None, refl, sym, ap, ◌∙◌, subst, inl, inr, cond, arith, append-nil}
use Rattle.std.specs.Prelude.{◌==◌, filter, All, IsTrue, MatchResult, Result, Ok, Err}
use Rattle.std.specs.Option.{option_map}
use Rattle.std.proofs.lemmas.Bool.Decides.{eqb_tells}
use Rattle.std.proofs.lemmas.List.Elements.{filter-append}
use Rattle.mux_outside.specs.House.{Known, OpenAsk, known_after_order, order_marks}
use Rattle.mux_outside.specs.HouseCalls.{HouseCall, calls_of}
use Rattle.mux_outside.specs.OwnStreams.{is_one, is_own, numbers_of}
use Rattle.mux_outside.specs.Seen.{Seen, seen_after_close, seen_after_note}
use Rattle.mux_outside.specs.declared.own_streams.OwnStream.{OwnStream}
use Rattle.mux_outside.specs.Streams.{among, without}
use Rattle.mux_outside.specs.Wire.{IsNewOwn, MayNote}
use Rattle.mux_outside.specs.declared.own_streams.TheConstants.{LAST_CLIENT, LAST_OWN}
use Rattle.mux_outside.specs.declared.house.HouseReply.{HouseReply}
use Rattle.mux_outside.specs.declared.house_mark.HouseMark.{HouseMark}
use Rattle.mux_outside.specs.declared.house_mark.HouseMark.TheVariants.{HouseOrder}
use Rattle.mux_outside.specs.declared.mark.Mark.{Mark}
use Rattle.mux_outside.specs.declared.mark.Mark.TheVariants.{House}
use Rattle.mux_outside.specs.declared.order.Order.{Order}
use Rattle.mux_outside.specs.declared.order.Order.TheVariants.{Listen, Connect, Unlisten, Pause, Resume, Finish, Close}
use Rattle.mux_history.specs.Policy.{Policy}
use Rattle.mux_history.specs.Log.{Setting}
use Rattle.mux_history.specs.Journal.{is_accepted, is_blocked, is_own_stream}
use Rattle.mux_history.specs.Promises.{has_failed, not_own}
use Rattle.mux_history.specs.Wires.{OfWire, is_connect}
use Rattle.mux_history.proofs.Wires.{wire-keeps}
use Rattle.mux_state.specs.State.{EngineState}
use Rattle.mux_state.proofs.Twins.{own-silent, stands-alike}
use Rattle.mux_engine.specs.Answers.{opens_after}
use Rattle.mux_engine.specs.Called.{calls_at}
use Rattle.mux_engine.specs.Orders.{HasOrdered, OrderMadeBy, failed_carried, held_carried, known_carried, makes, more_recorded, seen_carried, told_carried}
use Rattle.mux_engine.specs.Places.{listeners_ordered, own_ordered}
use Rattle.mux_engine.specs.Serving.{IsFreeForOwn, IsUnseen, IsUnused, Promised, Serving}
use Rattle.mux_engine.specs.Sides.{Resting, Side, ask_marks_in, all_marks_noted, noting}
use Rattle.mux_engine.proofs.Called.{CallsOn, calls-recorded}
use Rattle.mux_engine.proofs.Closed.{both-tests, was-among}
use Rattle.mux_engine.proofs.Cuts.{cut-here, serve-recorded}
use Rattle.mux_engine.proofs.Happened.{last-or}
use Rattle.mux_engine.proofs.Lists.{among-last, among-less, among-other-last, or-last, own-stream, test-other, true-false, without-other}
use Rattle.mux_engine.proofs.Marks.{Notes, Placed, rows-go-on}
use Rattle.mux_engine.proofs.Owns.{Owns, finish-numbers, less-numbers, owns-by, pause-numbers, streams-more}
use Rattle.mux_engine.proofs.Places.{placed-still}
use Rattle.mux_engine.proofs.Quiet.{serve-quiet}
use Rattle.mux_engine.proofs.Recorded.{records-none}
use Rattle.mux_engine.proofs.WireTurns.{client-number}

-- what is seen once it is noted
abbrev pub seen-noted : HouseMark → Seen → Seen
seen-noted m seen = record seen { recorded = option_map (λ (l : List Mark). l ++ House m ∷ []) seen.recorded }

-- the streams that an order closes are the master's own
abbrev pub OwnedBy : Order → Type 0
OwnedBy (Close k) = IsTrue (is_own k)
OwnedBy order = Unit {0}

-- a list without what is not in it
without-none : (k : ℕ) (xs : List ℕ) → among k xs ≡ false → without k xs ≡ xs
without-none k [] e = refl
without-none k (x ∷ xs) e = by_head (x == k) e (without-none k xs)
  where
    by_head : (b : Bool) → (b || among k xs) ≡ false → (among k xs ≡ false → without k xs ≡ xs) → cond (not b) (x ∷ without k xs) (without k xs) ≡ x ∷ xs
    by_head true e ih = true-false e
    by_head false e ih = ap (λ l. x ∷ l) (ih e)

not-among : (k : ℕ) (xs : List ℕ) → is_own k ≡ true → among k (not_own xs) ≡ false
not-among k [] own = refl
not-among k (x ∷ xs) own = by_own (is_own x) refl (not-among k xs own)
  where
    by_own : (b : Bool) → is_own x ≡ b → among k (not_own xs) ≡ false → among k (cond (not b) (x ∷ not_own xs) (not_own xs)) ≡ false
    by_own true e ih = ih
    by_own false e ih = ap (λ c. c || among k (not_own xs)) (test-other x k (λ q. true-false (sym own ∙ (ap is_own (sym q) ∙ e)))) ∙ ih

module _ {May : HouseReply → Type 0} {Rest : Resting} {before : Option (List HouseMark)} {now : Side} {policy : Policy} {pid : ℕ} {start : Option (List Mark)} {seen : Seen} {held failed : List ℕ} {given : ℕ} {todo : List ℕ} {s : EngineState}
    (v : Serving May Rest before now policy pid start seen held failed given todo s) where
  -- an order that makes no stream and closes none
  placed-plain : (order : Order) (number : Option ℕ) → is_connect (HouseOrder order number) ≡ false → (seen' : Seen) → seen'.streams ≡ seen.streams → seen'.blocked ≡ seen.blocked → seen'.last ≡ seen.last → seen'.last_own ≡ seen.last_own → seen'.listens ≡ seen.listens
      → ((t : ℕ) → is_blocked t (House (HouseOrder order number) ∷ v.journal) ≡ is_blocked t v.journal) → Owns v.journal seen' (House (HouseOrder order number)) → Placed s v.journal seen seen' held failed (House (HouseOrder order number))
  placed-plain order number plain seen' streams blocked last last_own listens never owns =
      placed-still v (House (HouseOrder order number)) seen' s
      (subst (λ (l : List ℕ). OfWire l seen'.blocked seen'.last (House (HouseOrder order number) ∷ v.journal)) (sym streams) (subst (λ (l : List ℕ). OfWire seen.streams l seen'.last (House (HouseOrder order number) ∷ v.journal)) (sym blocked) (subst (λ (n : ℕ). OfWire seen.streams seen.blocked n (House (HouseOrder order number) ∷ v.journal)) (sym last)
      ((wire-keeps seen v.journal).note (HouseOrder order number) tt plain v.of_wire))))
      streams blocked last last_own listens refl never (λ t. refl) (λ t. refl) owns

  -- an order changes nothing of which numbers are open, or as the wire does
  owns-order : (order : Order) (number : Option ℕ) (seen' : Seen) → seen'.own ≡ own_ordered order number seen.own → seen'.listeners ≡ listeners_ordered order number seen.listeners → filter is_own seen'.streams ≡ numbers_of seen'.own → Owns v.journal seen' (House (HouseOrder order number))
  owns-order order number seen' own listeners streams = owns-by v.journal seen seen' (House (HouseOrder order number)) v.places record { opened = tt; gives = tt; writes = tt; joins = tt; others = refl } own listeners streams

  later-free : (n j : ℕ) → IsNewOwn seen.last_own n → IsFreeForOwn n j → IsFreeForOwn seen.last_own j
  later-free n j new (inl free) = inl (free.0, let a : n < j = free.1 in let b : seen.last_own < n = new.above in omega arith)
  later-free n j new (inr house) = inr house

  -- a listener
  placed-listens : (host : List ℕ) (port n : ℕ) → IsNewOwn seen.last_own n → (let m : HouseMark = HouseOrder (Listen host port) (Some n) in Placed s v.journal seen (seen-noted m (seen_carried (Listen host port) (Some n) seen)) held failed (House m))
  placed-listens host port n new =
      let m : HouseMark = HouseOrder (Listen host port) (Some n) in
      let seen' : Seen = seen-noted m (seen_carried (Listen host port) (Some n) seen) in
      let u : (j : ℕ) → IsFreeForOwn n j → IsUnused v.journal seen j = λ j free. v.unused j (later-free n j new free) in
      record {
        of_wire = (wire-keeps seen v.journal).note m tt refl v.of_wire;
        open_are = v.open_are;
        apart = v.apart;
        held_is = v.held_is;
        blocked_is = v.blocked_is;
        unseen = λ j lt le. let w : IsUnseen v.journal seen.blocked j = v.unseen j lt le in record { not_accepted = w.not_accepted; never_blocked = w.never_blocked; not_blocked = w.not_blocked };
        unused = λ j free. record { not_open = (u j free).not_open; never_blocked = (u j free).never_blocked; not_blocked = (u j free).not_blocked; never_failed = (u j free).never_failed };
        failed_are = v.failed_are;
        failed_did = v.failed_did;
        listens = λ l. l;
        owns = owns-order (Listen host port) (Some n) seen' refl refl v.places.streams;
      }

  made-apart : (n j : ℕ) → IsNewOwn seen.last_own n → IsFreeForOwn n j → n ≢ j
  made-apart n j new (inl free) e = let a : n < j = free.1 in absurd (omega (arith, a, e))
  made-apart n j new (inr house) e = let a : n ≤ LAST_OWN = new.at_most in absurd (omega (arith, a, e, house))

  new-own : (n : ℕ) → IsNewOwn seen.last_own n → is_own_stream n ≡ true
  new-own n new = own-stream n new.own (λ e. let a : n ≤ LAST_OWN = new.at_most in absurd (omega (arith, a, e)))

  connects-other : (host : List ℕ) (port n t : ℕ) → n ≢ t → is_blocked t (House (HouseOrder (Connect host port) (Some n)) ∷ v.journal) ≡ is_blocked t v.journal
  connects-other host port n t ne = ap (λ b. elim b as (λ _. Bool) [ true ↦ true | false ↦ is_blocked t v.journal ]) (test-other n t ne)

  -- a stream, which is blocked
  placed-connects : (host : List ℕ) (port n : ℕ) → IsNewOwn seen.last_own n → (let m : HouseMark = HouseOrder (Connect host port) (Some n) in Placed s v.journal seen (seen-noted m (seen_carried (Connect host port) (Some n) seen)) (held ++ n ∷ []) failed (House m))
  placed-connects host port n new =
      let m : HouseMark = HouseOrder (Connect host port) (Some n) in
      let fresh : IsUnused v.journal seen n = v.unused n (inl (new.own, new.above)) in
      record {
        of_wire = (wire-keeps seen v.journal).connect host port n (new-own n new) v.of_wire;
        open_are = filter-append (λ (t : ℕ). not (is_own t)) seen.streams (n ∷ []) ∙ (ap (λ b. not_own seen.streams ++ cond (not b) (n ∷ []) []) new.own ∙ (append-nil (not_own seen.streams) ∙ v.open_are));
        apart = v.apart;
        held_is = ap (λ l. l ++ n ∷ []) v.held_is;
        blocked_is = λ t a. elim (eqb_tells n t) [
          | inl q ↦ among-last n t seen.blocked ∙ (ap (λ b. among t seen.blocked || (b || false)) q.0 ∙ (or-last (among t seen.blocked) ∙ sym (ap (λ b. elim b as (λ _. Bool) [ true ↦ true | false ↦ is_blocked t v.journal ]) q.0)))
          | inr q ↦ among-other-last n t seen.blocked q.1 ∙ (v.blocked_is t (last-or n t seen.streams a q.1) ∙ sym (connects-other host port n t q.1))
        ];
        unseen = λ j lt le. let w : IsUnseen v.journal seen.blocked j = v.unseen j lt le in let ne : n ≢ j = below n j le new in
            record { not_accepted = w.not_accepted; never_blocked = connects-other host port n j ne ∙ w.never_blocked; not_blocked = among-other-last n j seen.blocked ne ∙ w.not_blocked };
        unused = λ j free. let w : IsUnused v.journal seen j = v.unused j (later-free n j new free) in let ne : n ≢ j = made-apart n j new free in
            record { not_open = among-other-last n j seen.streams ne ∙ w.not_open; never_blocked = connects-other host port n j ne ∙ w.never_blocked; not_blocked = among-other-last n j seen.blocked ne ∙ w.not_blocked; never_failed = w.never_failed };
        failed_are = λ t own a f. elim (eqb_tells n t) [
          | inl q ↦ true-false (sym f ∙ subst (λ (i : ℕ). has_failed i v.journal ≡ false) q.1 fresh.never_failed)
          | inr q ↦ v.failed_are t own (last-or n t seen.streams a q.1) f
        ];
        failed_did = v.failed_did;
        listens = λ l. l;
        owns = owns-order (Connect host port) (Some n) (seen-noted m (seen_carried (Connect host port) (Some n) seen)) refl refl (streams-more seen v.journal n v.places new.own);
      }
    where
      below : (n j : ℕ) → j ≤ LAST_CLIENT → IsNewOwn seen.last_own n → n ≢ j
      below n j le new e = true-false (sym new.own ∙ (ap is_own e ∙ client-number j le))

  -- a stream is closed
  placed-closes : (k : ℕ) → IsTrue (is_own k) → (let m : HouseMark = HouseOrder (Close k) None in Placed s v.journal seen (seen-noted m (seen_carried (Close k) None seen)) (without k held) (without k failed) (House m))
  placed-closes k own =
      let m : HouseMark = HouseOrder (Close k) None in
      let keeps = wire-keeps seen v.journal in
      record {
        of_wire = (wire-keeps (seen_after_close k seen) v.journal).note m tt refl (keeps.close k v.of_wire);
        open_are = both-tests (λ i. not (is_own i)) (λ i. not (i == k)) seen.streams ∙ (without-none k (not_own seen.streams) (not-among k seen.streams own) ∙ v.open_are);
        apart = v.apart;
        held_is = ap (without k) v.held_is;
        blocked_is = λ t a. let w = was-among k t seen.streams a in without-other k t seen.blocked w.1 ∙ v.blocked_is t w.0;
        unseen = λ j lt le. let u : IsUnseen v.journal seen.blocked j = v.unseen j lt le in record { not_accepted = u.not_accepted; never_blocked = u.never_blocked; not_blocked = among-less k j seen.blocked u.not_blocked };
        unused = λ j free. let u : IsUnused v.journal seen j = v.unused j free in record { not_open = among-less k j seen.streams u.not_open; never_blocked = u.never_blocked; not_blocked = among-less k j seen.blocked u.not_blocked; never_failed = u.never_failed };
        failed_are = λ t is a f. let w = was-among k t seen.streams a in without-other k t failed w.1 ∙ v.failed_are t is w.0 f;
        failed_did = λ t a. v.failed_did t (was-among k t failed a).0;
        listens = λ l. l;
        owns = owns-order (Close k) None (seen-noted m (seen_carried (Close k) None seen)) refl refl (both-tests is_own (λ i. not (i == k)) seen.streams ∙ (ap (without k) v.places.streams ∙ less-numbers k seen.own));
      }

  -- where it is noted
  noted-order : now.let_in ≡ true → s.ended ≡ None → (order : Order) (number : Option ℕ) (now' : Side) (seen' : Seen) (held' failed' : List ℕ) → ((t : ℕ) → is_own_stream t ≡ false → is_blocked t (House (HouseOrder order number) ∷ v.journal) ≡ is_blocked t v.journal) → Notes now now' (House (HouseOrder order number)) [] → ((set : Setting) → CallsOn now now' (calls_at set v.journal (House (HouseOrder order number)))) → now'.asks ≡ now.asks → now'.let_in ≡ now.let_in
      → seen'.recorded ≡ option_map (λ m. m ++ House (HouseOrder order number) ∷ []) seen.recorded → Placed s v.journal seen seen' held' failed' (House (HouseOrder order number)) → Serving May Rest before now' policy pid start seen' held' failed' (given + 1) todo s
  noted-order inside live order number now' seen' held' failed' blocked notes called asks within recorded placed =
      let mark : Mark = House (HouseOrder order number) in
      let alike = own-silent.ordered v.journal order number in
      serve-quiet v now' seen' held' failed' (given + 1) mark
      (record { log = alike.log; blocked = blocked; unwritten = λ t client. refl; promise = λ picks later. record { takes = tt; waits = tt; speaks = tt; open_streams = tt; answers = tt; after_end = rows-go-on v live picks later; silence = tt }; rested = λ set. tt; absent = λ e. true-false (sym (v.house_there inside) ∙ e); house = refl })
      (stands-alike v.journal (mark ∷ v.journal) v.picked v.replies s v.closed alike v.stands) notes called asks within recorded (ap (λ n. n + 1) v.turns) placed

  abbrev done-side : Order → Option ℕ → Option (List HouseMark) → Side
  done-side order number recorded' = record now { recorded = recorded'; unnoted = []; calls = now.calls ++ calls_of (more_recorded order number) }

  notes-of : (order : Order) (number : Option ℕ) (recorded' : Option (List HouseMark)) → now.unnoted ≡ order_marks (Some order) → recorded' ≡ option_map (λ l. l ++ more_recorded order number) now.recorded → order_marks (Some order) ++ more_recorded order number ≡ HouseOrder order number ∷ [] → ask_marks_in (more_recorded order number) ≡ [] → now.asks ≡ opens_after (more_recorded order number) now.asks → Notes now (done-side order number recorded') (House (HouseOrder order number)) []
  notes-of order number recorded' all_marks_noted e same none opens = record {
    more = more_recorded order number;
    recorded_is = e;
    noted_is = sym (ap (λ l. l ++ more_recorded order number) all_marks_noted ∙ same);
    asks_are = none;
    opens_are = opens;
  }

  called-of : (order : Order) (number : Option ℕ) (recorded' : Option (List HouseMark)) → now.unnoted ≡ order_marks (Some order) → order_marks (Some order) ++ more_recorded order number ≡ HouseOrder order number ∷ [] → (set : Setting) → CallsOn now (done-side order number recorded') (calls_at set v.journal (House (HouseOrder order number)))
  called-of order number recorded' all_marks_noted same set = calls-recorded now (done-side order number recorded') (HouseOrder order number ∷ []) (more_recorded order number) (sym (ap (λ l. l ++ more_recorded order number) all_marks_noted ∙ same)) refl

  -- all of it
  pub order-done : now.let_in ≡ true → s.ended ≡ None → (order : Order) (number : Option ℕ) (recorded' : Option (List HouseMark)) → OrderMadeBy order number seen → OwnedBy order → now.unnoted ≡ order_marks (Some order) → recorded' ≡ option_map (λ l. l ++ more_recorded order number) now.recorded
      → Serving May Rest before (done-side order number recorded') policy pid start (seen-noted (HouseOrder order number) (seen_carried order number seen)) (held_carried order number held) (failed_carried order failed) (given + 1) todo s
  order-done inside live (Listen host port) (Some n) recorded' made own all_marks_noted e = noted-order inside live (Listen host port) (Some n) (done-side (Listen host port) (Some n) recorded') _ _ _ (λ t client. refl) (notes-of (Listen host port) (Some n) recorded' all_marks_noted e refl refl refl) (called-of (Listen host port) (Some n) recorded' all_marks_noted refl) refl refl refl (placed-listens host port n made)
  order-done inside live (Listen host port) None recorded' made own all_marks_noted e = noted-order inside live (Listen host port) None (done-side (Listen host port) None recorded') _ _ _ (λ t client. refl) (notes-of (Listen host port) None recorded' all_marks_noted e refl refl refl) (called-of (Listen host port) None recorded' all_marks_noted refl) refl refl refl (placed-plain (Listen host port) None refl _ refl refl refl refl refl (λ t. refl) (owns-order (Listen host port) None _ refl refl v.places.streams))
  order-done inside live (Connect host port) (Some n) recorded' made own all_marks_noted e = noted-order inside live (Connect host port) (Some n) (done-side (Connect host port) (Some n) recorded') _ _ _ (λ t client. connects-other host port n t (λ q. true-false (sym (new-own n made) ∙ (ap is_own_stream q ∙ client)))) (notes-of (Connect host port) (Some n) recorded' all_marks_noted e refl refl refl) (called-of (Connect host port) (Some n) recorded' all_marks_noted refl) refl refl refl (placed-connects host port n made)
  order-done inside live (Connect host port) None recorded' made own all_marks_noted e = noted-order inside live (Connect host port) None (done-side (Connect host port) None recorded') _ _ _ (λ t client. refl) (notes-of (Connect host port) None recorded' all_marks_noted e refl refl refl) (called-of (Connect host port) None recorded' all_marks_noted refl) refl refl refl (placed-plain (Connect host port) None refl _ refl refl refl refl refl (λ t. refl) (owns-order (Connect host port) None _ refl refl v.places.streams))
  order-done inside live (Unlisten l) None recorded' made own all_marks_noted e = noted-order inside live (Unlisten l) None (done-side (Unlisten l) None recorded') _ _ _ (λ t client. refl) (notes-of (Unlisten l) None recorded' all_marks_noted e refl refl refl) (called-of (Unlisten l) None recorded' all_marks_noted refl) refl refl refl (placed-plain (Unlisten l) None refl _ refl refl refl refl refl (λ t. refl) (owns-order (Unlisten l) None _ refl refl v.places.streams))
  order-done inside live (Pause k) None recorded' made own all_marks_noted e = noted-order inside live (Pause k) None (done-side (Pause k) None recorded') _ _ _ (λ t client. refl) (notes-of (Pause k) None recorded' all_marks_noted e refl refl refl) (called-of (Pause k) None recorded' all_marks_noted refl) refl refl refl (placed-plain (Pause k) None refl _ refl refl refl refl refl (λ t. refl) (owns-order (Pause k) None _ refl refl (v.places.streams ∙ sym (pause-numbers true k seen.own))))
  order-done inside live (Resume k) None recorded' made own all_marks_noted e = noted-order inside live (Resume k) None (done-side (Resume k) None recorded') _ _ _ (λ t client. refl) (notes-of (Resume k) None recorded' all_marks_noted e refl refl refl) (called-of (Resume k) None recorded' all_marks_noted refl) refl refl refl (placed-plain (Resume k) None refl _ refl refl refl refl refl (λ t. refl) (owns-order (Resume k) None _ refl refl (v.places.streams ∙ sym (pause-numbers false k seen.own))))
  order-done inside live (Finish k) None recorded' made own all_marks_noted e = noted-order inside live (Finish k) None (done-side (Finish k) None recorded') _ _ _ (λ t client. refl) (notes-of (Finish k) None recorded' all_marks_noted e refl refl refl) (called-of (Finish k) None recorded' all_marks_noted refl) refl refl refl (placed-plain (Finish k) None refl _ refl refl refl refl refl (λ t. refl) (owns-order (Finish k) None _ refl refl (v.places.streams ∙ sym (finish-numbers k seen.own))))
  order-done inside live (Close k) None recorded' made own all_marks_noted e = noted-order inside live (Close k) None (done-side (Close k) None recorded') _ _ _ (λ t client. refl) (notes-of (Close k) None recorded' all_marks_noted e refl refl refl) (called-of (Close k) None recorded' all_marks_noted refl) refl refl refl (placed-closes k own)
  order-done inside live (Unlisten l) (Some n) recorded' made own all_marks_noted e = absurd (let z : Some n ≡ None = made in cc)
  order-done inside live (Pause k) (Some n) recorded' made own all_marks_noted e = absurd (let z : Some n ≡ None = made in cc)
  order-done inside live (Resume k) (Some n) recorded' made own all_marks_noted e = absurd (let z : Some n ≡ None = made in cc)
  order-done inside live (Finish k) (Some n) recorded' made own all_marks_noted e = absurd (let z : Some n ≡ None = made in cc)
  order-done inside live (Close k) (Some n) recorded' made own all_marks_noted e = absurd (let z : Some n ≡ None = made in cc)

  -- an order is no request
  no-asks : (order : Order) (number : Option ℕ) → ask_marks_in (more_recorded order number) ≡ []
  no-asks (Listen host port) number = refl
  no-asks (Connect host port) number = refl
  no-asks (Unlisten l) number = refl
  no-asks (Pause t) number = refl
  no-asks (Resume t) number = refl
  no-asks (Finish t) number = refl
  no-asks (Close t) number = refl

  -- whether or not there is memory to note it
  pub order-noted : {E : Type 0} (r : Result (Unit {0}) E) (order : Order) (number : Option ℕ) (side : Side) (seen0 seen' : Seen) (held' failed' : List ℕ) → now.let_in ≡ true → s.ended ≡ None → OrderMadeBy order number seen → OwnedBy order → now.unnoted ≡ order_marks (Some order)
      → side.recorded ≡ option_map (λ l. l ++ more_recorded order number) now.recorded → side.asks ≡ now.asks → side.unnoted ≡ [] → side.let_in ≡ now.let_in → side.calls ≡ now.calls ++ calls_of (more_recorded order number) → seen0 ≡ seen_carried order number seen → seen0.recorded ≡ seen.recorded → seen' ≡ seen_after_note r (HouseOrder order number) seen0 → held' ≡ held_carried order number held → failed' ≡ failed_carried order failed
      → MatchResult r (λ x. Serving May Rest before side policy pid start seen' held' failed' (given + 1) todo s) (λ e. Promised May Rest before side.recorded policy pid start seen'.recorded (given + 1))
  order-noted (Ok x) order number side seen0 seen' held' failed' inside live made own all_marks_noted recorded asks unnoted within called carried same after held_is failed_is =
      let done : Serving May Rest before (done-side order number side.recorded) policy pid start (seen-noted (HouseOrder order number) (seen_carried order number seen)) (held_carried order number held) (failed_carried order failed) (given + 1) todo s = order-done inside live order number side.recorded made own all_marks_noted recorded in
      let at : Serving May Rest before side policy pid start (seen-noted (HouseOrder order number) (seen_carried order number seen)) (held_carried order number held) (failed_carried order failed) (given + 1) todo s =
      subst (λ (l : List OpenAsk). Serving May Rest before (record side { asks = l }) policy pid start (seen-noted (HouseOrder order number) (seen_carried order number seen)) (held_carried order number held) (failed_carried order failed) (given + 1) todo s) (sym asks)
      (subst (λ (l : List HouseMark). Serving May Rest before (record side { asks = now.asks; unnoted = l }) policy pid start (seen-noted (HouseOrder order number) (seen_carried order number seen)) (held_carried order number held) (failed_carried order failed) (given + 1) todo s) (sym unnoted)
      (subst (λ (b : Bool). Serving May Rest before (record side { asks = now.asks; unnoted = []; let_in = b }) policy pid start (seen-noted (HouseOrder order number) (seen_carried order number seen)) (held_carried order number held) (failed_carried order failed) (given + 1) todo s) (sym within)
      (subst (λ (c : List HouseCall). Serving May Rest before (record side { asks = now.asks; unnoted = []; let_in = now.let_in; calls = c }) policy pid start (seen-noted (HouseOrder order number) (seen_carried order number seen)) (held_carried order number held) (failed_carried order failed) (given + 1) todo s) (sym called) done))) in
      subst (λ (l : List ℕ). Serving May Rest before side policy pid start seen' l failed' (given + 1) todo s) (sym held_is)
      (subst (λ (l : List ℕ). Serving May Rest before side policy pid start seen' (held_carried order number held) l (given + 1) todo s) (sym failed_is)
      (subst (λ (x : Seen). Serving May Rest before side policy pid start x (held_carried order number held) (failed_carried order failed) (given + 1) todo s) (sym (after ∙ ap (λ (x : Seen). seen-noted (HouseOrder order number) x) carried)) at))
  order-noted (Err e) order number side seen0 seen' held' failed' inside live made own all_marks_noted recorded asks unnoted within called carried same after held_is failed_is =
      cut-here v side.recorded seen'.recorded (given + 1) (more_recorded order number) (ap (λ (x : Seen). x.recorded) after ∙ same) recorded (no-asks order number) (omega arith)

-- ---- where it makes something

-- the order is recorded as it is carried out
pub recorded-noted : (order : Order) (number : Option ℕ) (seen : Seen) → makes order ≡ true → told_carried order number seen ≡ seen_after_note {E = Unit {0}} (Ok tt) (HouseOrder order number) seen
recorded-noted (Listen host port) number seen e = refl
recorded-noted (Connect host port) number seen e = refl
recorded-noted (Unlisten l) number seen e = cc
recorded-noted (Pause k) number seen e = cc
recorded-noted (Resume k) number seen e = cc
recorded-noted (Finish k) number seen e = cc
recorded-noted (Close k) number seen e = cc

-- or it may be noted after
pub recorded-later : (order : Order) (number : Option ℕ) (seen : Seen) → makes order ≡ false → told_carried order number seen ≡ seen
recorded-later (Listen host port) number seen e = cc
recorded-later (Connect host port) number seen e = cc
recorded-later (Unlisten l) number seen e = refl
recorded-later (Pause k) number seen e = refl
recorded-later (Resume k) number seen e = refl
recorded-later (Finish k) number seen e = refl
recorded-later (Close k) number seen e = refl

pub may-note : (order : Order) (number : Option ℕ) → makes order ≡ false → MayNote (HouseOrder order number)
may-note (Listen host port) number e = cc
may-note (Connect host port) number e = cc
may-note (Unlisten l) number e = tt
may-note (Pause k) number e = tt
may-note (Resume k) number e = tt
may-note (Finish k) number e = tt
may-note (Close k) number e = tt

-- ---- what is known of the forwarder then

pub carried-recorded : (order : Order) (number : Option ℕ) (seen : Seen) → (seen_carried order number seen).recorded ≡ seen.recorded
carried-recorded (Listen host port) (Some n) seen = refl
carried-recorded (Listen host port) None seen = refl
carried-recorded (Connect host port) (Some n) seen = refl
carried-recorded (Connect host port) None seen = refl
carried-recorded (Unlisten l) number seen = refl
carried-recorded (Pause k) number seen = refl
carried-recorded (Resume k) number seen = refl
carried-recorded (Finish k) number seen = refl
carried-recorded (Close k) number seen = refl

-- it was made and recorded, and there was no memory to keep it
pub order-lost : {May : HouseReply → Type 0} {Rest : Resting} {before : Option (List HouseMark)} {now : Side} {policy : Policy} {pid : ℕ} {start : Option (List Mark)} {seen : Seen} {held failed : List ℕ} {given : ℕ} {todo : List ℕ} {s : EngineState} (v : Serving May Rest before now policy pid start seen held failed given todo s)
    → now.let_in ≡ true → s.ended ≡ None → (order : Order) (n : ℕ) (recorded' : Option (List HouseMark)) (marks' : Option (List Mark)) → OrderMadeBy order (Some n) seen → OwnedBy order → now.unnoted ≡ order_marks (Some order) → recorded' ≡ option_map (λ l. l ++ more_recorded order (Some n)) now.recorded → marks' ≡ option_map (λ m. m ++ House (HouseOrder order (Some n)) ∷ []) seen.recorded → Promised May Rest before recorded' policy pid start marks' (given + 1)
order-lost {seen = seen} {given = given} v inside live order n recorded' marks' made own all_marks_noted recorded e =
    cut-here (order-done v inside live order (Some n) recorded' made own all_marks_noted recorded) recorded' marks' (given + 1) []
    (e ∙ ap (λ (t : Option (List Mark)). option_map (λ (m : List Mark). m ++ House (HouseOrder order (Some n)) ∷ []) t) (sym (carried-recorded order (Some n) seen))) (records-none recorded') refl (omega arith)

-- its requests and whether it is there stay
pub record SameSide (old new : Known) : Type 0 where
  pub asks : new.asks ≡ old.asks
  pub present : new.present ≡ old.present

carried-side : (order : Order) (number : Option ℕ) (before : Known) → SameSide (known_after_order (Some order) before) (known_carried order number (known_after_order (Some order) before))
carried-side (Listen host port) (Some n) before = record { asks = refl; present = refl }
carried-side (Listen host port) None before = record { asks = refl; present = refl }
carried-side (Connect host port) (Some n) before = record { asks = refl; present = refl }
carried-side (Connect host port) None before = record { asks = refl; present = refl }
carried-side (Unlisten l) number before = record { asks = refl; present = refl }
carried-side (Pause k) number before = record { asks = refl; present = refl }
carried-side (Resume k) number before = record { asks = refl; present = refl }
carried-side (Finish k) number before = record { asks = refl; present = refl }
carried-side (Close k) number before = record { asks = refl; present = refl }

pub side-carried : (order : Order) (number : Option ℕ) (known known' : Known) (seen : Seen) (own : List ℕ) → HasOrdered order known seen own → known' ≡ known_carried order number known → SameSide known known'
side-carried order number known known' seen own h e =
    subst (λ (k : Known). SameSide k known') (sym h.known_is)
    (subst (λ (k : Known). SameSide (known_after_order (Some order) h.before) k) (sym (e ∙ ap (known_carried order number) h.known_is)) (carried-side order number h.before))

pub closes-own : (order : Order) (known : Known) (seen : Seen) (own : List ℕ) → HasOrdered order known seen own → OwnedBy order
closes-own (Close k) known seen own h = h.housed.places.numbered k (subst (λ (l : List OwnStream). IsTrue (is_one k l)) h.housed.streams h.fits)
closes-own (Listen host port) known seen own h = tt
closes-own (Connect host port) known seen own h = tt
closes-own (Unlisten l) known seen own h = tt
closes-own (Pause k) known seen own h = tt
closes-own (Resume k) known seen own h = tt
closes-own (Finish k) known seen own h = tt

-- ---- an order that was just given

order-unasked : (order : Order) → ask_marks_in (order_marks (Some order)) ≡ []
order-unasked (Listen host port) = refl
order-unasked (Connect host port) = refl
order-unasked (Unlisten l) = refl
order-unasked (Pause k) = refl
order-unasked (Resume k) = refl
order-unasked (Finish k) = refl
order-unasked (Close k) = refl

-- it opens no request
order-opens : (order : Order) (asks : List OpenAsk) → opens_after (order_marks (Some order)) asks ≡ asks
order-opens (Listen host port) asks = refl
order-opens (Connect host port) asks = refl
order-opens (Unlisten l) asks = refl
order-opens (Pause k) asks = refl
order-opens (Resume k) asks = refl
order-opens (Finish k) asks = refl
order-opens (Close k) asks = refl

order-side : (order : Order) (known : Known) → SameSide known (known_after_order (Some order) known)
order-side (Listen host port) known = record { asks = refl; present = refl }
order-side (Connect host port) known = record { asks = refl; present = refl }
order-side (Unlisten l) known = record { asks = refl; present = refl }
order-side (Pause k) known = record { asks = refl; present = refl }
order-side (Resume k) known = record { asks = refl; present = refl }
order-side (Finish k) known = record { asks = refl; present = refl }
order-side (Close k) known = record { asks = refl; present = refl }

pub given-side : (order : Order) (known known' : Known) → known' ≡ known_after_order (Some order) known → SameSide known known'
given-side order known known' e = subst (SameSide known) (sym e) (order-side order known)

pub order-given : {May : HouseReply → Type 0} {Rest : Resting} {before : Option (List HouseMark)} {policy : Policy} {pid : ℕ} {start : Option (List Mark)} {seen : Seen} {held failed : List ℕ} {given : ℕ} {todo : List ℕ} {s : EngineState} {calls : List HouseCall} (order : Order) (recorded recorded' : Option (List HouseMark)) (known known' : Known)
    → recorded' ≡ option_map (λ l. l ++ order_marks (Some order)) recorded → known' ≡ known_after_order (Some order) known → Serving May Rest before (all_marks_noted recorded known calls) policy pid start seen held failed given todo s → Serving May Rest before (noting (order_marks (Some order)) recorded' known' (calls ++ calls_of (order_marks (Some order)))) policy pid start seen held failed given todo s
order-given {calls = calls} order recorded recorded' known known' e f v = let side = given-side order known known' f in
    serve-recorded v (noting (order_marks (Some order)) recorded' known' (calls ++ calls_of (order_marks (Some order)))) (order_marks (Some order)) e refl (order-unasked order) (subst (λ (l : List OpenAsk). All (λ (a : OpenAsk). IsTrue (is_accepted a.client v.journal)) l) (sym side.asks) v.askers) (side.asks ∙ sym (order-opens order known.asks)) side.present refl
