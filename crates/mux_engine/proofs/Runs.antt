-- The start and the end of a run.
use Rattle.std.proofs.Common.{◌≡◌, ◌≢◌, ◌≤◌, ℕ, Bool, true, false, List, [], ◌∷◌, ◌++◌, length, Option, refl, sym, ap, ◌∙◌, subst, inl, inr, ◌||◌, arith, append-nil}
use Rattle.std.specs.List.{list_any}
use Rattle.std.specs.Prelude.{◌==◌, filter, All, IsTrue}
use Rattle.std.proofs.lemmas.List.Elements.{All-nil}
use Rattle.mux_outside.specs.House.{HouseState, OpenAsk}
use Rattle.mux_outside.specs.HouseCalls.{HandsOn, HouseCall, calls_of}
use Rattle.mux_outside.specs.OwnStreams.{is_one, is_own, numbers_of}
use Rattle.mux_outside.specs.Seen.{Seen}
use Rattle.mux_outside.specs.Streams.{among}
use Rattle.mux_outside.specs.declared.mark.Mark.{Mark}
use Rattle.mux_outside.specs.declared.house.HouseReply.{HouseReply}
use Rattle.mux_outside.specs.declared.house_mark.HouseMark.{HouseMark}
use Rattle.mux_history.specs.declared.ended.Ended.{Ended}
use Rattle.mux_history.specs.declared.ended.Ended.TheVariants as ended
use Rattle.mux_history.specs.Policy.{Policy}
use Rattle.mux_history.specs.Rows.{Row}
use Rattle.mux_history.specs.Choices.{numbers_taken, replies_given}
use Rattle.mux_history.specs.Pending.{pending, pending_up, pending_down}
use Rattle.mux_history.specs.Log.{Setting}
use Rattle.mux_history.specs.Settings.{by_lists}
use Rattle.mux_history.specs.Solo.{run_end_of}
use Rattle.mux_history.specs.Right.{AreFresh}
use Rattle.mux_history.specs.Journal.{Records, log_of_journal}
use Rattle.mux_history.specs.Promises.{EndsAs, MayGive, not_own, turns_in}
use Rattle.mux_history.specs.Wires.{OfWire}
use Rattle.mux_history.proofs.Wires.{wire-keeps}
use Rattle.mux_bounds.specs.Bounds.{IsLog}
use Rattle.mux_peers.specs.Asked.{asks_of_rows, RecordsAsks}
use Rattle.mux_state.specs.State.{EngineState, numbers}
use Rattle.mux_state.specs.Events.{here}
use Rattle.mux_state.specs.Stands.{RepresentsSoFar, EngineRepresents, log}
use Rattle.mux_engine.specs.Answers.{opens_after}
use Rattle.mux_engine.specs.Called.{calls_in}
use Rattle.mux_engine.specs.Owned.{IsOwnOffered}
use Rattle.mux_engine.specs.Places.{HasPlaces, KeepsOwn, own_in}
use Rattle.mux_engine.specs.Run.{AsksOn, EndsRight, IsOfWire, IsOwnSettled, IsRun, KeepsMarks, Rested, is_by_house}
use Rattle.mux_engine.specs.Serving.{IsFreeForOwn, IsRunSound, Promised, Serving}
use Rattle.mux_engine.specs.Sides.{AtWaits, Resting, Side, ask_marks_in, house_marks}
use Rattle.mux_engine.proofs.Cuts.{on-here}
use Rattle.mux_engine.proofs.Keeps.{keeps-rows, rests-short}
use Rattle.mux_engine.proofs.Lists.{not-own-stream, test-other, true-false}
use Rattle.mux_engine.proofs.Marks.{log-is}
use Rattle.mux_engine.proofs.Owns.{one-open}
use Rattle.mux_engine.proofs.Recorded.{records-none, recorded-none}
use Rattle.mux_engine.proofs.Unshared.{takes-unshared}
use Rattle.mux_engine.proofs.Waits.{handed-all}

-- ---- what nothing leaves

nothing-pending : (t : ℕ) → pending t [] ≡ []
nothing-pending t = by_server (t == 0)
  where
    by_server : (b : Bool) → elim b as (λ _. List ℕ) [ true ↦ pending_up [] | false ↦ pending_down [] ] ≡ []
    by_server true = refl
    by_server false = refl

-- ---- the end

-- the same requests of choices and rows that are the same
on-again : {May : HouseReply → Type 0} {policy : Policy} {pid : ℕ} {picks picks' : List ℕ} {replies replies' : List HouseReply} {journal : List Mark} {asks asks' more : List HouseMark} → picks ≡ picks' → replies ≡ replies' → asks ≡ asks' → AsksOn May policy pid picks replies journal asks more → AsksOn May policy pid picks' replies' journal asks' more
on-again {May} {policy} {pid} {picks} {picks'} {replies} {replies'} {journal} {asks} {asks'} {more} e f g h =
    subst (λ (l : List ℕ). AsksOn May policy pid l replies' journal asks' more) e
    (subst (λ (l : List HouseReply). AsksOn May policy pid picks l journal asks' more) f
    (subst (λ (l : List HouseMark). AsksOn May policy pid picks replies journal l more) g h))

-- all of a run whose rows are known
run-of : (May : HouseReply → Type 0) (Rest : AtWaits) (stands : List HouseCall → Type 0) (last : HouseState) (present : Bool) (before now : Option (List HouseMark)) (policy : Policy) (pid turns : ℕ) (start : Option (List Mark)) (seen : Seen) (refused : Option ℕ) (journal : List Mark) (picks : List ℕ) (replies : List HouseReply) (answer : Ended)
    → IsOfWire journal → KeepsOwn journal → MayGive May replies → Records start seen.recorded journal → turns_in journal ≤ turns
    → (rows : List Row)
    → KeepsMarks (by_lists policy pid picks replies) journal
    → IsLog (by_lists policy pid picks replies) journal rows
    → AreFresh rows → numbers_taken rows ≡ length picks → replies_given rows ≡ length replies
    → (more more_asks : List HouseMark) → RecordsAsks before now (house_marks journal ++ more) → ask_marks_in (house_marks journal ++ more) ≡ asks_of_rows rows ++ more_asks → AsksOn May policy pid picks replies journal (asks_of_rows rows) more_asks → Rested Rest (by_lists policy pid picks replies) before journal → (present ≡ false → All (λ (mark : Mark). is_by_house mark ≡ false) journal)
    → (answer ≢ ended.OutOfMemory → rows ≡ log_of_journal (by_lists policy pid picks replies) journal)
    → (answer ≢ ended.OutOfMemory → RecordsAsks before now (house_marks journal))
    → (answer ≢ ended.OutOfMemory → ask_marks_in (house_marks journal) ≡ asks_of_rows rows)
    → (answer ≢ ended.OutOfMemory → HandsOn stands last.stands (calls_in (by_lists policy pid picks replies) journal))
    → (answer ≢ ended.OutOfMemory → HasPlaces seen journal)
    → (answer ≢ ended.OutOfMemory → EndsRight (by_lists policy pid picks replies) turns last.queue journal refused answer)
    → IsRun May Rest stands last present policy pid turns before now start seen refused answer
run-of May Rest stands last present before now policy pid turns start seen refused journal picks replies answer wire own_streams may records given rows kept is fresh numbers answers more more_asks house asked asks_on rested absent whole house_whole asks_whole handed places ends = record {
  choices = record { picks = picks; replies = replies; may = may };
  wire = record {
    journal = journal;
    records = records;
    of_wire = wire;
    turns_given = given;
    rests = rests-short journal;
    own_streams = own_streams;
    places = places;
  };
  marks = kept;
  log = record {
    rows = rows;
    is_log = is;
    whole = whole;
    fresh = fresh;
    numbers = numbers;
    answers = answers;
    keeps = λ others is_too others_fresh. keeps-rows policy pid picks replies journal others wire kept.written.waits kept.written.speaks is_too others_fresh;
    alone = takes-unshared policy pid picks replies journal rows wire.lawful kept.written.takes is fresh;
  };
  forwarder = record {
    more = more;
    more_asks = more_asks;
    house = house;
    asked = asked;
    asks_on = asks_on;
    house_whole = house_whole;
    asks_whole = asks_whole;
    handed = handed;
    rested = rested;
    absent = absent;
  };
  ends = ends;
}

-- a stream of the master's own that was offered what waits for it is settled
own-settled : {May : HouseReply → Type 0} {Rest : Resting} {before : Option (List HouseMark)} {now : Side} {policy : Policy} {pid : ℕ} {start : Option (List Mark)} {seen : Seen} {held failed : List ℕ} {given : ℕ} {todo : List ℕ} {s : EngineState} (v : Serving May Rest before now policy pid start seen held failed given todo s) (queue : ℕ → List ℕ)
    → ((t : ℕ) → is_one t seen.own ≡ true → IsOwnOffered (queue t) held failed t) → (t : ℕ) → IsTrue (is_one t (own_in v.journal)) → IsOwnSettled queue v.journal t
own-settled {seen = seen} v queue offered t one =
    let is : is_one t seen.own ≡ true = ap (is_one t) v.places.own ∙ one in
    elim (offered t is) [
      | inl none ↦ inl none
      | inr r ↦ elim r [
        | inl h ↦ inr (inl (sym (v.blocked_is t (one-open seen v.journal v.places t is)) ∙ (ap (among t) (sym v.held_is) ∙ h)))
        | inr f ↦ inr (inr (v.failed_did t f))
      ]
    ]

module _ (May : HouseReply → Type 0) (Rest : Resting) (stands : List HouseCall → Type 0) (last : HouseState) (before : Option (List HouseMark)) (policy : Policy) (pid turns : ℕ) (start : Option (List Mark)) (refused : Option ℕ) where
  -- each stream was offered what waits for it, and the run ends so
  pub ends-run : (now : Side) (seen : Seen) (held failed : List ℕ) (given : ℕ) (s : EngineState) (answer : Ended) (v : Serving May Rest before now policy pid start seen held failed given [] s) → now.unnoted ≡ [] → HandsOn stands last.stands now.calls → ((t : ℕ) → is_one t seen.own ≡ true → IsOwnOffered (last.queue t) held failed t) → given ≤ turns → EndsAs turns v.journal refused s.ended answer
      → IsRun May Rest.rests stands last Rest.present policy pid turns before now.recorded start seen refused answer
  ends-run now seen held failed given s answer v noted hands offered le ends =
      let picks : List ℕ = v.picked ++ [] in
      let replies : List HouseReply = v.replies ++ [] in
      let rows : List Row = log_of_journal (by_lists policy pid picks replies) v.journal in
      let same : log s picks replies v.journal ≡ rows = log-is s policy pid picks replies v.journal v.policy_is v.pid_is in
      let at : EngineRepresents picks replies (length v.picked) v.stands.asks s v.journal v.closed = v.stands.at [] [] in
      let fits = at.rows in
      let sound : IsRunSound (by_lists policy pid picks replies) v.journal [] s = v.sound [] [] in
      let asked : asks_of_rows rows ≡ v.stands.asks = ap asks_of_rows (sym same) ∙ fits.asked_is in
      let all : house_marks v.journal ++ now.unnoted ≡ house_marks v.journal = ap (λ l. house_marks v.journal ++ l) noted ∙ append-nil (house_marks v.journal) in
      run-of May Rest.rests stands last Rest.present before now.recorded policy pid turns start seen refused v.journal picks replies answer
      (record { lawful = v.of_wire.lawful; asked = v.of_wire.asked }) v.own_streams
      (subst (MayGive May) (sym (append-nil v.replies)) v.may)
      v.records
      (let w : turns_in v.journal ≡ given = v.turns in omega arith)
      rows sound.kept (inl refl)
      (subst AreFresh same fits.fresh)
      (ap numbers_taken (sym same) ∙ (fits.taken_is ∙ ap length (sym (append-nil v.picked))))
      (ap replies_given (sym same) ∙ (fits.drawn_is ∙ (v.stands.each ∙ ap length (sym (append-nil v.replies)))))
      now.unnoted [] v.house (v.asked ∙ (sym asked ∙ sym (append-nil (asks_of_rows rows)))) (on-again (sym (append-nil v.picked)) (sym (append-nil v.replies)) (sym asked) (on-here v)) (v.rested [] []) v.absent
      (λ ne. refl)
      (λ ne. subst (RecordsAsks before now.recorded) all v.house)
      (λ ne. ap ask_marks_in (sym all) ∙ (v.asked ∙ sym asked))
      (λ ne. subst (HandsOn stands last.stands) (sym (v.called [] []) ∙ (ap (λ l. calls_in (by_lists policy pid picks replies) v.journal ++ calls_of l) noted ∙ append-nil (calls_in (by_lists policy pid picks replies) v.journal))) hands)
      (λ ne. v.places)
      (λ ne. record {
        end = subst (λ o. EndsAs turns v.journal refused o answer) (fits.ended_is ∙ ap run_end_of same) ends;
        settled = λ t client. sound.settled t (not-own-stream t client) refl;
        handed_over = handed-all v [] [];
        own_settled = own-settled v last.queue offered;
      })

  -- there was no memory
  pub ends-starved : (now : Option (List HouseMark)) (seen : Seen) → Promised May Rest before now policy pid start seen.recorded turns → IsRun May Rest.rests stands last Rest.present policy pid turns before now start seen refused ended.OutOfMemory
  ends-starved now seen p =
      let left = p.left [] [] in
      run-of May Rest.rests stands last Rest.present before now policy pid turns start seen refused p.journal (p.picked ++ []) (p.replies ++ []) ended.OutOfMemory
      p.of_wire p.own_streams
      (subst (MayGive May) (sym (append-nil p.replies)) p.may)
      p.records p.turns left.rows left.kept left.is_log left.fresh
      (left.taken_is ∙ ap length (sym (append-nil p.picked)))
      (left.given_is ∙ (p.each ∙ ap length (sym (append-nil p.replies))))
      p.more p.more_asks p.house (p.asked ∙ ap (λ l. l ++ p.more_asks) (sym left.asked_is)) (on-again (sym (append-nil p.picked)) (sym (append-nil p.replies)) (sym left.asked_is) p.asks_on) (p.rested [] []) p.absent
      (λ ne. absurd (ne refl))
      (λ ne. absurd (ne refl))
      (λ ne. absurd (ne refl))
      (λ ne. absurd (ne refl))
      (λ ne. absurd (ne refl))
      (λ ne. absurd (ne refl))

-- with more turns
pub promised-more : {May : HouseReply → Type 0} {Rest : Resting} {before now : Option (List HouseMark)} {policy : Policy} {pid : ℕ} {start recorded : Option (List Mark)} (given more : ℕ) → given ≤ more → Promised May Rest before now policy pid start recorded given → Promised May Rest before now policy pid start recorded more
promised-more given more le p = record {
  journal = p.journal;
  picked = p.picked;
  replies = p.replies;
  asks = p.asks;
  more = p.more;
  more_asks = p.more_asks;
  may = p.may;
  each = p.each;
  house = p.house;
  asked = p.asked;
  asks_on = p.asks_on;
  rested = p.rested;
  absent = p.absent;
  records = p.records;
  of_wire = p.of_wire;
  own_streams = p.own_streams;
  turns = let w : turns_in p.journal ≤ given = p.turns in omega arith;
  left = p.left;
}

-- ---- the start

of-nothing : (setting : Setting) → KeepsMarks setting []
of-nothing setting = record { written = record { takes = tt; waits = tt; speaks = tt }; open_streams = tt; answered = tt; after_end = tt; silence = tt }

-- there was no memory for an engine
pub starts-starved : (May : HouseReply → Type 0) (Rest : Resting) (house : Option (List HouseMark)) (policy : Policy) (pid : ℕ) (recorded : Option (List Mark)) (given : ℕ) → Promised May Rest house house policy pid recorded recorded given
starts-starved May Rest house policy pid recorded given = record {
  journal = [];
  picked = [];
  replies = [];
  asks = [];
  more = [];
  more_asks = [];
  may = tt;
  each = refl;
  house = records-none house;
  asked = refl;
  asks_on = record { more_picks = []; more_replies = []; may = tt; begins = record { rest = []; all_is = refl } };
  rested = λ picks later. tt;
  absent = λ e. All-nil (λ (mark : Mark). is_by_house mark ≡ false);
  records = sym (recorded-none recorded);
  of_wire = record { lawful = tt; asked = tt };
  own_streams = record { opened = tt; gives = tt; writes = tt; joins = tt; others = tt };
  turns = (omega arith);
  left = λ picks later. record { kept = of-nothing (by_lists policy pid picks later); rows = []; is_log = inl refl; fresh = tt; taken_is = refl; given_is = refl; asked_is = refl };
}

-- a new engine is served
pub starts : (May : HouseReply → Type 0) (Rest : Resting) (now : Side) (policy : Policy) (pid : ℕ) (seen : Seen) (s : EngineState) → RepresentsSoFar [] [] s [] [] → s.core.policy ≡ policy → s.pid ≡ pid → s.clients ≡ [] → s.refused ≡ []
    → now.asks ≡ [] → now.unnoted ≡ [] → now.let_in ≡ false → now.calls ≡ [] → seen.streams ≡ 0 ∷ [] → seen.blocked ≡ [] → seen.listens ≡ true → seen.own ≡ [] → seen.listeners ≡ [] → (v : Serving May Rest now.recorded now policy pid seen.recorded seen [] [] 0 (0 ∷ here s) s) × (v.journal ≡ [])
starts May Rest now policy pid seen s stands e f clients refused unasked noted outside uncalled streams blocked listens own listeners =
    let none : here s ≡ [] = ap (λ cs. numbers cs ++ s.refused) clients ∙ refused in
    let asks : stands.asks ≡ [] = no-asks stands.asks stands.each in (
      record {
        journal = [];
        closed = [];
        picked = [];
        replies = [];
        policy_is = e;
        pid_is = f;
        may = tt;
        stands = stands;
        house = subst (RecordsAsks now.recorded now.recorded) (sym noted) (records-none now.recorded);
        asked = ap ask_marks_in noted ∙ sym asks;
        called = λ picks later. ap calls_of noted ∙ sym uncalled;
        askers = subst (λ (l : List OpenAsk). All (λ (a : OpenAsk). false ≡ true) l) (sym unasked) (All-nil (λ (a : OpenAsk). false ≡ true));
        opens = unasked ∙ ap (λ (l : List HouseMark). opens_after l []) (sym noted);
        house_in = sym outside;
        house_there = λ e. true-false (sym e ∙ outside);
        rested = λ picks later. tt;
        absent = λ e. All-nil (λ (mark : Mark). is_by_house mark ≡ false);
        records = sym (recorded-none seen.recorded);
        of_wire = subst (λ (l : List ℕ). OfWire l seen.blocked seen.last []) (sym streams) (subst (λ (l : List ℕ). OfWire (0 ∷ []) l seen.last []) (sym blocked) (wire-keeps seen []).none);
        places = record { own = own; listeners = listeners; streams = ap (filter is_own) streams ∙ sym (ap numbers_of own) };
        own_streams = record { opened = tt; gives = tt; writes = tt; joins = tt; others = tt };
        turns = refl;
        open_are = ap not_own (streams ∙ ap (λ l. 0 ∷ l) (sym none));
        apart = λ k a. true-false (sym a ∙ ap (among k) none);
        held_is = sym blocked;
        blocked_is = λ t a. ap (among t) blocked;
        unseen = λ k lt le. record { not_accepted = refl; never_blocked = refl; not_blocked = ap (among k) blocked };
        unused = λ k free. record { not_open = ap (among k) streams ∙ no-server k free; never_blocked = refl; not_blocked = ap (among k) blocked; never_failed = refl };
        failed_are = λ t own a f. true-false (sym f);
        failed_did = λ t a. true-false (sym a);
        receives = λ live h. listens;
        sound = λ picks later. record { kept = of-nothing (by_lists policy pid picks later); failed_out = λ t client w live. true-false (sym w); settled = λ t client a. inl (nothing-pending t) };
      },
      refl,
    )
  where
    no-asks : (asks : List HouseMark) → length asks ≡ 0 → asks ≡ []
    no-asks [] e = refl
    no-asks (a ∷ rest) e = absurd (omega (arith, e))

    no-server : (k : ℕ) → IsFreeForOwn seen.last_own k → among k (0 ∷ []) ≡ false
    no-server k (inl free) = ap (λ b. b || false) (test-other 0 k (λ q. true-false (sym free.0 ∙ ap is_own (sym q))))
    no-server k (inr house) = ap (λ b. b || false) (test-other 0 k (λ q. absurd (omega (arith, q, house))))
