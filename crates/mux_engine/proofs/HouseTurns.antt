-- What the forwarder makes of what holds while a wire is served: it is admitted, accepts, sends and
-- answers.
use Rattle.std.proofs.Common.{◌≡◌, ◌≢◌, ◌<◌, ℕ, Bool, true, false, ◌||◌, ◌&&◌, List, [], ◌∷◌, ◌++◌, length, Option, None, refl, sym, ap, ◌∙◌, subst, inr, cond, arith, append-nil}
use Rattle.std.specs.Prelude.{◌==◌, All, IsTrue}
use Rattle.std.specs.List.{list_any}
use Rattle.std.proofs.lemmas.Bool.{eqb-true}
use Rattle.std.proofs.lemmas.List.Elements.{All-cons, All-head, All-tail, filter-append}
use Rattle.mux_outside.specs.House.{OpenAsk, ReplyFits, is_ask, without_ask}
use Rattle.mux_outside.specs.Seen.{Seen}
use Rattle.mux_outside.specs.Streams.{among}
use Rattle.mux_outside.specs.declared.house.HouseReply.{HouseReply}
use Rattle.mux_outside.specs.declared.house.HouseReply.TheVariants.{Done, Port, Refused, Later}
use Rattle.mux_outside.specs.declared.house_mark.HouseMark.{HouseMark}
use Rattle.mux_outside.specs.declared.house_mark.HouseMark.TheVariants.{HouseIn, HouseAnswer}
use Rattle.mux_outside.specs.declared.mark.Mark.{Mark}
use Rattle.mux_outside.specs.declared.mark.Mark.TheVariants.{Waits, Accepts, Gets, Ends, Frees, Fails, Takes, Holds, WriteFails, Joins, House}
use Rattle.mux_history.specs.declared.limits.TheConstants.{HOUSE}
use Rattle.mux_history.specs.Policy.{Policy}
use Rattle.mux_history.specs.Journal.{IsLawful, is_accepted}
use Rattle.mux_history.specs.Promises.{is_house_request, turns_in}
use Rattle.mux_history.proofs.Wires.{wire-keeps}
use Rattle.mux_state.specs.State.{EngineState}
use Rattle.mux_state.specs.Events.{EngineKeeps, here}
use Rattle.mux_state.specs.declared.event.Event.TheVariants.{Accepted, HouseSays}
use Rattle.mux_state.specs.Stands.{GoesOn}
use Rattle.mux_state.proofs.Twins.{house-client}
use Rattle.mux_engine.specs.Answers.{opens_after}
use Rattle.mux_engine.specs.Serving.{Promised, Serving}
use Rattle.mux_engine.specs.Sides.{Resting, Side, ask_marks_in, house_marks}
use Rattle.mux_engine.proofs.Asks.{goes-asked, goes-unasked, none-asked, unasked-none}
use Rattle.mux_engine.proofs.Called.{calls-none, calls-recorded}
use Rattle.mux_engine.proofs.Cuts.{cut-next, now-asked, of-streams, on-next}
use Rattle.mux_engine.proofs.Happened.{placed-house-in, serve-event}
use Rattle.mux_engine.proofs.Lists.{or-true, test-other, true-false}
use Rattle.mux_engine.proofs.Marks.{Notes, asked-at, rows-go-on}
use Rattle.mux_engine.proofs.Noted.{seen-with}
use Rattle.mux_engine.proofs.Owns.{owns-plain}
use Rattle.mux_engine.proofs.Places.{placed-still}
use Rattle.mux_engine.proofs.Quiet.{askers-more}
use Rattle.mux_engine.proofs.Recorded.{records-none}
use Rattle.mux_engine.proofs.Turned.{came, goes-twin, stayed}

-- ---- whoever was accepted is no server

pub accepted-zero : (journal : List Mark) → IsLawful journal → is_accepted 0 journal ≡ false
accepted-zero [] l = refl
accepted-zero (Accepts k ∷ j) l = let lt = l.0 in ap (λ b. cond b true (is_accepted 0 j)) (test-other k 0 (λ e. absurd (omega (arith, lt.0, e)))) ∙ accepted-zero j l.1
accepted-zero (House HouseIn ∷ j) l = accepted-zero j l.1
accepted-zero (House m ∷ j) l = accepted-zero j l.1
accepted-zero (Waits waiting want streams shown ∷ j) l = accepted-zero j l.1
accepted-zero (Gets k bytes ∷ j) l = accepted-zero j l.1
accepted-zero (Ends k ∷ j) l = accepted-zero j l.1
accepted-zero (Frees k ∷ j) l = accepted-zero j l.1
accepted-zero (Fails k ∷ j) l = accepted-zero j l.1
accepted-zero (Takes k bytes accepts ∷ j) l = accepted-zero j l.1
accepted-zero (Holds k ∷ j) l = accepted-zero j l.1
accepted-zero (WriteFails k ∷ j) l = accepted-zero j l.1
accepted-zero (Joins l' k ∷ j) l = accepted-zero j l.1

-- what is so of each open ask is so of one with this client and id
asked-so : (P : ℕ → ℕ → Type 0) (client id : ℕ) (asks : List OpenAsk) → list_any (is_ask client id) asks ≡ true → All (λ (a : OpenAsk). P a.client a.id) asks → P client id
asked-so P client id [] h all = true-false (sym h)
asked-so P client id (a ∷ asks) h all = by_head (a.client == client) refl (a.id == id) refl h (λ r. asked-so P client id asks r (All-tail (λ (x : OpenAsk). P x.client x.id) a asks all))
  where
    by_head : (b : Bool) → (a.client == client) ≡ b → (c : Bool) → (a.id == id) ≡ c → ((b && c) || list_any (is_ask client id) asks) ≡ true → (list_any (is_ask client id) asks ≡ true → P client id) → P client id
    by_head true e true f h ih = subst (λ (i : ℕ). P i id) (eqb-true a.client client e) (subst (P a.client) (eqb-true a.id id f) (All-head (λ (x : OpenAsk). P x.client x.id) a asks all))
    by_head true e false f h ih = ih h
    by_head false e c f h ih = ih h

-- whatever else it asks
any-less : (P Q : OpenAsk → Bool) (asks : List OpenAsk) → ((a : OpenAsk) → P a ≡ true → Q a ≡ true) → list_any P asks ≡ true → list_any Q asks ≡ true
any-less P Q [] h e = e
any-less P Q (a ∷ asks) h e = by_head (P a) refl e (any-less P Q asks h)
  where
    by_head : (b : Bool) → P a ≡ b → (b || list_any P asks) ≡ true → (list_any P asks ≡ true → list_any Q asks ≡ true) → (Q a || list_any Q asks) ≡ true
    by_head true f e ih = ap (λ b. b || list_any Q asks) (h a f)
    by_head false f e ih = ap (λ b. Q a || b) (ih e) ∙ or-true (Q a)

and-first' : (a b : Bool) → (a && b) ≡ true → a ≡ true
and-first' true b e = refl
and-first' false b e = e

pub reply-so : (P : ℕ → ℕ → Type 0) (reply : HouseReply) (client id : ℕ) (asks : List OpenAsk) → ReplyFits reply client id asks → All (λ (a : OpenAsk). P a.client a.id) asks → P client id
reply-so P Done client id asks fits all = asked-so P client id asks fits all
reply-so P Refused client id asks fits all = asked-so P client id asks fits all
reply-so P (Port port) client id asks fits all = asked-so P client id asks (any-less (λ a. is_ask client id a && a.opening) (is_ask client id) asks (λ a h. and-first' (is_ask client id a) a.opening h) fits) all
reply-so P Later client id asks fits all = absurd fits

-- it is of one that was accepted
pub reply-asked : (journal : List Mark) (reply : HouseReply) (client id : ℕ) (asks : List OpenAsk) → ReplyFits reply client id asks → All (λ (a : OpenAsk). IsTrue (is_accepted a.client journal)) asks → is_accepted client journal ≡ true
reply-asked journal = reply-so (λ k i. is_accepted k journal ≡ true)

-- and so of the others
pub rest-so : (P : OpenAsk → Type 0) (client id : ℕ) (asks : List OpenAsk) → All P asks → All P (without_ask client id asks)
rest-so P client id [] all = all
rest-so P client id (a ∷ asks) all = by_head (rest-so P client id asks (All-tail P a asks all)) (is_ask client id a)
  where
    by_head : All P (without_ask client id asks) → (b : Bool) → All P (cond b asks (a ∷ without_ask client id asks))
    by_head ih true = All-tail P a asks all
    by_head ih false = All-cons P a (without_ask client id asks) (All-head P a asks all) ih

-- and there is one less then
fewer-ask : (client id : ℕ) (asks : List OpenAsk) → list_any (is_ask client id) asks ≡ true → length (without_ask client id asks) < length asks
fewer-ask client id [] h = true-false (sym h)
fewer-ask client id (a ∷ asks) h = by_head (is_ask client id a) h (fewer-ask client id asks)
  where
    by_head : (b : Bool) → (b || list_any (is_ask client id) asks) ≡ true → (list_any (is_ask client id) asks ≡ true → length (without_ask client id asks) < length asks) → length (cond b asks (a ∷ without_ask client id asks)) < length (a ∷ asks)
    by_head true h ih = omega arith
    by_head false h ih = let l = ih h in omega (arith, l)

pub reply-fewer : (reply : HouseReply) (client id : ℕ) (asks : List OpenAsk) → ReplyFits reply client id asks → length (without_ask client id asks) < length asks
reply-fewer Done client id asks fits = fewer-ask client id asks fits
reply-fewer Refused client id asks fits = fewer-ask client id asks fits
reply-fewer (Port port) client id asks fits = fewer-ask client id asks (any-less (λ a. is_ask client id a && a.opening) (is_ask client id) asks (λ a h. and-first' (is_ask client id a) a.opening h) fits)
reply-fewer Later client id asks fits = absurd fits

module _ {May : HouseReply → Type 0} {Rest : Resting} {before : Option (List HouseMark)} {now : Side} {policy : Policy} {pid : ℕ} {start : Option (List Mark)} {seen : Seen} {held failed : List ℕ} {given : ℕ} {todo : List ℕ} {s : EngineState}
    (v : Serving May Rest before now policy pid start seen held failed given todo s) where
  -- ---- it is admitted

  alone : v.journal ≡ [] → is_accepted HOUSE v.journal ≡ false
  alone e = ap (is_accepted HOUSE) e

  pub house-let-in : {May' : HouseReply → Type 0} {recorded recorded' : Option (List HouseMark)} {s' : EngineState} → v.journal ≡ [] → Rest.present ≡ true → s.ended ≡ None → s.refused ≡ [] → ((t : ℕ) → among t (0 ∷ here s') ≡ false → among t todo ≡ false) → GoesOn May' recorded recorded' s s' (Accepts HOUSE) → EngineKeeps (Accepted HOUSE) s s'
      → Serving May Rest before (record now { let_in = true }) policy pid start (seen-with (HouseIn ∷ []) seen) held failed given (0 ∷ here s') s'
  house-let-in {s' = s'} first there live admitted covers goes keeps =
      let g0 = goes v.picked v.replies v.journal v.closed v.stands ((λ e. absurd (omega (arith, e))), alone first, refl) in
      let g1 = goes-twin (Accepts HOUSE) (House HouseIn) (house-client.let_in v.journal) g0 in
      let none = none-asked g1.asks (goes-asked (λ j. ⊥) g1 keeps.policy keeps.pid tt) in
      let g = goes-unasked {May = May} v.stands g1 none in
      serve-event v (House HouseIn) g (record now { let_in = true }) (seen-with (HouseIn ∷ []) seen) held failed given keeps.policy keeps.pid live tt covers
      (λ j c e. true-false (sym c ∙ (ap (λ i. among i v.closed) (sym e) ∙ ((v.stands.at [] []).bytes.strange HOUSE (alone first)).not_closed_yet))) (λ picks later. tt) (λ picks later. tt)
      (subst (Notes now (record now { let_in = true }) (House HouseIn)) (sym (unasked-none May v.stands g1 none)) (record { more = []; recorded_is = records-none now.recorded; noted_is = sym (append-nil now.unnoted); asks_are = refl; opens_are = refl })) (λ set. calls-none now)
      (askers-more v (House HouseIn)) refl (λ e. there) (λ set. tt) (λ e. true-false (sym there ∙ e)) v.turns refl
      (placed-house-in v (seen-with (HouseIn ∷ []) seen) s' ((wire-keeps seen v.journal).note HouseIn first refl v.of_wire) refl refl refl refl refl (came (Accepted HOUSE) HOUSE s s' refl admitted (keeps.streams live))
      (owns-plain v.journal seen (seen-with (HouseIn ∷ []) seen) (House HouseIn) tt v.places refl refl refl))

  -- there was no memory to admit it
  pub cut-let-in : v.journal ≡ [] → Rest.present ≡ true → Promised May Rest before now.recorded policy pid start (seen-with (HouseIn ∷ []) seen).recorded given
  cut-let-in first there = cut-next v now.recorded (seen-with (HouseIn ∷ []) seen).recorded given (House HouseIn) [] now.unnoted refl (records-none now.recorded) (sym (append-nil now.unnoted))
      (of-streams seen.streams seen.blocked seen.last (House HouseIn ∷ v.journal) ((wire-keeps seen v.journal).note HouseIn first refl v.of_wire)) (record { opened = tt; gives = tt; writes = tt; joins = tt; others = refl })
      (let w : turns_in v.journal ≡ given = v.turns in omega arith) (λ set. tt) (λ e. true-false (sym there ∙ e)) (on-next v (House HouseIn)) (λ set. inr (0, refl)) (λ picks later. record { takes = tt; waits = tt; speaks = tt; open_streams = tt; answers = tt; after_end = tt; silence = tt })

  -- ---- it answers

  -- all that was requested is noted where only this answer isn't
  all-asked : (client id : ℕ) (reply : HouseReply) → now.unnoted ≡ HouseAnswer client id reply ∷ [] → ask_marks_in (house_marks v.journal) ≡ v.stands.asks
  all-asked client id reply e = sym (filter-append is_house_request (house_marks v.journal) (HouseAnswer client id reply ∷ []) ∙ append-nil (ask_marks_in (house_marks v.journal))) ∙ (ap (λ (l : List HouseMark). ask_marks_in (house_marks v.journal ++ l)) (sym e) ∙ v.asked)

  pub house-answers : {May' : HouseReply → Type 0} {recorded recorded' : Option (List HouseMark)} {s' : EngineState} (client id : ℕ) (reply : HouseReply) → now.unnoted ≡ HouseAnswer client id reply ∷ [] → now.let_in ≡ true → is_accepted client v.journal ≡ true → ReplyFits reply client id (opens_after (house_marks v.journal) []) → s.ended ≡ None → ((t : ℕ) → among t (0 ∷ here s') ≡ false → among t todo ≡ false)
      → GoesOn May' recorded recorded' s s' (House (HouseAnswer client id reply)) → EngineKeeps (HouseSays client id reply) s s' → Serving May Rest before (record now { unnoted = [] }) policy pid start (seen-with (HouseAnswer client id reply ∷ []) seen) held failed given (0 ∷ here s') s'
  house-answers {s' = s'} client id reply e within asked due live covers goes keeps =
      let m : HouseMark = HouseAnswer client id reply in
      let nz : client ≢ 0 = λ z. true-false (sym asked ∙ (ap (λ i. is_accepted i v.journal) z ∙ accepted-zero v.journal v.of_wire.lawful)) in
      let g1 = goes v.picked v.replies v.journal v.closed v.stands (nz, asked) in
      let none = none-asked g1.asks (goes-asked (λ j. ⊥) g1 keeps.policy keeps.pid tt) in
      let g = goes-unasked {May = May} v.stands g1 none in
      serve-event v (House m) g (record now { unnoted = [] }) (seen-with (m ∷ []) seen) held failed given keeps.policy keeps.pid live tt covers (λ j c. tt) (λ picks later. tt)
      (λ picks later. record { asked = all-asked client id reply e ∙ sym (asked-at v g.picks g.replies (v.picked ++ g.picks) (v.replies ++ g.replies) refl refl picks later); fits = due })
      (subst (Notes now (record now { unnoted = [] }) (House m)) (sym (unasked-none May v.stands g1 none)) (record { more = []; recorded_is = records-none now.recorded; noted_is = sym e ∙ sym (append-nil now.unnoted); asks_are = refl; opens_are = refl }))
      (λ set. calls-recorded now (record now { unnoted = [] }) (m ∷ []) [] (sym e ∙ sym (append-nil now.unnoted)) (sym (append-nil now.calls)))
      (askers-more v (House m)) v.house_in v.house_there (λ set. tt) (λ e. true-false (sym (v.house_there within) ∙ e)) v.turns refl
      (placed-still v (House m) (seen-with (m ∷ []) seen) s' ((wire-keeps seen v.journal).note m asked refl v.of_wire) refl refl refl refl refl (stayed (HouseSays client id reply) (House m) s s' (nz, refl) tt (keeps.streams live)) (λ t. refl) (λ t. refl) (λ t. refl)
      (owns-plain v.journal seen (seen-with (m ∷ []) seen) (House m) tt v.places refl refl refl))

  pub cut-answers : (client id : ℕ) (reply : HouseReply) → now.unnoted ≡ HouseAnswer client id reply ∷ [] → now.let_in ≡ true → is_accepted client v.journal ≡ true → ReplyFits reply client id (opens_after (house_marks v.journal) []) → s.ended ≡ None → Promised May Rest before now.recorded policy pid start (seen-with (HouseAnswer client id reply ∷ []) seen).recorded given
  cut-answers client id reply e within asked due live = let m : HouseMark = HouseAnswer client id reply in
      cut-next v now.recorded (seen-with (m ∷ []) seen).recorded given (House m) [] [] refl (records-none now.recorded) (sym e ∙ sym (append-nil now.unnoted))
      (of-streams seen.streams seen.blocked seen.last (House m ∷ v.journal) ((wire-keeps seen v.journal).note m asked refl v.of_wire)) (record { opened = tt; gives = tt; writes = tt; joins = tt; others = refl })
      (let w : turns_in v.journal ≡ given = v.turns in omega arith) (λ set. tt) (λ e. true-false (sym (v.house_there within) ∙ e)) (on-next v (House m)) (λ set. inr (0, refl)) (λ picks later. record { takes = tt; waits = tt; speaks = tt; open_streams = tt; answers = record { asked = all-asked client id reply e ∙ sym (now-asked v picks later); fits = due }; after_end = rows-go-on v live picks later; silence = tt })
