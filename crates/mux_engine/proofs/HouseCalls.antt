-- The forwarder is admitted, is handed what waits for it, and answers.
use Rattle.std.proofs.Common.{◌≡◌, ◌≢◌, ◌≤◌, ◌<◌, ◌+◌, ℕ, Bool, true, false, ◌||◌, List, [], ◌∷◌, ◌++◌, length, Option, None, refl, sym, ap, ◌∙◌, subst, inl, arith, append-nil}
use Rattle.std.specs.Prelude.{◌==◌, All, IsTrue, Result, Ok, Err}
use Rattle.std.specs.List.{list_any}
use Rattle.std.proofs.lemmas.List.Folds.{list_any-append}
use Rattle.mux_outside.specs.House.{Known, OpenAsk, ReplyFits, without_ask}
use Rattle.mux_outside.specs.HouseCalls.{HandsOn, Receives, HouseCall, calls_of}
use Rattle.mux_outside.specs.OwnStreams.{is_one, numbers_of}
use Rattle.mux_outside.specs.Seen.{Seen, seen_after_note}
use Rattle.mux_outside.specs.Streams.{among, without}
use Rattle.mux_outside.specs.declared.house.HouseReply.{HouseReply}
use Rattle.mux_outside.specs.declared.house_mark.HouseMark.{HouseMark}
use Rattle.mux_outside.specs.declared.house_mark.HouseMark.TheVariants.{HouseAnswer, HouseIn, HouseTook}
use Rattle.mux_outside.specs.declared.mark.Mark.{Mark}
use Rattle.mux_outside.specs.declared.mark.Mark.TheVariants.{Accepts, Takes, House}
use Rattle.mux_outside.proofs.HouseCalls.{hands-then}
use Rattle.mux_history.specs.declared.limits.TheConstants.{HOUSE}
use Rattle.mux_history.specs.Policy.{Policy}
use Rattle.mux_history.specs.Journal.{is_accepted}
use Rattle.mux_peers.specs.Asked.{RecordsAsks}
use Rattle.mux_state.specs.State.{EngineState, queue_in, took_and_listed}
use Rattle.mux_state.specs.declared.event.Event.TheVariants.{Accepted, HouseSays}
use Rattle.mux_state.specs.Events.{EndsBy, EngineKeeps, MarkRecords, here}
use Rattle.mux_state.specs.Stands.{GoesAlone, GoesOn, RepresentsSoFar}
use Rattle.mux_engine.specs.Answers.{opens_after}
use Rattle.mux_engine.specs.Called.{Handed}
use Rattle.mux_engine.specs.Serving.{Promised, Serving}
use Rattle.mux_engine.specs.Sides.{Housed, Resting, SameHouse, SameSockets, SameStreamsSeen, Side, house_marks, all_marks_noted, noting}
use Rattle.mux_engine.proofs.Cuts.{serve-recorded}
use Rattle.mux_engine.proofs.HouseTakes.{house-takes}
use Rattle.mux_engine.proofs.HouseTurns.{accepted-zero, cut-answers, house-answers, house-let-in, reply-asked, reply-so, rest-so}
use Rattle.mux_engine.proofs.Lists.{among-less, true-false, without-other}
use Rattle.mux_engine.proofs.Noted.{seen-with}
use Rattle.mux_engine.proofs.Offers.{Waiting}
use Rattle.mux_engine.proofs.Staying.{serve-as}
use Rattle.mux_engine.proofs.Taken.{queue-present, took-run}
use Rattle.mux_engine.proofs.Turned.{came, stayed}

-- ---- lists of streams

-- what is not among those that are here and the forwarder is not among those that are here
pub let-in-covers : (xs ys : List ℕ) → ys ≡ xs ++ HOUSE ∷ [] → (t : ℕ) → among t (0 ∷ ys) ≡ false → among t (0 ∷ xs) ≡ false
let-in-covers xs ys e t a = by_test (0 == t) (among t xs) (sym (ap (λ b. (0 == t) || b) (ap (among t) e ∙ list_any-append (λ (i : ℕ). i == t) xs (HOUSE ∷ []))) ∙ a)
  where
    by_test : (b c : Bool) → (b || (c || among t (HOUSE ∷ []))) ≡ false → (b || c) ≡ false
    by_test true c h = h
    by_test false true h = h
    by_test false false h = refl

-- all but the forwarder are left as they were
pub took-covers : (xs ys : List ℕ) → ys ≡ xs → (t : ℕ) → HOUSE ≢ t → among t (0 ∷ without HOUSE ys) ≡ false → among t (0 ∷ xs) ≡ false
took-covers xs ys e t ne a = ap (λ b. (0 == t) || b) (sym (without-other HOUSE t xs ne) ∙ ap (λ l. among t (without HOUSE l)) (sym e)) ∙ a

pub reply-covers : (xs ys : List ℕ) → ys ≡ xs → (t : ℕ) → among t (0 ∷ ys) ≡ false → among t (0 ∷ without HOUSE xs) ≡ false
reply-covers xs ys e t a = by_test (0 == t) (sym (ap (λ l. among t (0 ∷ l)) e) ∙ a)
  where
    by_test : (b : Bool) → (b || among t xs) ≡ false → (b || among t (without HOUSE xs)) ≡ false
    by_test true h = h
    by_test false h = among-less HOUSE t xs h

-- ---- what is known of the forwarder and seen of the wire stays

pub housed-still : (known known' : Known) (seen seen' : Seen) (own : List ℕ) → Housed known seen own → SameHouse known known' → SameSockets seen seen' → Housed known' seen' own
housed-still known known' seen seen' own o same places = record {
  ordering = same.ordering ∙ o.ordering;
  listeners = same.listeners ∙ (o.listeners ∙ sym places.listeners);
  streams = same.streams ∙ (o.streams ∙ sym places.own);
  own_is = o.own_is ∙ ap numbers_of (sym places.own);
  places = record {
    opened = λ t one. ap (among t) places.streams ∙ o.places.opened t (ap (is_one t) (sym places.own) ∙ one);
    numbered = λ t one. o.places.numbered t (ap (is_one t) (sym places.own) ∙ one);
    listed = λ t a is. ap (is_one t) places.own ∙ o.places.listed t (ap (among t) (sym places.streams) ∙ a) is;
    given = λ t one. subst (λ (n : ℕ). t ≤ n) (sym places.last_own) (o.places.given t (ap (is_one t) (sym places.own) ∙ one));
    listening = λ l a. subst (λ (n : ℕ). l ≤ n) (sym places.last_own) (o.places.listening l (ap (among l) (sym places.listeners) ∙ a));
  };
}

pub same-house : (known known' : Known) → known' ≡ known → SameHouse known known'
same-house known known' e = subst (SameHouse known) (sym e) record { present = refl; ordering = refl; listeners = refl; streams = refl }

pub streams-same : (seen seen' : Seen) → seen' ≡ seen → SameStreamsSeen seen seen'
streams-same seen seen' e = subst (SameStreamsSeen seen) (sym e) record { places = record { streams = refl; listeners = refl; own = refl; last_own = refl; silence = λ l. l }; blocked = refl }

-- a mark was noted, or there was no memory for it
pub streams-note : {E : Type 0} (r : Result (Unit {0}) E) (mark : HouseMark) (old new : Seen) → new ≡ seen_after_note r mark old → SameStreamsSeen old new
streams-note (Ok x) mark old new e = subst (SameStreamsSeen old) (sym e) record { places = record { streams = refl; listeners = refl; own = refl; last_own = refl; silence = λ l. l }; blocked = refl }
streams-note (Err x) mark old new e = streams-same old new e

pub streams-then : (a b c : Seen) → SameStreamsSeen a b → SameStreamsSeen b c → SameStreamsSeen a c
streams-then a b c x y = record {
  places = record { streams = y.places.streams ∙ x.places.streams; listeners = y.places.listeners ∙ x.places.listeners; own = y.places.own ∙ x.places.own; last_own = y.places.last_own ∙ x.places.last_own; silence = λ l. x.places.silence (y.places.silence l) };
  blocked = y.blocked ∙ x.blocked;
}

pub house-then : (a b c : Known) → SameHouse a b → SameHouse b c → SameHouse a c
house-then a b c x y = record { present = y.present ∙ x.present; ordering = y.ordering ∙ x.ordering; listeners = y.listeners ∙ x.listeners; streams = y.streams ∙ x.streams }

-- ---- no turn is given meanwhile

more-none : (given : ℕ) → given + 0 ≡ given
more-none given = omega arith

module _ {May : HouseReply → Type 0} {Rest : Resting} {before : Option (List HouseMark)} {policy : Policy} {pid : ℕ} {start : Option (List Mark)} {given : ℕ} where
  pub no-turns : {now : Side} {seen : Seen} {held failed : List ℕ} {todo : List ℕ} {s : EngineState} → Serving May Rest before now policy pid start seen held failed given todo s → Serving May Rest before now policy pid start seen held failed (given + 0) todo s
  no-turns {now} {seen} {held} {failed} {todo} {s} v = subst (λ (n : ℕ). Serving May Rest before now policy pid start seen held failed n todo s) (sym (more-none given)) v

  pub none-given : {now : Side} {seen : Seen} {held failed : List ℕ} {todo : List ℕ} {s : EngineState} → Serving May Rest before now policy pid start seen held failed (given + 0) todo s → Serving May Rest before now policy pid start seen held failed given todo s
  none-given {now} {seen} {held} {failed} {todo} {s} v = subst (λ (n : ℕ). Serving May Rest before now policy pid start seen held failed n todo s) (more-none given) v

  pub no-turns-left : {now : Option (List HouseMark)} {recorded : Option (List Mark)} → Promised May Rest before now policy pid start recorded given → Promised May Rest before now policy pid start recorded (given + 0)
  no-turns-left {now} {recorded} p = subst (λ (n : ℕ). Promised May Rest before now policy pid start recorded n) (sym (more-none given)) p

-- the forwarder recorded nothing meanwhile, and as much is known of it
pub same-noted : {May : HouseReply → Type 0} {Rest : Resting} {before : Option (List HouseMark)} {policy : Policy} {pid : ℕ} {start : Option (List Mark)} {seen : Seen} {held failed : List ℕ} {given : ℕ} {todo : List ℕ} {s : EngineState} {calls : List HouseCall} (recorded recorded' : Option (List HouseMark)) (known known' : Known) → recorded' ≡ recorded → known' ≡ known → Serving May Rest before (all_marks_noted recorded known calls) policy pid start seen held failed given todo s → Serving May Rest before (all_marks_noted recorded' known' calls) policy pid start seen held failed given todo s
same-noted {May} {Rest} {before} {policy} {pid} {start} {seen} {held} {failed} {given} {todo} {s} {calls} recorded recorded' known known' t k v =
    subst (λ (x : Option (List HouseMark)). Serving May Rest before (all_marks_noted x known' calls) policy pid start seen held failed given todo s) (sym t)
    (subst (λ (x : Known). Serving May Rest before (all_marks_noted recorded x calls) policy pid start seen held failed given todo s) (sym k) v)

module _ {May : HouseReply → Type 0} {Rest : Resting} {before : Option (List HouseMark)} {policy : Policy} {pid : ℕ} {start : Option (List Mark)} {seen : Seen} {held failed : List ℕ} {given : ℕ} {todo : List ℕ} {s : EngineState} where
  -- ---- something was reported to it

  -- it recorded this and requested nothing
  pub took-recorded : {recorded recorded' : Option (List HouseMark)} {known : Known} {calls : List HouseCall} (known' : Known) (n : ℕ) → Serving May Rest before (all_marks_noted recorded known calls) policy pid start seen held failed given todo s → RecordsAsks recorded recorded' (HouseTook n ∷ []) → known' ≡ known → Serving May Rest before (noting (HouseTook n ∷ []) recorded' known' calls) policy pid start seen held failed given todo s
  took-recorded {recorded} {recorded'} {known} {calls} known' n v h e =
      subst (λ (k : Known). Serving May Rest before (noting (HouseTook n ∷ []) recorded' k calls) policy pid start seen held failed given todo s) (sym e)
      (serve-recorded v (noting (HouseTook n ∷ []) recorded' known calls) (HouseTook n ∷ []) h refl refl v.askers refl refl (sym (append-nil calls)))

  -- it recorded nothing
  pub recorded-nothing : {recorded recorded' : Option (List HouseMark)} {known : Known} {calls : List HouseCall} (known' : Known) → Serving May Rest before (all_marks_noted recorded known calls) policy pid start seen held failed given todo s → RecordsAsks recorded recorded' [] → known' ≡ known → Serving May Rest before (all_marks_noted recorded' known' calls) policy pid start seen held failed given todo s
  recorded-nothing {recorded} {recorded'} {known} {calls} known' v h e =
      subst (λ (k : Known). Serving May Rest before (all_marks_noted recorded' k calls) policy pid start seen held failed given todo s) (sym e)
      (serve-recorded v (all_marks_noted recorded' known calls) [] h refl refl v.askers refl refl (sym (append-nil calls)))

  -- a call had no outcome
  pub still-handed : {stands mid stands' : List HouseCall → Type 0} {recorded recorded' : Option (List HouseMark)} {known : Known} {calls : List HouseCall} (known' : Known) → HandsOn stands mid calls → HandsOn mid stands' [] → RecordsAsks recorded recorded' [] → known' ≡ known → Serving May Rest before (all_marks_noted recorded known calls) policy pid start seen held failed given todo s
      → Handed stands stands' (λ all. Serving May Rest before (all_marks_noted recorded' known' all) policy pid start seen held failed (given + 0) todo s)
  still-handed {stands} {mid} {stands'} {calls = calls} known' hands step h e v = record { all = calls; hands = subst (HandsOn stands stands') (append-nil calls) (hands-then stands mid stands' calls [] hands step); so = no-turns (recorded-nothing known' v h e) }

  -- it recorded an answer
  pub answer-recorded : {recorded recorded' : Option (List HouseMark)} {calls : List HouseCall} (known : Known) (client id : ℕ) (reply : HouseReply) → Serving May Rest before (all_marks_noted recorded known calls) policy pid start seen held failed given todo s → RecordsAsks recorded recorded' (HouseAnswer client id reply ∷ [])
      → Serving May Rest before (noting (HouseAnswer client id reply ∷ []) recorded' (record known { asks = without_ask client id known.asks }) (calls ++ calls_of (HouseAnswer client id reply ∷ []))) policy pid start seen held failed given todo s
  answer-recorded {recorded} {recorded'} {calls} known client id reply v h =
      serve-recorded v (noting (HouseAnswer client id reply ∷ []) recorded' (record known { asks = without_ask client id known.asks }) (calls ++ calls_of (HouseAnswer client id reply ∷ []))) (HouseAnswer client id reply ∷ []) h refl refl (rest-so (λ (a : OpenAsk). IsTrue (is_accepted a.client v.journal)) client id known.asks v.askers) refl refl refl

  -- to a client that was accepted
  pub answer-asked : {recorded recorded' : Option (List HouseMark)} {calls : List HouseCall} (known : Known) (client id : ℕ) (reply : HouseReply) (v : Serving May Rest before (all_marks_noted recorded known calls) policy pid start seen held failed given todo s) (h : RecordsAsks recorded recorded' (HouseAnswer client id reply ∷ [])) → ReplyFits reply client id known.asks → is_accepted client (answer-recorded known client id reply v h).journal ≡ true
  unfolding answer-recorded serve-recorded serve-as
  answer-asked known client id reply v h fits = reply-asked v.journal reply client id known.asks fits v.askers

  -- to a request that is open by the journal
  pub answer-open : {recorded recorded' : Option (List HouseMark)} {calls : List HouseCall} (known : Known) (client id : ℕ) (reply : HouseReply) (v : Serving May Rest before (all_marks_noted recorded known calls) policy pid start seen held failed given todo s) (h : RecordsAsks recorded recorded' (HouseAnswer client id reply ∷ [])) → ReplyFits reply client id known.asks → ReplyFits reply client id (opens_after (house_marks (answer-recorded known client id reply v h).journal) [])
  unfolding answer-recorded serve-recorded serve-as
  answer-open known client id reply v h fits = subst (ReplyFits reply client id) (v.opens ∙ ap (λ (l : List HouseMark). opens_after l []) (append-nil (house_marks v.journal))) fits

-- ---- it is admitted

module _ {May : HouseReply → Type 0} {Rest : Resting} {before : Option (List HouseMark)} {now : Side} {policy : Policy} {pid : ℕ} {start : Option (List Mark)} {seen : Seen} {held failed : List ℕ} {given : ℕ} {s : EngineState} where
  pub let-in : {May' : HouseReply → Type 0} {recorded recorded' : Option (List HouseMark)} (v : Serving May Rest before now policy pid start seen held failed given (0 ∷ here s) s) (s' : EngineState) → v.journal ≡ [] → Rest.present ≡ true → s.ended ≡ None → s.refused ≡ [] → GoesOn May' recorded recorded' s s' (Accepts HOUSE) → EngineKeeps (Accepted HOUSE) s s'
      → Serving May Rest before (record now { let_in = true }) policy pid start (seen-with (HouseIn ∷ []) seen) held failed given (0 ∷ here s') s'
  let-in v s' first there live admitted goes keeps =
      house-let-in v first there live admitted (let-in-covers (here s) (here s') (came (Accepted HOUSE) HOUSE s s' refl admitted (keeps.streams live))) goes keeps

  -- which doesn't end the run
  pub let-in-live : (v : Serving May Rest before now policy pid start seen held failed given (0 ∷ here s) s) (s' : EngineState) → v.journal ≡ [] → s.ended ≡ None → EndsBy (Accepted HOUSE) s s' (Accepts HOUSE) → s'.ended ≡ None
  let-in-live v s' first live ends = ends v.picked v.replies v.journal v.closed v.stands ((λ e. absurd (omega (arith, e))), ap (is_accepted HOUSE) first, refl) live

-- ---- it is handed what waits for it

module _ {May : HouseReply → Type 0} {Rest : Resting} {before : Option (List HouseMark)} {policy : Policy} {pid : ℕ} {start : Option (List Mark)} {seen : Seen} {held failed : List ℕ} {given : ℕ} {s : EngineState} where
  -- something waits for it alone where it was admitted
  waits-in : {now : Side} {todo : List ℕ} (v : Serving May Rest before now policy pid start seen held failed given todo s) (bytes : List ℕ) → bytes ≡ queue_in s HOUSE → 0 < length bytes → now.let_in ≡ true
  waits-in v bytes queue some = sym v.house_in ∙ by_in (is_accepted HOUSE v.journal) refl
    where
      no-server : HOUSE ≢ 0
      no-server e = absurd (omega (arith, e))

      by_in : (b : Bool) → is_accepted HOUSE v.journal ≡ b → b ≡ true
      by_in true e = refl
      by_in false e = true-false (sym (ap (λ b. b || among HOUSE s.refused) (queue-present s HOUSE bytes queue some no-server)) ∙ ((v.stands.at [] []).bytes.strange HOUSE e).not_here)

  pub handed : {recorded recorded' : Option (List HouseMark)} {known : Known} {calls : List HouseCall} (known' : Known) (v : Serving May Rest before (all_marks_noted recorded known calls) policy pid start seen held failed given (0 ∷ here s) s) (s' : EngineState) (bytes : List ℕ) → RecordsAsks recorded recorded' (HouseTook (length bytes) ∷ []) → known' ≡ known → bytes ≡ queue_in s HOUSE → 0 < length bytes
      → ((picked : List ℕ) (replies : List HouseReply) (marks : List Mark) (closed : List ℕ) → RepresentsSoFar picked replies s marks closed → among HOUSE closed ≡ false → Waiting bytes HOUSE s picked replies marks) → s' ≡ took_and_listed s HOUSE (length bytes) → GoesAlone s s' (Takes HOUSE bytes true) → Serving May Rest before (all_marks_noted recorded' known' (calls ++ Receives bytes ∷ [])) policy pid start (seen-with (HouseTook (length bytes) ∷ []) seen) held failed given (0 ∷ without HOUSE (here s')) s'
  handed {recorded} {recorded'} {known} known' v s' bytes h e queue some waiting is goes =
      let w = took-recorded known' (length bytes) v h e in
      house-takes w s' bytes refl (waits-in w bytes queue some) (took-covers (here s) (here s') (took-run s s' HOUSE (length bytes) is).streams) queue some (waiting w.picked w.replies w.journal w.closed w.stands (not-closed w)) is goes
    where
      no-server : HOUSE ≢ 0
      no-server e = absurd (omega (arith, e))

      not-closed : {now : Side} {todo : List ℕ} (w : Serving May Rest before now policy pid start seen held failed given todo s) → among HOUSE w.closed ≡ false
      not-closed w = by_closed (among HOUSE w.closed) refl
        where
          by_closed : (b : Bool) → among HOUSE w.closed ≡ b → b ≡ false
          by_closed false c = refl
          by_closed true c = true-false (sym (ap (λ b. b || among HOUSE s.refused) (queue-present s HOUSE bytes queue some no-server)) ∙ (w.stands.at [] []).rows.closed_gone HOUSE c)

  -- ---- it answers

  no-server-asked : {now : Side} {todo : List ℕ} (v : Serving May Rest before now policy pid start seen held failed given todo s) (client : ℕ) → is_accepted client v.journal ≡ true → client ≢ 0
  no-server-asked v client asked z = true-false (sym asked ∙ (ap (λ i. is_accepted i v.journal) z ∙ accepted-zero v.journal v.of_wire.lawful))

  pub answered : {May' : HouseReply → Type 0} {mid mid' recorded recorded' : Option (List HouseMark)} {calls : List HouseCall} (known known' : Known) (v : Serving May Rest before (all_marks_noted recorded known calls) policy pid start seen held failed given (0 ∷ without HOUSE (here s)) s) (s' : EngineState) (client id : ℕ) (reply : HouseReply) → known.present ≡ true → s.ended ≡ None → ReplyFits reply client id known.asks → RecordsAsks recorded recorded' (HouseAnswer client id reply ∷ [])
      → known' ≡ record known { asks = without_ask client id known.asks } → ((mark : Mark) → MarkRecords (HouseSays client id reply) mark → GoesOn May' mid mid' s s' mark) → EngineKeeps (HouseSays client id reply) s s' → Serving May Rest before (all_marks_noted recorded' known' (calls ++ calls_of (HouseAnswer client id reply ∷ []))) policy pid start (seen-with (HouseAnswer client id reply ∷ []) seen) held failed given (0 ∷ here s') s'
  answered {recorded' = recorded'} {calls = calls} known known' v s' client id reply within live fits h e goes keeps =
      let w = answer-recorded known client id reply v h in
      let asked : is_accepted client w.journal ≡ true = answer-asked known client id reply v h fits in
      let nz : client ≢ 0 = no-server-asked w client asked in
      subst (λ (k : Known). Serving May Rest before (all_marks_noted recorded' k (calls ++ calls_of (HouseAnswer client id reply ∷ []))) policy pid start (seen-with (HouseAnswer client id reply ∷ []) seen) held failed given (0 ∷ here s') s') (sym e)
      (house-answers w client id reply refl within asked (answer-open known client id reply v h fits) live (reply-covers (here s) (here s') (stayed (HouseSays client id reply) (House (HouseAnswer client id reply)) s s' (nz, refl) tt (keeps.streams live))) (goes (House (HouseAnswer client id reply)) (nz, refl)) keeps)

  -- which doesn't end the run
  pub answered-live : {recorded : Option (List HouseMark)} {calls : List HouseCall} (known : Known) {todo : List ℕ} (v : Serving May Rest before (all_marks_noted recorded known calls) policy pid start seen held failed given todo s) (s' : EngineState) (client id : ℕ) (reply : HouseReply) → s.ended ≡ None → ReplyFits reply client id known.asks → ((mark : Mark) → MarkRecords (HouseSays client id reply) mark → EndsBy (HouseSays client id reply) s s' mark) → s'.ended ≡ None
  answered-live known v s' client id reply live fits ends =
      let asked : is_accepted client v.journal ≡ true = reply-asked v.journal reply client id known.asks fits v.askers in
      let nz : client ≢ 0 = no-server-asked v client asked in
      ends (House (HouseAnswer client id reply)) (nz, refl) v.picked v.replies v.journal v.closed v.stands (nz, asked) live

  -- there was no memory for its answer
  pub cut-answered : {recorded recorded' : Option (List HouseMark)} {calls : List HouseCall} (known : Known) {todo : List ℕ} (v : Serving May Rest before (all_marks_noted recorded known calls) policy pid start seen held failed given todo s) (client id : ℕ) (reply : HouseReply) → known.present ≡ true → s.ended ≡ None → ReplyFits reply client id known.asks → RecordsAsks recorded recorded' (HouseAnswer client id reply ∷ []) → Promised May Rest before recorded' policy pid start (seen-with (HouseAnswer client id reply ∷ []) seen).recorded given
  cut-answered known v client id reply within live fits h = cut-answers (answer-recorded known client id reply v h) client id reply refl within (answer-asked known client id reply v h fits) (answer-open known client id reply v h fits) live
