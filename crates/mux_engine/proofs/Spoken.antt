-- What the forwarder sends as a client makes of all that holds while a wire is served.
use Rattle.std.proofs.Common.{◌≡◌, ◌≤◌, ◌<◌, ◌+◌, ℕ, Bool, true, false, List, [], ◌∷◌, ◌++◌, length, Option, Some, None, refl, sym, ap, ◌∙◌, subst, inl, inr, cond, arith, MatchResult, OnOk}
use Rattle.std.specs.Prelude.{All, IsTrue, nat_lt, Result, Ok, Err}
use Rattle.std.specs.Option.{option_map}
use Rattle.std.proofs.lemmas.Bool.Decides.{nat_tests}
use Rattle.ssh_fields.specs.Fields.{AreBytes}
use Rattle.mux_outside.specs.House.{HouseState, Known, OpenAsk, SendsFits, sends_marks}
use Rattle.mux_outside.specs.HouseCalls.{HandsOn, HouseCall, calls_of}
use Rattle.mux_outside.specs.Seen.{Seen}
use Rattle.mux_outside.specs.declared.house.HouseReply.{HouseReply}
use Rattle.mux_outside.specs.declared.house_mark.HouseMark.{HouseMark}
use Rattle.mux_outside.specs.declared.house_mark.HouseMark.TheVariants.{HouseSaid}
use Rattle.mux_outside.specs.declared.mark.Mark.{Mark}
use Rattle.mux_outside.specs.declared.mark.Mark.TheVariants.{Gets}
use Rattle.mux_outside.specs.declared.turn.Want.TheVariants.{Read, WriteOnly}
use Rattle.mux_history.specs.declared.ended.Ended.{Ended}
use Rattle.mux_history.specs.declared.ended.Ended.TheVariants as ended
use Rattle.mux_history.specs.declared.limits.TheConstants.{HOUSE, READING_STOPS_AT}
use Rattle.mux_history.specs.Journal.{is_accepted}
use Rattle.mux_history.specs.Policy.{Policy}
use Rattle.mux_peers.specs.Asked.{RecordsAsks}
use Rattle.mux_state.specs.State.{EngineState, queue_in}
use Rattle.mux_state.specs.Events.{MarkRecords, here}
use Rattle.mux_state.specs.declared.event.Event.{Event}
use Rattle.mux_state.specs.declared.event.Event.TheVariants.{Accepted, FromClient, ClientEnd, ClientFailed, HouseSays, FromServer, ServerEnd, ServerFailed}
use Rattle.mux_engine.specs.Asking.{AppliesEvent}
use Rattle.mux_engine.specs.Came.{EndsFor}
use Rattle.mux_engine.specs.Rests.{EndsByAsk, IsByRow}
use Rattle.mux_engine.specs.Serving.{Promised, Serving}
use Rattle.mux_engine.specs.Sides.{Resting, Side, all_marks_noted}
use Rattle.mux_engine.specs.Turns.{want_of}
use Rattle.mux_engine.proofs.Causes.{EndsSo}
use Rattle.mux_engine.proofs.Cuts.{cut-here, serve-recorded}
use Rattle.mux_engine.proofs.Handed.{event-applies}
use Rattle.mux_engine.proofs.HouseTakes.{house-said}
use Rattle.mux_engine.proofs.Noted.{seen-with}
use Rattle.mux_engine.proofs.Turned.{EventAt, event-ends}

-- more is read while few bytes wait for the server
room-of : (m n : ℕ) → cond (nat_lt m n) Read WriteOnly ≡ Read → m < n
room-of m n e = by_test (nat_lt m n) refl e
  where
    by_test : (b : Bool) → nat_lt m n ≡ b → cond b Read WriteOnly ≡ Read → m < n
    by_test true q f = grind (arith, nat_tests)
    by_test false q f = absurd (cc)

-- a run that goes on
pub row-live : (o : Option Ended) → o ≡ None → IsByRow o
row-live o e = record {
  unspent = λ f. let z : None ≡ Some ended.Spent = sym e ∙ f in cc;
  permitted = λ index f. let z : None ≡ Some (ended.StartRefused index) = sym e ∙ f in cc;
}

-- a result that is known
pub ok-serves : {A E : Type 0} (r : Result A E) {x : A} (P : A → Type 0) (Q : E → Type 0) → r ≡ Ok x → MatchResult r P Q → P x
ok-serves r P Q is m = subst (λ (q : Result _ _). MatchResult q P Q) is m

pub err-serves : {A E : Type 0} (r : Result A E) {x : E} (P : A → Type 0) (Q : E → Type 0) → r ≡ Err x → MatchResult r P Q → Q x
err-serves r P Q is m = subst (λ (q : Result _ _). MatchResult q P Q) is m

-- a run that ends by what the forwarder sent
abbrev stream-of : Mark → ℕ
stream-of (Gets k bytes) = k
stream-of mark = 0

pub asks-ends : (e : Event) (bytes : List ℕ) (o : Option Ended) → MarkRecords e (Gets HOUSE bytes) → EndsSo e o → EndsByAsk o
asks-ends (FromClient k said) bytes o t h = record {
  lives = h.may.0;
  by_row = record { unspent = h.may.1; permitted = h.may.2 };
  by_house = subst (λ (n : ℕ). EndsFor n o) (sym (ap stream-of t.1)) h.by;
}
asks-ends (FromServer said) bytes o t h = absurd (let z : HOUSE ≡ 0 = ap stream-of t in omega (arith, z))
asks-ends ServerEnd bytes o t h = absurd (let z = t in cc)
asks-ends (Accepted k) bytes o t h = absurd (let z = t in cc)
asks-ends (ClientEnd k) bytes o t h = absurd (let z = t.1 in cc)
asks-ends (ClientFailed k) bytes o t h = absurd (elim t.1 [ inl z ↦ cc | inr z ↦ cc ])
asks-ends (HouseSays k id reply) bytes o t h = absurd (let z = t.1 in cc)
asks-ends ServerFailed bytes o t h = absurd (elim t [ inl z ↦ cc | inr z ↦ cc ])

-- what was recorded with what it sent
pub recorded-nothing : {E : Type 0} (r : Result Bool E) (bytes : List ℕ) (recorded recorded' : Option (List HouseMark)) → r ≡ Ok false → recorded' ≡ option_map (λ marks. marks ++ sends_marks r bytes) recorded → RecordsAsks recorded recorded' []
recorded-nothing r bytes recorded recorded' is e = e ∙ ap (λ (x : Result Bool _). option_map (λ marks. marks ++ sends_marks x bytes) recorded) is

recorded-said : {E : Type 0} (r : Result Bool E) (bytes : List ℕ) (recorded recorded' : Option (List HouseMark)) → r ≡ Ok true → recorded' ≡ option_map (λ marks. marks ++ sends_marks r bytes) recorded → RecordsAsks recorded recorded' (HouseSaid bytes ∷ [])
recorded-said r bytes recorded recorded' is e = e ∙ ap (λ (x : Result Bool _). option_map (λ marks. marks ++ sends_marks x bytes) recorded) is

hands-said : {E : Type 0} (stands stands' : List HouseCall → Type 0) (r : Result Bool E) (bytes : List ℕ) → r ≡ Ok true → OnOk r (HandsOn stands stands' (calls_of (sends_marks r bytes))) → HandsOn stands stands' (calls_of (HouseSaid bytes ∷ []))
hands-said {E} stands stands' r bytes is h = subst (λ (x : Result Bool E). OnOk x (HandsOn stands stands' (calls_of (sends_marks x bytes)))) is h

pub hands-nothing : {E : Type 0} (stands stands' : List HouseCall → Type 0) (r : Result Bool E) (bytes : List ℕ) → r ≡ Ok false → OnOk r (HandsOn stands stands' (calls_of (sends_marks r bytes))) → HandsOn stands stands' []
hands-nothing {E} stands stands' r bytes is h = subst (λ (x : Result Bool E). OnOk x (HandsOn stands stands' (calls_of (sends_marks x bytes)))) is h

some-said : {E : Type 0} (r : Result Bool E) (bytes : List ℕ) → r ≡ Ok true → SendsFits r bytes → 0 < length bytes
some-said {E} r bytes is fits = let f : SendsFits {E = E} (Ok true) bytes = subst (λ (x : Result Bool E). SendsFits {E = E} x bytes) is fits in f.0

-- it sent these bytes, which it records
pub record Said (old new : HouseState) (bytes : List ℕ) : Type 0 where
  pub records : RecordsAsks old.recorded new.recorded (HouseSaid bytes ∷ [])
  pub same : new.known ≡ old.known
  pub hands : HandsOn old.stands new.stands (calls_of (HouseSaid bytes ∷ []))
  pub some : 0 < length bytes

pub said-so : {E : Type 0} (r : Result Bool E) (old new : HouseState) (bytes : List ℕ) → r ≡ Ok true → new.recorded ≡ option_map (λ marks. marks ++ sends_marks r bytes) old.recorded → new.known ≡ old.known → OnOk r (HandsOn old.stands new.stands (calls_of (sends_marks r bytes))) → SendsFits r bytes → Said old new bytes
said-so r old new bytes is recorded known hands fits = record { records = recorded-said r bytes old.recorded new.recorded is recorded; same = known; hands = hands-said old.stands new.stands r bytes is hands; some = some-said r bytes is fits }

-- as a client this is an event
pub record IsPiece (e : Event) (bytes : List ℕ) : Type 0 where
  pub is : MarkRecords e (Gets HOUSE bytes)
  pub few : length bytes ≤ 65536
  pub are : AreBytes bytes

module _ {May : HouseReply → Type 0} {Rest : Resting} {before : Option (List HouseMark)} {policy : Policy} {pid : ℕ} {start : Option (List Mark)} {seen : Seen} {held failed : List ℕ} {given : ℕ} {s : EngineState} {calls : List HouseCall} {house house' : HouseState} {bytes : List ℕ}
    (said : Said house house' bytes) (v : Serving May Rest before (all_marks_noted house.recorded house.known calls) policy pid start seen held failed given [] s) (live : s.ended ≡ None) (within : house.known.present ≡ true) (room : want_of s ≡ Read) where
  -- what it sent is not noted yet
  abbrev unnoted-yet : Side
  unnoted-yet = record { recorded = house'.recorded; asks = house'.known.asks; unnoted = HouseSaid bytes ∷ []; let_in = house'.known.present; calls = calls ++ calls_of (HouseSaid bytes ∷ []) }

  outgoing : Serving May Rest before unnoted-yet policy pid start seen held failed given [] s
  outgoing = serve-recorded v unnoted-yet (HouseSaid bytes ∷ []) said.records refl refl (subst (λ (l : List OpenAsk). All (λ (a : OpenAsk). IsTrue (is_accepted a.client v.journal)) l) (sym (ap (λ (k : Known). k.asks) said.same)) v.askers) (ap (λ (k : Known). k.asks) said.same) (ap (λ (k : Known). k.present) said.same) refl

  -- there was no memory to note it
  pub cut-said : (now : Option (List Mark)) → now ≡ seen.recorded → Promised May Rest before house'.recorded policy pid start now (given + 1)
  cut-said now e = cut-here v house'.recorded now (given + 1) (HouseSaid bytes ∷ []) e said.records refl (omega arith)

  module _ {e : Event} (piece : IsPiece e bytes) where
    said-at : EventAt outgoing live e (seen-with (HouseSaid bytes ∷ []) seen) (given + 1)
    said-at = house-said outgoing live e bytes refl (ap (λ (k : Known). k.present) said.same ∙ within) piece.is said.some piece.few piece.are (room-of (length (queue_in s 0)) READING_STOPS_AT room)

    pub said-applies : {A E : Type 0} (r : Result A E) (s' : EngineState) (asks : List HouseMark) (house'' : HouseState) (seen0 seen'' : Seen) → seen0 ≡ seen-with (HouseSaid bytes ∷ []) seen
        → AppliesEvent r May e s s' asks house' house'' seen0 seen'' → MatchResult r (λ x. Serving May Rest before (all_marks_noted house''.recorded house''.known ((calls ++ calls_of (HouseSaid bytes ∷ [])) ++ calls_of asks)) policy pid start seen'' held failed (given + 1) (0 ∷ here s') s') (λ x. Promised May Rest before house''.recorded policy pid start seen''.recorded (given + 1))
    said-applies r s' asks house'' seen0 seen'' after h = event-applies outgoing live e (seen-with (HouseSaid bytes ∷ []) seen) (given + 1) said-at r s' asks house'.recorded house''.recorded house'.known house''.known seen0 seen'' after refl refl refl h

    pub said-ends : {A E : Type 0} (r : Result A E) (s' : EngineState) (asks : List HouseMark) (house'' : HouseState) (seen0 seen'' : Seen) → AppliesEvent r May e s s' asks house' house'' seen0 seen'' → OnOk r (EndsSo e s'.ended)
    said-ends (Ok x) s' asks house'' seen0 seen'' h = event-ends outgoing live e (seen-with (HouseSaid bytes ∷ []) seen) (given + 1) said-at s' asks house'.recorded house''.recorded house'.known house''.known seen0 seen'' (length asks) h
    said-ends (Err x) s' asks house'' seen0 seen'' h = tt
