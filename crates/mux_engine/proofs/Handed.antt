-- What a call of wait makes of all that holds while a wire is served, with the event applied after
-- it.
use Rattle.std.proofs.Common.{◌≡◌, ◌≤◌, ◌<◌, ◌+◌, ℕ, Bool, true, false, not, ◌||◌, List, [], ◌∷◌, ◌++◌, length, drop, Option, Some, None, refl, sym, ap, ◌∙◌, subst, inl, inr, ◌⊎◌, cond, arith, append_assoc, MatchResult, OnOk}
use Rattle.std.specs.Prelude.{◌==◌, filter, IsTrue, Result, Ok, Err}
use Rattle.std.specs.Option.{option_map}
use Rattle.std.proofs.lemmas.Bool.Decides.{eqb_tells}
use Rattle.std.proofs.lemmas.List.{map-append}
use Rattle.std.proofs.lemmas.List.Folds.{list_any-append}
use Rattle.ssh_fields.specs.Fields.{AreBytes}
use Rattle.mux_outside.specs.HouseCalls.{End, Failed, Got, HandsOn, HouseCall, Joined, Turns, Writable, calls_of, happening_of}
use Rattle.mux_outside.specs.House.{HouseState, IsNewTo, Known, OwnTurnFits, Quiet, known_after_own_turn}
use Rattle.mux_outside.specs.OwnStreams.{is_one, is_own, is_silent, new_stream, numbers_of, with_end}
use Rattle.mux_outside.specs.Seen.{Seen, seen_after_turn}
use Rattle.mux_outside.specs.Streams.{among, without}
use Rattle.mux_outside.specs.Wire.{IsNewOwn, OwnFits, TurnFits}
use Rattle.mux_outside.specs.WireState.{WireState, state_after_wait}
use Rattle.mux_outside.specs.declared.house.HouseReply.{HouseReply}
use Rattle.mux_outside.specs.declared.house_mark.HouseMark.{HouseMark}
use Rattle.mux_outside.specs.declared.house_mark.HouseMark.TheVariants.{HouseIn, HouseSaid, HouseTook, HouseAsked, HouseAnswer, HouseOrder}
use Rattle.mux_outside.specs.declared.mark.Mark.{Mark}
use Rattle.mux_outside.specs.declared.mark.Mark.TheVariants.{Gets, Ends, Fails, Frees, Joins}
use Rattle.mux_outside.specs.declared.own_streams.OwnStream.{OwnStream}
use Rattle.mux_outside.specs.declared.own_streams.TheConstants.{LAST_CLIENT}
use Rattle.mux_outside.specs.declared.own_turn.OwnTurn.{OwnTurn}
use Rattle.mux_outside.specs.declared.own_turn.OwnTurn.TheVariants as recorded
use Rattle.mux_outside.specs.declared.piece.TheConstants.{LONGEST_PIECE}
use Rattle.mux_outside.specs.declared.turn.Tally.{Tally}
use Rattle.mux_outside.specs.declared.turn.Turn.{Turn}
use Rattle.mux_outside.specs.declared.turn.Turn.TheVariants as turn
use Rattle.mux_outside.specs.declared.turn.Want.{Want}
use Rattle.mux_history.specs.Policy.{Policy}
use Rattle.mux_history.specs.Promises.{is_empty}
use Rattle.mux_peers.specs.Asked.{known_after}
use Rattle.mux_state.specs.State.{EngineState}
use Rattle.mux_state.specs.Stands.{CutsShort}
use Rattle.mux_state.specs.Events.{here}
use Rattle.mux_state.specs.declared.event.Event.{Event}
use Rattle.mux_engine.specs.Asking.{Applied, AppliesSo}
use Rattle.mux_engine.specs.Owned.{waits_for_own}
use Rattle.mux_engine.specs.Rests.{HasNoneToClose, IsHouseReady, IsReadyFor, start_refusal_of, start_refused_if}
use Rattle.mux_engine.specs.Serving.{Promised, Serving}
use Rattle.mux_engine.specs.Sides.{Housed, IsAlone, Resting, RestsOf, SameHouse, Side, Together, all_marks_noted}
use Rattle.mux_engine.specs.declared.room.Lists.{Lists}
use Rattle.mux_engine.specs.Turns.{IsEventOf, IsOwnOf, failed_received, held_received, own_received, want_of}
use Rattle.mux_engine.proofs.Cuts.{cut-here, cut-still}
use Rattle.mux_engine.proofs.Called.{calling}
use Rattle.mux_engine.proofs.Causes.{EndsSo}
use Rattle.mux_engine.proofs.Lists.{among-last, among-other-last, or-last, test-same, true-false}
use Rattle.mux_engine.proofs.Marks.{serve-alone, serve-on}
use Rattle.mux_engine.proofs.Owns.{among-one, end-numbers}
use Rattle.mux_engine.proofs.OwnTurns.{client-frees, offered-again, own-ends, own-failed, own-frees, own-gets, own-joins}
use Rattle.mux_engine.proofs.Recorded.{records-none, recorded-none}
use Rattle.mux_engine.proofs.Turned.{EventAt, event-cut, event-ends, event-goes}
use Rattle.mux_engine.proofs.Waits.{Offered, filter-both, seen-waiting, wait-mark, waited}
use Rattle.mux_engine.proofs.WireTurns.{client-number, event-at, now-waiting, of-turn}

-- ---- what holds at a wait, and what is known of its answer

-- no client leaves, the run goes on, and each stream was offered what waits for it
pub record AtWait (Rest : Resting) (now : Side) (seen : Seen) (own held failed : List ℕ) (queue : ℕ → List ℕ) (s : EngineState) : Type 0 where
  pub none : s.leaving ≡ []
  pub admitted : s.refused ≡ []
  pub live : s.ended ≡ None
  pub offered : Offered seen own held failed queue
  pub receives : seen.listens ≡ s.listening
  pub all_noted : now.unnoted ≡ []
  pub rests : Rest.rests (want_of s) now.recorded now.calls seen.listeners seen.own (filter (waits_for_own queue failed) own) (filter (λ t. not (among t failed)) own)

-- where there is a forwarder and no refusal may be, none came
none-refused : (present must : Bool) (refused : Option ℕ) → IsTrue present → start_refused_if present must refused ≡ None → IsTrue must → refused ≡ None
none-refused true true refused p e m = e
none-refused true false refused p e m = true-false (sym m)
none-refused false must refused p e m = true-false (sym p)

-- what a turn of the run begins with: the forwarder is ready for a wait, and nothing ends the run
pub record BeginsTurn (house : HouseState) (wire : WireState) (lists : Lists) (s : EngineState) : Type 0 where
  pub together : Together house wire lists
  pub ready : IsReadyFor house lists s
  pub permitted : start_refusal_of house ≡ None
  pub closed : HasNoneToClose s
  pub on : s.ended ≡ None
  pub receives : wire.seen.listens ≡ s.listening

pub at-wait : {T : Type 0} (state : T → HouseState) (first house : T) (calls : List HouseCall) (wire : WireState) (lists : Lists) (s : EngineState) → BeginsTurn (state house) wire lists s → HandsOn (state first).stands (state house).stands calls
    → AtWait (RestsOf state (state house).known.present first) (all_marks_noted (state house).recorded (state house).known calls) wire.seen lists.own lists.held lists.failed (state house).queue s
at-wait state first house calls wire lists s b hands = let housed = b.together.housed in let ready = b.ready in record {
  none = b.closed.closed;
  admitted = b.closed.refused;
  live = b.on;
  offered = record { own_is = housed.own_is; opened = housed.places.opened; numbered = housed.places.numbered; offered = ready.no_more.offered };
  receives = b.receives;
  all_noted = refl;
  rests = λ present. (
    house,
    (
      record {
        orders = ready.no_more.orders present;
        answers = ready.no_more.answers present;
        rests = ready.rests present;
        permitted = none-refused (state house).known.present (state house).must (state house).refused present b.permitted;
      },
      refl,
      hands,
      record { listeners_are = housed.listeners; streams_are = housed.streams; none_awaited = housed.ordering },
      filter-both (λ t. not (among t lists.failed)) (λ t. not (is_empty ((state house).queue t))) lists.own,
    ),
  );
}

-- the wire gave this turn
pub record HasWaited (seen seen' : Seen) (own failed : List ℕ) (queue : ℕ → List ℕ) (s : EngineState) (t : Turn) (bytes : List ℕ) : Type 0 where
  pub seen_is : seen' ≡ seen_after_turn t (s.waiting ++ filter (waits_for_own queue failed) own) (want_of s) bytes seen
  pub are : AreBytes bytes
  pub fits : TurnFits t (want_of s) seen bytes
  pub own_fits : OwnFits t seen

pub has-waited : (wire wire' : WireState) (own failed : List ℕ) (queue : ℕ → List ℕ) (s : EngineState) (t : Turn) (bytes got : List ℕ) (todo waiting : List ℕ) (want : Want) (tally : Tally) → wire' ≡ state_after_wait t todo want bytes tally wire → todo ≡ waiting ++ filter (waits_for_own queue failed) own → waiting ≡ s.waiting → want ≡ want_of s → AreBytes got → got ≡ bytes
    → TurnFits t want wire.seen bytes → OwnFits t wire.seen → HasWaited wire.seen wire'.seen own failed queue s t bytes
has-waited wire wire' own failed queue s t bytes got todo waiting want tally after todo_is waiting_is want_is are same fits own_fits = record {
  seen_is = ap (λ (x : WireState). x.seen) after ∙ (ap (λ (l : List ℕ). seen_after_turn t l want bytes wire.seen) (todo_is ∙ ap (λ (l : List ℕ). l ++ filter (waits_for_own queue failed) own) waiting_is) ∙ ap (λ (w : Want). seen_after_turn t (s.waiting ++ filter (waits_for_own queue failed) own) w bytes wire.seen) want_is);
  are = subst AreBytes same are;
  fits = subst (λ (w : Want). TurnFits t w wire.seen bytes) want_is fits;
  own_fits = own_fits;
}

marked-twice : (a b : Mark) (recorded : Option (List Mark)) → option_map (λ m. m ++ (a ∷ b ∷ [])) recorded ≡ option_map (λ m. m ++ b ∷ []) (option_map (λ m. m ++ a ∷ []) recorded)
marked-twice a b None = refl
marked-twice a b (Some m) = ap (λ (l : List Mark). Some l) (sym (append_assoc m (a ∷ []) (b ∷ [])))

drop-all : (xs : List HouseMark) → drop (length xs) xs ≡ []
drop-all [] = refl
drop-all (x ∷ xs) = drop-all xs

-- requests change nothing else of what is known of a forwarder
pub after-asks : (asks : List HouseMark) (known : Known) → SameHouse known (known_after asks known)
after-asks [] known = record { present = refl; ordering = refl; listeners = refl; streams = refl }
after-asks (HouseAsked client id opening ask reply ∷ asks) known = let r = after-asks asks (record known { asks = _ }) in record { present = r.present; ordering = r.ordering; listeners = r.listeners; streams = r.streams }
after-asks (HouseIn ∷ asks) known = after-asks asks known
after-asks (HouseSaid bytes ∷ asks) known = after-asks asks known
after-asks (HouseTook size ∷ asks) known = after-asks asks known
after-asks (HouseAnswer client id reply ∷ asks) known = after-asks asks known
after-asks (HouseOrder order number ∷ asks) known = after-asks asks known

-- ---- an event that was recorded

module _ {May : HouseReply → Type 0} {Rest : Resting} {before : Option (List HouseMark)} {now : Side} {policy : Policy} {pid : ℕ} {start : Option (List Mark)} {seen : Seen} {held failed : List ℕ} {given : ℕ} {s : EngineState}
    (v : Serving May Rest before now policy pid start seen held failed given [] s) (live : s.ended ≡ None) (e : Event) (seen' : Seen) (given' : ℕ) (at : EventAt v live e seen' given') where
  -- it was applied, and all requests were noted; or there was no memory for that
  pub event-applies : {A E : Type 0} (r : Result A E) (s' : EngineState) (asks : List HouseMark) (recorded recorded' : Option (List HouseMark)) (known known' : Known) (seen0 seen'' : Seen) → seen0 ≡ seen' → now.recorded ≡ recorded → now.asks ≡ known.asks → now.let_in ≡ known.present
      → Applied r May e s s' asks recorded recorded' known known' seen0 seen'' → MatchResult r (λ x. Serving May Rest before (all_marks_noted recorded' known' (now.calls ++ calls_of asks)) policy pid start seen'' held failed given' (0 ∷ here s') s') (λ x. Promised May Rest before recorded' policy pid start seen''.recorded given')
  event-applies (Ok x) s' asks recorded recorded' known known' seen0 seen'' is same_recorded same_asks same_present h =
      let h' : AppliesSo May e s s' asks recorded recorded' known known' seen' seen'' (length asks) = subst (λ (y : Seen). AppliesSo May e s s' asks recorded recorded' known known' y seen'' (length asks)) is h in
      let goes : Serving May Rest before (record { recorded = recorded'; asks = known'.asks; unnoted = drop (length asks) asks; let_in = now.let_in; calls = now.calls ++ calls_of asks }) policy pid start seen'' held failed given' (0 ∷ here s') s' =
      event-goes v live e seen' given' at s' asks recorded recorded' known known' seen'' (length asks) same_recorded same_asks h' in
      let within : now.let_in ≡ known'.present = same_present ∙ sym (ap (λ (k : Known). k.present) h.known_is ∙ (after-asks asks known).present) in
      subst (λ (b : Bool). Serving May Rest before (record { recorded = recorded'; asks = known'.asks; unnoted = []; let_in = b; calls = now.calls ++ calls_of asks }) policy pid start seen'' held failed given' (0 ∷ here s') s') within
      (subst (λ (l : List HouseMark). Serving May Rest before (record { recorded = recorded'; asks = known'.asks; unnoted = l; let_in = now.let_in; calls = now.calls ++ calls_of asks }) policy pid start seen'' held failed given' (0 ∷ here s') s') (drop-all asks) goes)
  event-applies (Err x) s' asks recorded recorded' known known' seen0 seen'' is same_recorded same_asks same_present (inl u) =
      subst (λ (y : Seen). Promised May Rest before recorded' policy pid start y.recorded given') (sym (u.seen_is ∙ is))
      (event-cut v live e seen' given' at recorded' (λ mark t. subst (λ (o : Option (List HouseMark)). CutsShort May o recorded' s mark) (sym same_recorded) (u.cut mark t)))
  event-applies (Err x) s' asks recorded recorded' known known' seen0 seen'' is same_recorded same_asks same_present (inr p) =
      let h' : AppliesSo May e s s' asks recorded recorded' known known' seen' seen'' p.0 = subst (λ (y : Seen). AppliesSo May e s s' asks recorded recorded' known known' y seen'' p.0) is p.1 in
      cut-still (event-goes v live e seen' given' at s' asks recorded recorded' known known' seen'' p.0 same_recorded same_asks h') seen''.recorded refl

-- ---- all that holds then

module _ {May : HouseReply → Type 0} {Rest : Resting} {before : Option (List HouseMark)} {now : Side} {policy : Policy} {pid : ℕ} {start : Option (List Mark)} {seen : Seen} {held failed : List ℕ} {given : ℕ} {s : EngineState}
    (v : Serving May Rest before now policy pid start seen held failed given [] s) {own : List ℕ} {queue : ℕ → List ℕ} (a : AtWait Rest now seen own held failed queue s) where
  abbrev recorded-waiting : Serving May Rest before now policy pid start (seen-waiting v a.none a.admitted a.live a.offered) held failed (given + 1) [] s
  recorded-waiting = now-waiting v a.none a.admitted a.live a.offered a.receives a.all_noted a.rests

  abbrev seen-then : Turn → List ℕ → Seen
  seen-then t bytes = seen_after_turn t (s.waiting ++ filter (waits_for_own queue failed) own) (want_of s) bytes seen

  module _ {seen' : Seen} {t : Turn} {bytes : List ℕ} (w : HasWaited seen seen' own failed queue s t bytes) where
    event-there : (e : Event) → IsEventOf e t bytes → EventAt (now-waiting v a.none a.admitted a.live a.offered a.receives a.all_noted a.rests) a.live e (seen-then t bytes) (given + 1)
    event-there e next = event-at v a.none a.admitted a.live a.offered a.receives a.all_noted a.rests t bytes e w.are w.fits w.own_fits next

    -- the engine applied an event
    pub turn-applies : {A E : Type 0} (r : Result A E) (e : Event) → IsEventOf e t bytes → (s' : EngineState) (asks : List HouseMark) (recorded recorded' : Option (List HouseMark)) (known known' : Known) (seen'' : Seen) → now.recorded ≡ recorded → now.asks ≡ known.asks → now.let_in ≡ known.present
        → Applied r May e s s' asks recorded recorded' known known' seen' seen'' → MatchResult r (λ x. Serving May Rest before (all_marks_noted recorded' known' (now.calls ++ calls_of asks)) policy pid start seen'' held failed (given + 1) (0 ∷ here s') s') (λ x. Promised May Rest before recorded' policy pid start seen''.recorded (given + 1))
    turn-applies r e next s' asks recorded recorded' known known' seen'' same_recorded same_asks same_present h =
        event-applies recorded-waiting a.live e (seen-then t bytes) (given + 1) (event-there e next) r s' asks recorded recorded' known known' seen' seen'' w.seen_is same_recorded same_asks same_present h

    -- it may end so
    pub turn-ends : {A E : Type 0} (r : Result A E) (e : Event) → IsEventOf e t bytes → (s' : EngineState) (asks : List HouseMark) (recorded recorded' : Option (List HouseMark)) (known known' : Known) (seen'' : Seen) → Applied r May e s s' asks recorded recorded' known known' seen' seen'' → OnOk r (EndsSo e s'.ended)
    turn-ends (Ok x) e next s' asks recorded recorded' known known' seen'' h = event-ends (now-waiting v a.none a.admitted a.live a.offered a.receives a.all_noted a.rests) a.live e (seen-then t bytes) (given + 1) (event-there e next) s' asks recorded recorded' known known' seen' seen'' (length asks) h
    turn-ends (Err x) e next s' asks recorded recorded' known known' seen'' h = tt

    -- one of the master's own listeners or streams gave something
    by-turn : (o : OwnTurn) → IsOwnOf o t bytes → Serving May Rest before (calling now (Turns (happening_of o) ∷ [])) policy pid start (seen-then t bytes) (held_received o held) (failed_received o failed) (given + 1) (0 ∷ here s) s
    unfolding waited serve-alone serve-on
    by-turn (recorded.Joined l k) next =
        let fits : OwnFits (turn.Joined l k) seen = subst (λ (x : Turn). OwnFits x seen) next w.own_fits in
        let of = of-turn v a.none a.admitted a.live a.offered a.receives a.all_noted a.rests (turn.Joined l k) bytes w.are (subst (λ (x : Turn). TurnFits x (want_of s) seen bytes) next w.fits) fits in
        subst (λ (x : Turn). Serving May Rest before (calling now (Turns (Joined l k) ∷ [])) policy pid start (seen-then x bytes) held failed (given + 1) (0 ∷ here s) s) (sym next)
        (offered-again (own-joins recorded-waiting l k fits.0 a.all_noted fits.1 (seen-then (turn.Joined l k) bytes) (marked-twice (wait-mark v a.none a.admitted a.live a.offered) (Joins l k) seen.recorded) of refl refl refl refl refl refl refl))
    by-turn (recorded.Got k got) next =
        let fits : TurnFits (turn.Got k) (want_of s) seen bytes = subst (λ (x : Turn). TurnFits x (want_of s) seen bytes) next.1 w.fits in
        let of = of-turn v a.none a.admitted a.live a.offered a.receives a.all_noted a.rests (turn.Got k) bytes w.are fits (subst (λ (x : Turn). OwnFits x seen) next.1 w.own_fits) in
        subst (λ (l : List ℕ). Serving May Rest before (calling now (Turns (Got k l) ∷ [])) policy pid start (seen-then t bytes) held failed (given + 1) (0 ∷ here s) s) (sym next.2)
        (subst (λ (x : Turn). Serving May Rest before (calling now (Turns (Got k bytes) ∷ [])) policy pid start (seen-then x bytes) held failed (given + 1) (0 ∷ here s) s) (sym next.1)
        (offered-again (own-gets recorded-waiting k fits.1 (seen-then (turn.Got k) bytes) next.0 (subst (λ (x : Turn). OwnFits x seen) next.1 w.own_fits next.0) a.all_noted bytes w.are
        record { recorded = marked-twice (wait-mark v a.none a.admitted a.live a.offered) (Gets k bytes) seen.recorded; of_wire = of; streams = refl; blocked = refl; last = refl; last_own = refl; listens = refl; listeners = refl; own = refl })))
    by-turn (recorded.End k) next =
        let fits : TurnFits (turn.End k) (want_of s) seen bytes = subst (λ (x : Turn). TurnFits x (want_of s) seen bytes) next.1 w.fits in
        let of = of-turn v a.none a.admitted a.live a.offered a.receives a.all_noted a.rests (turn.End k) bytes w.are fits (subst (λ (x : Turn). OwnFits x seen) next.1 w.own_fits) in
        subst (λ (x : Turn). Serving May Rest before (calling now (Turns (End k) ∷ [])) policy pid start (seen-then x bytes) held failed (given + 1) (0 ∷ here s) s) (sym next.1)
        (offered-again (own-ends recorded-waiting k fits.1 (seen-then (turn.End k) bytes) next.0 (subst (λ (x : Turn). OwnFits x seen) next.1 w.own_fits next.0) a.all_noted
        record { recorded = marked-twice (wait-mark v a.none a.admitted a.live a.offered) (Ends k) seen.recorded; of_wire = of; streams = refl; blocked = refl; last = refl; last_own = refl; listens = refl; listeners = refl; own = refl }))
    by-turn (recorded.Writable k) next =
        let fits : TurnFits (turn.Writable k) (want_of s) seen bytes = subst (λ (x : Turn). TurnFits x (want_of s) seen bytes) next.1 w.fits in
        let of = of-turn v a.none a.admitted a.live a.offered a.receives a.all_noted a.rests (turn.Writable k) bytes w.are fits (subst (λ (x : Turn). OwnFits x seen) next.1 w.own_fits) in
        subst (λ (x : Turn). Serving May Rest before (calling now (Turns (Writable k) ∷ [])) policy pid start (seen-then x bytes) (without k held) failed (given + 1) (0 ∷ here s) s) (sym next.1)
        (offered-again (own-frees recorded-waiting k fits.0 (seen-then (turn.Writable k) bytes) next.0 a.all_noted
        record { recorded = marked-twice (wait-mark v a.none a.admitted a.live a.offered) (Frees k) seen.recorded; of_wire = of; streams = refl; blocked = refl; last = refl; last_own = refl; listens = refl; listeners = refl; own = refl }))
    by-turn (recorded.Failed k) next =
        let fits : TurnFits (turn.Failed k) (want_of s) seen bytes = subst (λ (x : Turn). TurnFits x (want_of s) seen bytes) next.1 w.fits in
        let of = of-turn v a.none a.admitted a.live a.offered a.receives a.all_noted a.rests (turn.Failed k) bytes w.are fits (subst (λ (x : Turn). OwnFits x seen) next.1 w.own_fits) in
        subst (λ (x : Turn). Serving May Rest before (calling now (Turns (Failed k) ∷ [])) policy pid start (seen-then x bytes) held (failed ++ k ∷ []) (given + 1) (0 ∷ here s) s) (sym next.1)
        (offered-again (own-failed recorded-waiting k fits (seen-then (turn.Failed k) bytes) next.0 a.all_noted
        record { recorded = marked-twice (wait-mark v a.none a.admitted a.live a.offered) (Fails k) seen.recorded; of_wire = of; streams = refl; blocked = refl; last = refl; last_own = refl; listens = refl; listeners = refl; own = refl }))

    pub turn-owns : (o : OwnTurn) → IsOwnOf o t bytes → Serving May Rest before (calling now (Turns (happening_of o) ∷ [])) policy pid start seen' (held_received o held) (failed_received o failed) (given + 1) (0 ∷ here s) s
    turn-owns o next = subst (λ (x : Seen). Serving May Rest before (calling now (Turns (happening_of o) ∷ [])) policy pid start x (held_received o held) (failed_received o failed) (given + 1) (0 ∷ here s) s) (sym w.seen_is) (by-turn o next)

    -- a stream of the server or a client accepts bytes again
    by-room : (k : ℕ) → is_own k ≡ false → t ≡ turn.Writable k → Serving May Rest before now policy pid start (seen-then t bytes) (without k held) failed (given + 1) (0 ∷ here s) s
    unfolding waited serve-alone serve-on
    by-room k client is =
        let fits : TurnFits (turn.Writable k) (want_of s) seen bytes = subst (λ (x : Turn). TurnFits x (want_of s) seen bytes) is w.fits in
        let of = of-turn v a.none a.admitted a.live a.offered a.receives a.all_noted a.rests (turn.Writable k) bytes w.are fits (subst (λ (x : Turn). OwnFits x seen) is w.own_fits) in
        subst (λ (x : Turn). Serving May Rest before now policy pid start (seen-then x bytes) (without k held) failed (given + 1) (0 ∷ here s) s) (sym is)
        (client-frees recorded-waiting k fits.0 (seen-then (turn.Writable k) bytes) client
        record { recorded = marked-twice (wait-mark v a.none a.admitted a.live a.offered) (Frees k) seen.recorded; of_wire = of; streams = refl; blocked = refl; last = refl; last_own = refl; listens = refl; listeners = refl; own = refl })

    pub turn-frees : (k : ℕ) → is_own k ≡ false → t ≡ turn.Writable k → Serving May Rest before now policy pid start seen' (without k held) failed (given + 1) (0 ∷ here s) s
    turn-frees k client is = subst (λ (x : Seen). Serving May Rest before now policy pid start x (without k held) failed (given + 1) (0 ∷ here s) s) (sym w.seen_is) (by-room k client is)

    -- there was no memory
    pub turn-starved : t ≡ turn.NoMemory → Promised May Rest before now.recorded policy pid start seen'.recorded (given + 1)
    turn-starved is = cut-here v now.recorded seen'.recorded (given + 1) []
        (ap (λ (x : Seen). x.recorded) w.seen_is ∙ (ap (λ (x : Turn). (seen-then x bytes).recorded) is ∙ recorded-none seen.recorded)) (records-none now.recorded) refl (omega arith)

-- ---- the forwarder's streams and listeners

-- where the same are open
pub housed-as : (known known' : Known) (seen seen' : Seen) (own : List ℕ) → Housed known seen own → known'.ordering ≡ known.ordering → known'.listeners ≡ known.listeners → known'.streams ≡ known.streams → seen'.listeners ≡ seen.listeners → seen'.own ≡ seen.own → seen'.streams ≡ seen.streams → seen'.last_own ≡ seen.last_own → Housed known' seen' own
housed-as known known' seen seen' own h order listens streams ls os ss last = record {
  ordering = order ∙ h.ordering;
  listeners = listens ∙ (h.listeners ∙ sym ls);
  streams = streams ∙ (h.streams ∙ sym os);
  own_is = h.own_is ∙ ap numbers_of (sym os);
  places = record {
    opened = λ t one. ap (among t) ss ∙ h.places.opened t (ap (is_one t) (sym os) ∙ one);
    numbered = λ t one. h.places.numbered t (ap (is_one t) (sym os) ∙ one);
    listed = λ t x is. ap (is_one t) os ∙ h.places.listed t (ap (among t) (sym ss) ∙ x) is;
    given = λ t one. subst (λ (n : ℕ). t ≤ n) (sym last) (h.places.given t (ap (is_one t) (sym os) ∙ one));
    listening = λ l x. subst (λ (n : ℕ). l ≤ n) (sym last) (h.places.listening l (ap (among l) (sym ls) ∙ x));
  };
}

-- a stream that is none of them gives no more
end-other : (k : ℕ) (own : List OwnStream) → is_one k own ≡ false → with_end k own ≡ own
end-other k [] e = refl
end-other k (o ∷ own) e = by_test (o.number == k) refl e (end-other k own)
  where
    by_test : (b : Bool) → (o.number == k) ≡ b → (b || is_one k own) ≡ false → (is_one k own ≡ false → with_end k own ≡ own) → cond (o.number == k) (record o { ended = true }) o ∷ with_end k own ≡ o ∷ own
    by_test true q f ih = true-false f
    by_test false q f ih = ap (λ c. cond c (record o { ended = true }) o ∷ with_end k own) q ∙ ap (λ l. o ∷ l) (ih f)

-- no client's stream is one of them
no-client : (known : Known) (seen : Seen) (own : List ℕ) → Housed known seen own → (k : ℕ) → is_own k ≡ false → is_one k seen.own ≡ false
no-client known seen own h k client = by_one (is_one k seen.own) refl
  where
    by_one : (b : Bool) → is_one k seen.own ≡ b → b ≡ false
    by_one false e = refl
    by_one true e = true-false (sym (h.places.numbered k e) ∙ client)

-- after what a client or the server gave
event-housed : (known : Known) (seen : Seen) (own waiting : List ℕ) (want : Want) (t : Turn) (bytes : List ℕ) (e : Event) → Housed known seen own → TurnFits t want seen bytes → IsEventOf e t bytes → Housed known (seen_after_turn t waiting want bytes seen) own
event-housed known seen own waiting want (turn.Accepted k) bytes e h fits next =
    let client : is_own k ≡ false = client-number k (let n : k ≡ seen.last + 1 = fits.2 in let l : seen.last < LAST_CLIENT = fits.3 in omega arith) in
    record {
      ordering = h.ordering;
      listeners = h.listeners;
      streams = h.streams;
      own_is = h.own_is;
      places = record {
        opened = λ t one. among-last k t seen.streams ∙ ap (λ b. b || ((k == t) || false)) (h.places.opened t one);
        numbered = h.places.numbered;
        listed = λ t a is. elim (eqb_tells k t) [
          | inl q ↦ true-false (sym is ∙ (ap is_own (sym q.1) ∙ client))
          | inr q ↦ h.places.listed t (sym (among-other-last k t seen.streams q.1) ∙ a) is
        ];
        given = h.places.given;
        listening = h.places.listening;
      };
    }
event-housed known seen own waiting want (turn.Got k) bytes e h fits next = housed-as known known seen (seen_after_turn (turn.Got k) waiting want bytes seen) own h refl refl refl refl refl refl refl
event-housed known seen own waiting want (turn.End k) bytes e h fits next = housed-as known known seen (seen_after_turn (turn.End k) waiting want bytes seen) own h refl refl refl refl (end-other k seen.own (no-client known seen own h k next.0)) refl refl
event-housed known seen own waiting want (turn.Failed k) bytes e h fits next = housed-as known known seen (seen_after_turn (turn.Failed k) waiting want bytes seen) own h refl refl refl refl refl refl refl
event-housed known seen own waiting want (turn.Writable k) bytes e h fits next = absurd next
event-housed known seen own waiting want (turn.Joined l k) bytes e h fits next = absurd next
event-housed known seen own waiting want turn.NoMemory bytes e h fits next = absurd next

pub turn-housed : {A E : Type 0} (r : Result A E) (May : HouseReply → Type 0) {seen seen' : Seen} {own failed : List ℕ} {queue : ℕ → List ℕ} {s : EngineState} {t : Turn} {bytes : List ℕ} → HasWaited seen seen' own failed queue s t bytes → (e : Event) → IsEventOf e t bytes → (s' : EngineState) (asks : List HouseMark) (recorded recorded' : Option (List HouseMark)) (known known' : Known) (seen'' : Seen)
    → Applied r May e s s' asks recorded recorded' known known' seen' seen'' → Housed known seen own → OnOk r (Housed known' seen'' own)
turn-housed (Ok x) May {seen = seen} {seen' = seen'} {own = own} {failed = failed} {queue = queue} {s = s} {t = t} {bytes = bytes} w e next s' asks recorded recorded' known known' seen'' h housed =
    let all : List ℕ = s.waiting ++ filter (waits_for_own queue failed) own in
    let then : Seen = seen_after_turn t all (want_of s) bytes seen in
    let same : SameHouse known known' = subst (SameHouse known) (sym h.known_is) (after-asks asks known) in
    housed-as known known' then seen'' own (event-housed known seen own all (want_of s) t bytes e housed w.fits next) same.ordering same.listeners same.streams
    (ap (λ (y : Seen). y.listeners) h.seen_is ∙ ap (λ (y : Seen). y.listeners) w.seen_is) (ap (λ (y : Seen). y.own) h.seen_is ∙ ap (λ (y : Seen). y.own) w.seen_is) (ap (λ (y : Seen). y.streams) h.seen_is ∙ ap (λ (y : Seen). y.streams) w.seen_is) (ap (λ (y : Seen). y.last_own) h.seen_is ∙ ap (λ (y : Seen). y.last_own) w.seen_is)
turn-housed (Err x) May w e next s' asks recorded recorded' known known' seen'' h housed = tt

-- all but its requests stays
pub turn-house : {A E : Type 0} (r : Result A E) (May : HouseReply → Type 0) (e : Event) (s s' : EngineState) (asks : List HouseMark) (recorded recorded' : Option (List HouseMark)) (known known' : Known) (seen seen' : Seen) → Applied r May e s s' asks recorded recorded' known known' seen seen' → OnOk r (SameHouse known known')
turn-house (Ok x) May e s s' asks recorded recorded' known known' seen seen' h = subst (SameHouse known) (sym h.known_is) (after-asks asks known)
turn-house (Err x) May e s s' asks recorded recorded' known known' seen seen' h = tt

-- ---- what the forwarder may be given

-- a number is new to it that is new to the wire
new-to : (known : Known) (seen : Seen) (own : List ℕ) → Housed known seen own → (k : ℕ) → IsNewOwn seen.last_own k → IsNewTo known k
new-to known seen own h k new = record {
  no_listener = by_listener (among k known.listeners) refl;
  no_stream = by_stream (is_one k known.streams) refl;
}
  where
    by_listener : (b : Bool) → among k known.listeners ≡ b → b ≡ false
    by_listener false e = refl
    by_listener true e = let a : k ≤ seen.last_own = h.places.listening k (ap (among k) (sym h.listeners) ∙ e) in let b : seen.last_own < k = new.above in absurd (omega arith)

    by_stream : (b : Bool) → is_one k known.streams ≡ b → b ≡ false
    by_stream false e = refl
    by_stream true e = let a : k ≤ seen.last_own = h.places.given k (ap (is_one k) (sym h.streams) ∙ e) in let b : seen.last_own < k = new.above in absurd (omega arith)

-- where it has a stream it is there
there : (known : Known) → IsAlone known → (k : ℕ) → is_one k known.streams ≡ true → IsTrue known.present
there known alone k one = by_present known.present refl
  where
    by_present : (b : Bool) → known.present ≡ b → b ≡ true
    by_present true e = refl
    by_present false e = true-false (sym one ∙ ap (is_one k) (alone.streams e))

pub turn-fits : {seen seen' : Seen} {own failed held : List ℕ} {queue : ℕ → List ℕ} {s : EngineState} {t : Turn} {bytes : List ℕ} → HasWaited seen seen' own failed queue s t bytes → (o : OwnTurn) → IsOwnOf o t bytes → (known : Known) (quiet : Quiet) → Housed known seen own → IsAlone known → IsHouseReady known quiet queue held failed own s → OwnTurnFits o known quiet
turn-fits {seen = seen} {own = own} {s = s} {t = t} {bytes = bytes} w o next known quiet h alone ready = by_turn o next
  where
    Fits : Turn → Type 0
    Fits x = TurnFits x (want_of s) seen bytes

    Owns : Turn → Type 0
    Owns x = OwnFits x seen

    one : (k : ℕ) → among k seen.streams ≡ true → IsTrue (is_own k) → is_one k known.streams ≡ true
    one k found is = ap (is_one k) h.streams ∙ h.places.listed k found is

    loud : (k : ℕ) → is_silent k seen.own ≡ false → is_silent k known.streams ≡ false
    loud k e = ap (is_silent k) h.streams ∙ e

    by_turn : (o : OwnTurn) → IsOwnOf o t bytes → OwnTurnFits o known quiet
    by_turn (recorded.Joined l k) next = let f : Owns (turn.Joined l k) = subst Owns next w.own_fits in (ap (among l) h.listeners ∙ f.0, new-to known seen own h k f.1)
    by_turn (recorded.Got k got) next =
        let f : Fits (turn.Got k) = subst Fits next.1 w.fits in
        let g : Owns (turn.Got k) = subst Owns next.1 w.own_fits in
        let is = one k f.1 next.0 in
        (record { own = is; loud = loud k (g next.0) }, ready.rests (there known alone k is) f.0, subst (λ (l : List ℕ). 0 < length l) (sym next.2) f.2, subst (λ (l : List ℕ). length l ≤ LONGEST_PIECE) (sym next.2) f.3)
    by_turn (recorded.End k) next =
        let f : Fits (turn.End k) = subst Fits next.1 w.fits in
        let g : Owns (turn.End k) = subst Owns next.1 w.own_fits in
        record { own = one k f.1 next.0; loud = loud k (g next.0) }
    by_turn (recorded.Writable k) next = let f : Fits (turn.Writable k) = subst Fits next.1 w.fits in one k f.0 next.0
    by_turn (recorded.Failed k) next = let f : Fits (turn.Failed k) = subst Fits next.1 w.fits in one k f next.0

-- ---- what the forwarder knows then

-- where there is no forwarder it still has nothing
pub alone-as : (known known' : Known) → SameHouse known known' → IsAlone known → IsAlone known'
alone-as known known' same alone = record {
  listeners = λ out. same.listeners ∙ alone.listeners (sym same.present ∙ out);
  streams = λ out. same.streams ∙ alone.streams (sym same.present ∙ out);
}

-- of what is recorded, it keeps whether it is there and its requests
pub record SameAsks (known known' : Known) : Type 0 where
  pub present : known'.present ≡ known.present
  pub asks : known'.asks ≡ known.asks

pub heard-asks : (o : OwnTurn) (known known' : Known) → known' ≡ known_after_own_turn o known → SameAsks known known'
heard-asks (recorded.Joined l k) known known' e = record { present = ap (λ (x : Known). x.present) e; asks = ap (λ (x : Known). x.asks) e }
heard-asks (recorded.Got k bytes) known known' e = record { present = ap (λ (x : Known). x.present) e; asks = ap (λ (x : Known). x.asks) e }
heard-asks (recorded.End k) known known' e = record { present = ap (λ (x : Known). x.present) e; asks = ap (λ (x : Known). x.asks) e }
heard-asks (recorded.Writable k) known known' e = record { present = ap (λ (x : Known). x.present) e; asks = ap (λ (x : Known). x.asks) e }
heard-asks (recorded.Failed k) known known' e = record { present = ap (λ (x : Known). x.present) e; asks = ap (λ (x : Known). x.asks) e }

pub own-noted : {May : HouseReply → Type 0} {Rest : Resting} {before : Option (List HouseMark)} {policy : Policy} {pid : ℕ} {start : Option (List Mark)} {seen : Seen} {given : ℕ} {todo : List ℕ} {s : EngineState} {calls : List HouseCall} (o : OwnTurn) (recorded recorded' : Option (List HouseMark)) (known known' : Known) (held held' failed failed' : List ℕ)
    → recorded' ≡ recorded → known' ≡ known_after_own_turn o known → held' ≡ held_received o held → failed' ≡ failed_received o failed → Serving May Rest before (all_marks_noted recorded known calls) policy pid start seen (held_received o held) (failed_received o failed) given todo s → Serving May Rest before (all_marks_noted recorded' known' calls) policy pid start seen held' failed' given todo s
own-noted {May} {Rest} {before} {policy} {pid} {start} {seen} {given} {todo} {s} {calls} o recorded recorded' known known' held held' failed failed' e f h i v =
    let same : SameAsks known known' = heard-asks o known known' f in
    let side : all_marks_noted recorded known calls ≡ all_marks_noted recorded' known' calls = ap (λ (t : Option (List HouseMark)). all_marks_noted t known calls) (sym e) ∙ (ap (λ (l : _). record (all_marks_noted recorded' known calls) { asks = l }) (sym same.asks) ∙ ap (λ (b : Bool). record (all_marks_noted recorded' known' calls) { let_in = b }) (sym same.present)) in
    subst (λ (n : Side). Serving May Rest before n policy pid start seen held' failed' given todo s) side
    (subst (λ (l : List ℕ). Serving May Rest before (all_marks_noted recorded known calls) policy pid start seen l failed' given todo s) (sym h)
    (subst (λ (l : List ℕ). Serving May Rest before (all_marks_noted recorded known calls) policy pid start seen (held_received o held) l given todo s) (sym i) v))

-- a stream that gives no more keeps its number
end-one : (k t : ℕ) (own : List OwnStream) → is_one t (with_end k own) ≡ is_one t own
end-one k t own = sym (among-one t (with_end k own)) ∙ (ap (among t) (end-numbers k own) ∙ among-one t own)

one-last : (t n : ℕ) (own : List OwnStream) → is_one t (own ++ new_stream n ∷ []) ≡ (is_one t own || ((n == t) || false))
one-last t n own = list_any-append (λ (o : OwnStream). o.number == t) own (new_stream n ∷ [])

either-one : (t n : ℕ) (own : List OwnStream) → is_one t (own ++ new_stream n ∷ []) ≡ true → (is_one t own ≡ true) ⊎ (n ≡ t)
either-one t n own h = elim (eqb_tells n t) [
  | inl q ↦ inr q.1
  | inr q ↦ inl (split (is_one t own) refl q.0)
]
  where
    split : (b : Bool) → is_one t own ≡ b → (n == t) ≡ false → b ≡ true
    split true e f = refl
    split false e f = true-false (sym (sym (one-last t n own ∙ (ap (λ b. b || ((n == t) || false)) e ∙ ap (λ b. b || false) f)) ∙ h))

own-housed : (o : OwnTurn) (known : Known) (seen : Seen) (own waiting : List ℕ) (want : Want) (bytes : List ℕ) (t : Turn) → Housed known seen own → OwnFits t seen → IsOwnOf o t bytes → Housed (known_after_own_turn o known) (seen_after_turn t waiting want bytes seen) (own_received o own)
own-housed (recorded.Joined l k) known seen own waiting want bytes t h fits next =
    let f : OwnFits (turn.Joined l k) seen = subst (λ (x : Turn). OwnFits x seen) next fits in
    let new : IsNewOwn seen.last_own k = f.1 in
    subst (λ (x : Turn). Housed (record known { streams = known.streams ++ new_stream k ∷ [] }) (seen_after_turn x waiting want bytes seen) (own ++ k ∷ [])) (sym next) record {
      ordering = h.ordering;
      listeners = h.listeners;
      streams = ap (λ l. l ++ new_stream k ∷ []) h.streams;
      own_is = ap (λ l. l ++ k ∷ []) h.own_is ∙ sym (map-append (λ (o : OwnStream). o.number) seen.own (new_stream k ∷ []));
      places = record {
        opened = λ t one. elim (either-one t k seen.own one) [
          | inl old ↦ among-last k t seen.streams ∙ ap (λ b. b || ((k == t) || false)) (h.places.opened t old)
          | inr e ↦ among-last k t seen.streams ∙ (ap (λ b. among t seen.streams || (b || false)) (ap (λ i. i == t) e ∙ test-same t) ∙ or-last (among t seen.streams))
        ];
        numbered = λ t one. elim (either-one t k seen.own one) [ inl old ↦ h.places.numbered t old | inr e ↦ ap is_own (sym e) ∙ new.own ];
        listed = λ t a is. elim (eqb_tells k t) [
          | inl q ↦ one-last t k seen.own ∙ (ap (λ b. is_one t seen.own || (b || false)) q.0 ∙ or-last (is_one t seen.own))
          | inr q ↦ one-last t k seen.own ∙ ap (λ b. b || ((k == t) || false)) (h.places.listed t (sym (among-other-last k t seen.streams q.1) ∙ a) is)
        ];
        given = λ t one. elim (either-one t k seen.own one) [
          | inl old ↦ let a : t ≤ seen.last_own = h.places.given t old in let b : seen.last_own < k = new.above in omega arith
          | inr e ↦ omega (arith, e)
        ];
        listening = λ l a. let b : l ≤ seen.last_own = h.places.listening l a in let c : seen.last_own < k = new.above in omega arith;
      };
    }
own-housed (recorded.Got k got) known seen own waiting want bytes t h fits next = subst (λ (x : Turn). Housed known (seen_after_turn x waiting want bytes seen) own) (sym next.1) (housed-as known known seen (seen_after_turn (turn.Got k) waiting want bytes seen) own h refl refl refl refl refl refl refl)
own-housed (recorded.End k) known seen own waiting want bytes t h fits next = subst (λ (x : Turn). Housed (record known { streams = with_end k known.streams }) (seen_after_turn x waiting want bytes seen) own) (sym next.1) record {
  ordering = h.ordering;
  listeners = h.listeners;
  streams = ap (with_end k) h.streams;
  own_is = h.own_is ∙ sym (end-numbers k seen.own);
  places = record {
    opened = λ t one. h.places.opened t (sym (end-one k t seen.own) ∙ one);
    numbered = λ t one. h.places.numbered t (sym (end-one k t seen.own) ∙ one);
    listed = λ t a is. end-one k t seen.own ∙ h.places.listed t a is;
    given = λ t one. h.places.given t (sym (end-one k t seen.own) ∙ one);
    listening = h.places.listening;
  };
}
own-housed (recorded.Writable k) known seen own waiting want bytes t h fits next = subst (λ (x : Turn). Housed known (seen_after_turn x waiting want bytes seen) own) (sym next.1) (housed-as known known seen (seen_after_turn (turn.Writable k) waiting want bytes seen) own h refl refl refl refl refl refl refl)
own-housed (recorded.Failed k) known seen own waiting want bytes t h fits next = subst (λ (x : Turn). Housed known (seen_after_turn x waiting want bytes seen) own) (sym next.1) (housed-as known known seen (seen_after_turn (turn.Failed k) waiting want bytes seen) own h refl refl refl refl refl refl refl)

pub turn-own-housed : {seen seen' : Seen} {own failed : List ℕ} {queue : ℕ → List ℕ} {s : EngineState} {t : Turn} {bytes : List ℕ} → HasWaited seen seen' own failed queue s t bytes → (o : OwnTurn) → IsOwnOf o t bytes → (known known' : Known) (own' : List ℕ) → Housed known seen own → known' ≡ known_after_own_turn o known → own' ≡ own_received o own → Housed known' seen' own'
turn-own-housed {seen = seen} {seen' = seen'} {own = own} {failed = failed} {queue = queue} {s = s} {t = t} {bytes = bytes} w o next known known' own' h e f =
    let all : List ℕ = s.waiting ++ filter (waits_for_own queue failed) own in
    subst (λ (k : Known). Housed k seen' own') (sym e) (subst (λ (l : List ℕ). Housed (known_after_own_turn o known) seen' l) (sym f)
    (subst (λ (x : Seen). Housed (known_after_own_turn o known) x (own_received o own)) (sym w.seen_is) (own-housed o known seen own all (want_of s) bytes t h w.own_fits next)))

-- where a stream only accepts bytes again
pub room-housed : {seen seen' : Seen} {own failed : List ℕ} {queue : ℕ → List ℕ} {s : EngineState} {t : Turn} {bytes : List ℕ} → HasWaited seen seen' own failed queue s t bytes → (k : ℕ) → t ≡ turn.Writable k → (known : Known) → Housed known seen own → Housed known seen' own
room-housed {seen = seen} {own = own} {failed = failed} {queue = queue} {s = s} {bytes = bytes} w k is known h =
    let all : List ℕ = s.waiting ++ filter (waits_for_own queue failed) own in
    subst (λ (x : Seen). Housed known x own) (sym w.seen_is) (subst (λ (x : Turn). Housed known (seen_after_turn x all (want_of s) bytes seen) own) (sym is)
    (housed-as known known seen (seen_after_turn (turn.Writable k) all (want_of s) bytes seen) own h refl refl refl refl refl refl refl))

-- where there is no forwarder nothing is given by it
pub alone-heard : (o : OwnTurn) (known known' : Known) (quiet : Quiet) → OwnTurnFits o known quiet → known' ≡ known_after_own_turn o known → IsAlone known → IsAlone known'
alone-heard (recorded.Joined l k) known known' quiet fits e alone = record {
  listeners = λ out. ap (λ (x : Known). x.listeners) e ∙ alone.listeners (sym (ap (λ (x : Known). x.present) e) ∙ out);
  streams = λ out. true-false (sym fits.0 ∙ ap (among l) (alone.listeners (sym (ap (λ (x : Known). x.present) e) ∙ out)));
}
alone-heard (recorded.Got k bytes) known known' quiet fits e alone = subst IsAlone (sym e) alone
alone-heard (recorded.End k) known known' quiet fits e alone = record {
  listeners = λ out. ap (λ (x : Known). x.listeners) e ∙ alone.listeners (sym (ap (λ (x : Known). x.present) e) ∙ out);
  streams = λ out. ap (λ (x : Known). x.streams) e ∙ ap (with_end k) (alone.streams (sym (ap (λ (x : Known). x.present) e) ∙ out));
}
alone-heard (recorded.Writable k) known known' quiet fits e alone = subst IsAlone (sym e) alone
alone-heard (recorded.Failed k) known known' quiet fits e alone = subst IsAlone (sym e) alone
