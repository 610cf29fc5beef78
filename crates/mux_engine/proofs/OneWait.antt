-- What one call of wait makes of a run, by what it reported.
use Rattle.std.proofs.Common.{◌≡◌, ◌+◌, ℕ, Bool, true, false, List, [], ◌∷◌, ◌++◌, Option, refl, sym, ap, ◌∙◌, subst, arith, MatchResult, OnOk}
use Rattle.std.specs.Prelude.{IsErr, Result, Ok, Err, filter}
use Rattle.mux_outside.specs.CallCounts.{CallCounts, calls_after_wait, is_starved}
use Rattle.mux_outside.specs.Counts.{Rose}
use Rattle.mux_outside.specs.Faults.{Faults}
use Rattle.mux_outside.specs.House.{HouseState, known_after_own_turn}
use Rattle.mux_outside.specs.HouseCalls.{HandsOn, HouseCall, Turns, calls_of, happening_of}
use Rattle.mux_outside.specs.OwnStreams.{is_own}
use Rattle.mux_outside.specs.Streams.{without}
use Rattle.mux_outside.specs.Wire.{TurnFaults}
use Rattle.mux_outside.specs.WireState.{WireState, state_after_wait}
use Rattle.mux_outside.specs.declared.house.HouseReply.{HouseReply}
use Rattle.mux_outside.specs.declared.house_mark.HouseMark.{HouseMark}
use Rattle.mux_outside.specs.declared.own_turn.OwnTurn.{OwnTurn}
use Rattle.mux_outside.specs.declared.own_turn.OwnTurn.TheVariants as recorded
use Rattle.mux_outside.specs.declared.turn.Turn.{Turn}
use Rattle.mux_outside.specs.declared.turn.Turn.TheVariants as turn
use Rattle.mux_outside.specs.declared.turn.Want.{Want}
use Rattle.mux_history.specs.declared.ended.Ended.{Ended}
use Rattle.mux_state.specs.State.{EngineState}
use Rattle.mux_state.specs.Events.{here}
use Rattle.mux_state.specs.declared.event.Event.{Event}
use Rattle.mux_engine.specs.Asking.{AppliesEvent}
use Rattle.mux_engine.specs.Came.{OverBy}
use Rattle.mux_engine.specs.Counted.{CountsOfCall}
use Rattle.mux_engine.specs.Owned.{waits_for_own}
use Rattle.mux_engine.specs.Rests.{EndsSo}
use Rattle.mux_engine.specs.Serving.{RunsOn, ServedWith, Serving, scene, scene_of}
use Rattle.mux_engine.specs.Sides.{Housed, IsAlone, RestsOf, SameHouse, StaysHouse, Together, all_marks_noted}
use Rattle.mux_engine.specs.Turns.{IsEventOf, IsOwnOf, failed_received, held_received, own_received, want_of}
use Rattle.mux_engine.specs.Wires.{IsIdleWire, Untouched, Works}
use Rattle.mux_engine.specs.declared.room.Lists.{Lists}
use Rattle.mux_engine.proofs.Arms.{on-err, on-ok}
use Rattle.mux_engine.proofs.Called.{handed-more, handed-none}
use Rattle.mux_engine.proofs.Causes.{turn-over}
use Rattle.mux_engine.proofs.Causes.{EndsSo as EndsByEvent}
use Rattle.mux_engine.proofs.Counting.{counts-event, cut-none, turn-by-row, turn-rose}
use Rattle.mux_engine.proofs.Cuts.{cut-here, cut-still}
use Rattle.mux_engine.proofs.Ending.{ends-cut, ends-live}
use Rattle.mux_engine.proofs.Handed.{AtWait, BeginsTurn, HasWaited, alone-as, alone-heard, at-wait, heard-asks, own-noted, room-housed, turn-ends, turn-fits, turn-frees, turn-applies, turn-house, turn-housed, turn-own-housed, turn-owns, turn-starved}
use Rattle.mux_engine.proofs.Running.{both-ok}
use Rattle.mux_engine.proofs.Runs.{promised-more}
use Rattle.mux_engine.proofs.Recorded.{records-none}
use Rattle.mux_engine.proofs.Unopened.{event-opens, wait-opens}
use Rattle.mux_engine.proofs.Wired.{keeps-none, keeps-wait, works-recorded, works-wait}

-- ---- results

ok-of : {A E : Type 0} (r : Result A E) {P R : Type 0} (Q : Type 0) → MatchResult r (λ x. P) (λ e. Q) → (P → R) → OnOk r R
ok-of (Ok x) Q p f = f p
ok-of (Err e) Q p f = tt

together-of : {A E : Type 0} (r : Result A E) (house : HouseState) (wire : WireState) (lists : Lists) → OnOk r (Housed house.known wire.seen lists.own) → OnOk r (IsAlone house.known) → OnOk r (lists.held ≡ wire.seen.blocked) → OnOk r (Together house wire lists)
together-of (Ok x) house wire lists housed alone held = record { housed = housed; alone = alone; held_is = held }
together-of (Err e) house wire lists housed alone held = tt

-- ---- a turn that was given

-- what is so after it; the lists are then those whose streams are these
pub record TurnDone {A E T : Type 0} (result : Result A E) (May : HouseReply → Type 0) (state : T → HouseState) (house house' : T) (wire wire' : WireState) (faults faults' : Faults) (lists : Lists) (held own failed : List ℕ) (s s' : EngineState) : Type 0 where
  pub serving : RunsOn result May state house house' (scene wire lists s) (scene_of wire' held failed s') 1 (λ x. 1) [] (λ x. 0 ∷ here s')
  pub together : (lists' : Lists) → lists'.own ≡ own → lists'.held ≡ held → OnOk result (Together (state house') wire' lists')
  pub stays : StaysHouse result (state house) (state house')
  pub ended : EndsSo result (state house).known.present s'.ended wire wire' faults faults'

-- before the wait there was no memory
pub turn-unlisted : {A E T : Type 0} (r : Result A E) (May : HouseReply → Type 0) (state : T → HouseState) (house : T) (wire : WireState) (faults : Faults) (lists : Lists) (held own failed : List ℕ) (s : EngineState) → IsErr r → TurnDone r May state house house wire wire faults faults lists held own failed s s
turn-unlisted r May state house wire faults lists held own failed s is = record {
  serving = λ first calls before policy pid start given hands v. on-err r _ _ is (promised-more given (given + 1) (omega arith) (cut-still v _ refl));
  together = λ lists' e f. on-err r _ _ is tt;
  stays = record { present = on-err r _ _ is tt; must = refl };
  ended = ends-cut r (state house).known.present s.ended wire wire faults faults is (λ out. refl);
}

-- how an event ends a run
event-ends : {A E : Type 0} (r : Result A E) (p : Bool) (e : Event) (o : Option Ended) (t : Turn) (bytes : List ℕ) (a b c : WireState) (f g h : Faults) → OnOk r (EndsByEvent e o) → IsEventOf e t bytes → TurnFaults t f g → b.calls ≡ calls_after_wait t a.calls → Untouched b c g h → (p ≡ false → c.seen.last_own ≡ a.seen.last_own) → EndsSo r p o a c f h
event-ends (Ok x) p e o t bytes a b c f g h so next cause waited applied still = record {
  failed = λ over. subst (λ (n : ℕ). Rose f.server n) (sym applied.no_fault.server) (turn-rose e o t bytes f g so.may next cause over);
  by_row = turn-by-row e o so.may;
  by_count = subst (OverBy p o a.calls) (sym (applied.calls ∙ waited)) (turn-over p e o t bytes a.calls so next);
  unopened = still;
}
event-ends (Err x) p e o t bytes a b c f g h so next cause waited applied still = record { failed = tt; by_row = tt; by_count = tt; unopened = still }

-- ---- the calls of the wire

-- before the wait there was no memory
pub works-unlisted : {A E : Type 0} (r : Result A E) (w : WireState) (f : Faults) → IsErr r → Works 1 r w w f f
works-unlisted (Ok x) w f is = absurd (let z : false ≡ true = is in cc)
works-unlisted (Err x) w f is = record { keeps = keeps-none w f; calls = cut-none 1 w.calls }

-- the wait reported an event, which was applied
pub works-event : {A E : Type 0} (r : Result A E) {old mid new : WireState} {f g h : Faults} (e : Event) (t : Turn) (waiting : List ℕ) (want : Want) (bytes : List ℕ) → IsEventOf e t bytes → mid ≡ state_after_wait t waiting want bytes mid.tally old → TurnFaults t f g → IsIdleWire mid new g h → Works 1 r old new f h
works-event r {old = old} {mid = mid} e t waiting want bytes next after cause applied =
    let waited : Works 1 r old mid _ _ = record {
      keeps = keeps-wait t waiting want bytes after cause;
      calls = subst (λ (x : CallCounts). CountsOfCall 1 r old.calls x) (sym (ap (λ (x : WireState). x.calls) after)) (counts-event r e t bytes old.calls next);
    } in works-recorded r waited applied

-- it reported something of the master's own
own-fed : (o : OwnTurn) (t : Turn) (bytes : List ℕ) → IsOwnOf o t bytes → is_starved t ≡ false
own-fed (recorded.Joined l k) t bytes next = ap is_starved next
own-fed (recorded.Got k got) t bytes next = ap is_starved next.1
own-fed (recorded.End k) t bytes next = ap is_starved next.1
own-fed (recorded.Writable k) t bytes next = ap is_starved next.1
own-fed (recorded.Failed k) t bytes next = ap is_starved next.1

pub works-own-turn : {A E : Type 0} (r : Result A E) {old new : WireState} {f g : Faults} (o : OwnTurn) (t : Turn) (waiting : List ℕ) (want : Want) (bytes : List ℕ) → IsOwnOf o t bytes → new ≡ state_after_wait t waiting want bytes new.tally old → TurnFaults t f g → Works 1 r old new f g
works-own-turn r o t waiting want bytes next after cause = works-wait r t waiting want bytes (own-fed o t bytes next) after cause

module _ {T : Type 0} {May : HouseReply → Type 0} {state : T → HouseState} {house : T} {wire : WireState} {lists : Lists} {s : EngineState} {t : Turn} {bytes : List ℕ} (wire1 : WireState) (faults faults1 : Faults)
    (served : ServedWith May state house (scene wire lists s) []) (b : BeginsTurn (state house) wire lists s) (w : HasWaited wire.seen wire1.seen lists.own lists.failed (state house).queue s t bytes) where
  at : (first : T) (calls : List HouseCall) → HandsOn (state first).stands (state house).stands calls → AtWait (RestsOf state (state house).known.present first) (all_marks_noted (state house).recorded (state house).known calls) wire.seen lists.own lists.held lists.failed (state house).queue s
  at first calls hands = at-wait state first house calls wire lists s b hands

  -- where there is no forwarder no stream was accepted
  unjoined : (state house).known.present ≡ false → wire1.seen.last_own ≡ wire.seen.last_own
  unjoined = wait-opens t (s.waiting ++ filter (waits_for_own (state house).queue lists.failed) lists.own) (want_of s) bytes (state house).known wire.seen wire1.seen lists.own b.together.housed b.together.alone w.own_fits w.seen_is

  -- ---- an event

  module _ {A E : Type 0} (r : Result A E) (house' : T) (wire2 : WireState) (faults2 : Faults) (s' : EngineState) (asks : List HouseMark) (e : Event) (next : IsEventOf e t bytes) (h : AppliesEvent r May e s s' asks (state house) (state house') wire1.seen wire2.seen) where
    event-serving : OnOk r (HandsOn (state house).stands (state house').stands (calls_of asks)) → RunsOn r May state house house' (scene wire lists s) (scene_of wire2 lists.held lists.failed s') 1 (λ x. 1) [] (λ x. 0 ∷ here s')
    event-serving handed first calls before policy pid start given hands v =
        both-ok r _ (λ on step. handed-more _ (calls_of asks) hands step on)
        (turn-applies v (at first calls hands) w r e next s' asks (state house).recorded (state house').recorded (state house).known (state house').known wire2.seen refl refl refl h) handed

    event-held : OnOk r (lists.held ≡ wire2.seen.blocked)
    event-held = ok-of r _ (turn-applies served.serving (at served.first served.calls served.hands) w r e next s' asks (state house).recorded (state house').recorded (state house).known (state house').known wire2.seen refl refl refl h) (λ v. v.held_is)

    event-same : OnOk r (SameHouse (state house).known (state house').known)
    event-same = turn-house r May e s s' asks (state house).recorded (state house').recorded (state house).known (state house').known wire1.seen wire2.seen h

    event-together : (lists' : Lists) → lists'.own ≡ lists.own → lists'.held ≡ lists.held → OnOk r (Together (state house') wire2 lists')
    event-together lists' own held = together-of r (state house') wire2 lists'
        (on-ok r (λ (x : Housed (state house').known wire2.seen lists.own). subst (λ (l : List ℕ). Housed (state house').known wire2.seen l) (sym own) x)
        (turn-housed r May w e next s' asks (state house).recorded (state house').recorded (state house).known (state house').known wire2.seen h b.together.housed))
        (on-ok r (λ (same : SameHouse (state house).known (state house').known). alone-as (state house).known (state house').known same b.together.alone) event-same)
        (on-ok r (λ (x : lists.held ≡ wire2.seen.blocked). held ∙ x) event-held)

    pub turn-event : OnOk r (HandsOn (state house).stands (state house').stands (calls_of asks)) → (state house').must ≡ (state house).must → TurnFaults t faults faults1 → wire1.calls ≡ calls_after_wait t wire.calls → Untouched wire1 wire2 faults1 faults2
        → TurnDone r May state house house' wire wire2 faults faults2 lists lists.held lists.own lists.failed s s'
    turn-event handed must cause waited applied = record {
      serving = event-serving handed;
      together = event-together;
      stays = record { present = on-ok r (λ (same : SameHouse (state house).known (state house').known). same.present) event-same; must = must };
      ended = event-ends r (state house).known.present e s'.ended t bytes wire wire1 wire2 faults faults1 faults2
          (turn-ends served.serving (at served.first served.calls served.hands) w r e next s' asks (state house).recorded (state house').recorded (state house).known (state house').known wire2.seen h)
          next cause waited applied (λ out. event-opens r May e s s' asks (state house).recorded (state house').recorded (state house).known (state house').known wire1.seen wire2.seen h ∙ unjoined out);
    }

  -- ---- something of the master's own listeners and streams

  module _ (house' : T) (o : OwnTurn) (next : IsOwnOf o t bytes) (same_recorded : (state house').recorded ≡ (state house).recorded) (must : (state house').must ≡ (state house).must) where
    -- there was no memory to keep it, or to hand it on
    pub turn-unheard : {A E : Type 0} (r : Result A E) (held own failed : List ℕ) → IsErr r → TurnDone r May state house house' wire wire1 faults faults1 lists held own failed s s
    turn-unheard r held own failed is = record {
      serving = λ first calls before policy pid start given hands v. on-err r _ _ is (cut-here (turn-owns v (at first calls hands) w o next) _ _ _ [] refl (same_recorded ∙ records-none _) refl (omega arith));
      together = λ lists' e f. on-err r _ _ is tt;
      stays = record { present = on-err r _ _ is tt; must = must };
      ended = ends-cut r (state house).known.present s.ended wire wire1 faults faults1 is unjoined;
    }

    pub turn-heard : {A E : Type 0} (x : A) (held own failed : List ℕ) → (state house').known ≡ known_after_own_turn o (state house).known → held ≡ held_received o lists.held → own ≡ own_received o lists.own → failed ≡ failed_received o lists.failed
        → HandsOn (state house).stands (state house').stands (Turns (happening_of o) ∷ []) → TurnDone {E = E} (Ok x) May state house house' wire wire1 faults faults1 lists held own failed s s
    turn-heard {E = E} x held own failed known held_is own_is failed_is step = record {
      serving = λ first calls before policy pid start given hands v. handed-more _ (Turns (happening_of o) ∷ []) hands step
          (own-noted o (state house).recorded (state house').recorded (state house).known (state house').known lists.held held lists.failed failed same_recorded known held_is failed_is (turn-owns v (at first calls hands) w o next));
      together = λ lists' e f. record {
        housed = turn-own-housed w o next (state house).known (state house').known lists'.own b.together.housed known (e ∙ own_is);
        alone = alone-heard o (state house).known (state house').known (state house).quiet (turn-fits w o next (state house).known (state house).quiet b.together.housed b.together.alone b.ready) known b.together.alone;
        held_is = f ∙ (held_is ∙ (turn-owns served.serving (at served.first served.calls served.hands) w o next).held_is);
      };
      stays = record { present = (heard-asks o (state house).known (state house').known known).present; must = must };
      ended = ends-live {E = E} (Ok x) (state house).known.present s.ended wire wire1 faults faults1 b.on unjoined;
    }

  -- ---- a stream accepts bytes again

  pub turn-freed : {A E : Type 0} (x : A) (k : ℕ) (held : List ℕ) → is_own k ≡ false → t ≡ turn.Writable k → held ≡ without k lists.held → TurnDone {E = E} (Ok x) May state house house wire wire1 faults faults1 lists held lists.own lists.failed s s
  turn-freed {E = E} x k held client is held_is = record {
    serving = λ first calls before policy pid start given hands v. handed-none _ hands
        (subst (λ (l : List ℕ). Serving May (RestsOf state (state house).known.present first) before (all_marks_noted (state house).recorded (state house).known calls) policy pid start wire1.seen l lists.failed (given + 1) (0 ∷ here s) s) (sym held_is)
        (turn-frees v (at first calls hands) w k client is));
    together = λ lists' e f. record {
      housed = subst (λ (l : List ℕ). Housed (state house).known wire1.seen l) (sym e) (room-housed w k is (state house).known b.together.housed);
      alone = b.together.alone;
      held_is = f ∙ (held_is ∙ (turn-frees served.serving (at served.first served.calls served.hands) w k client is).held_is);
    };
    stays = record { present = refl; must = refl };
    ended = ends-live {E = E} (Ok x) (state house).known.present s.ended wire wire1 faults faults1 b.on unjoined;
  }

  -- ---- no memory

  pub turn-wanting : {A E : Type 0} (x : E) → t ≡ turn.NoMemory → (held own failed : List ℕ) → TurnDone {A = A} (Err x) May state house house wire wire1 faults faults1 lists held own failed s s
  turn-wanting {A = A} x is held own failed = record {
    serving = λ first calls before policy pid start given hands v. turn-starved v (at first calls hands) w is;
    together = λ lists' e f. tt;
    stays = record { present = tt; must = refl };
    ended = record { failed = tt; by_row = tt; by_count = tt; unopened = unjoined };
  }
