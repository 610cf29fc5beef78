-- What a turn of the wire reports, right after the wait.
use Rattle.std.proofs.Common.{◌≡◌, ◌≢◌, ◌≤◌, ◌<◌, ◌+◌, ℕ, Bool, true, false, not, List, [], ◌∷◌, ◌++◌, Option, Some, None, refl, sym, ap, ◌∙◌, inr, cond, arith, append_assoc}
use Rattle.std.specs.Prelude.{filter, reverse}
use Rattle.std.specs.Option.{option_map}
use Rattle.std.proofs.lemmas.Bool.Decides.{nat_tests}
use Rattle.ssh_fields.specs.Fields.{AreBytes}
use Rattle.mux_outside.specs.HouseCalls.{End, Failed, Got, Turns}
use Rattle.mux_outside.specs.OwnStreams.{is_own}
use Rattle.mux_outside.specs.Seen.{Seen, seen_after_turn}
use Rattle.mux_outside.specs.Streams.{among}
use Rattle.mux_outside.specs.Wire.{OwnFits, TurnFits}
use Rattle.mux_outside.specs.Seen.{shown_of, wait_marks, open_after, blocked_after, last_after}
use Rattle.mux_outside.specs.declared.house.HouseReply.{HouseReply}
use Rattle.mux_outside.specs.declared.house_mark.HouseMark.{HouseMark}
use Rattle.mux_outside.specs.declared.mark.Mark.{Mark}
use Rattle.mux_outside.specs.declared.mark.Mark.TheVariants.{Accepts, Gets, Ends, Fails}
use Rattle.mux_outside.specs.declared.own_streams.TheConstants.{LAST_CLIENT}
use Rattle.mux_outside.specs.declared.turn.Turn.{Turn}
use Rattle.mux_outside.specs.declared.turn.Turn.TheVariants as turn
use Rattle.mux_history.specs.declared.limits.TheConstants.{HOUSE}
use Rattle.mux_history.specs.Policy.{Policy}
use Rattle.mux_history.specs.Journal.{is_accepted}
use Rattle.mux_history.specs.Wires.{OfWire}
use Rattle.mux_history.proofs.Wires.{wire-keeps}
use Rattle.mux_state.specs.State.{EngineState}
use Rattle.mux_state.specs.declared.event.Event.{Event}
use Rattle.mux_state.specs.Twins.{AreTwins}
use Rattle.mux_engine.specs.Owned.{waits_for_own}
use Rattle.mux_engine.specs.Serving.{IsUnseen, Serving}
use Rattle.mux_engine.specs.Sides.{Resting, Side}
use Rattle.mux_engine.specs.Turns.{IsEventOf, want_of}
use Rattle.mux_engine.proofs.Happened.{placed-accepts, placed-ends, placed-fails, placed-gets}
use Rattle.mux_engine.proofs.Lists.{not-own-stream, test-other, true-false}
use Rattle.mux_engine.proofs.Logs.{failed-more}
use Rattle.mux_engine.proofs.Marks.{serve-alone, serve-on}
use Rattle.mux_engine.proofs.Owns.{client-other, ends-client, gives-client, owns-accepts, owns-ends, owns-gets, owns-plain}
use Rattle.mux_engine.proofs.Places.{at-stream, open-stream}
use Rattle.mux_engine.proofs.Turned.{EventAt, came, stayed}
use Rattle.mux_engine.proofs.Waits.{Offered, all-waiting, seen-waiting, wait-mark, waited, waiting-blocked}

two-marks : (a b : Mark) (recorded : Option (List Mark)) → option_map (λ m. m ++ (a ∷ b ∷ [])) recorded ≡ option_map (λ m. m ++ b ∷ []) (option_map (λ m. m ++ a ∷ []) recorded)
two-marks a b None = refl
two-marks a b (Some m) = ap (λ (l : List Mark). Some l) (sym (append_assoc m (a ∷ []) (b ∷ [])))

-- clients have numbers of their own
few-clients : (last k : ℕ) → k ≡ last + 1 → last < LAST_CLIENT → k ≤ LAST_CLIENT
few-clients last k e lt = omega arith

pub client-number : (k : ℕ) → k ≤ LAST_CLIENT → is_own k ≡ false
client-number k le = grind (arith, nat_tests)

house-apart : (k : ℕ) → k ≤ LAST_CLIENT → k ≢ HOUSE
house-apart k le e = absurd (omega (arith, le, e))

pub same-marks : (marks : List Mark) → AreTwins marks marks
same-marks marks = record { log = λ set. refl; bytes = λ t. refl; accepted = λ k. refl }

module _ {May : HouseReply → Type 0} {Rest : Resting} {before : Option (List HouseMark)} {now : Side} {policy : Policy} {pid : ℕ} {start : Option (List Mark)} {seen : Seen} {held failed : List ℕ} {given : ℕ} {s : EngineState}
    (v : Serving May Rest before now policy pid start seen held failed given [] s) (none : s.leaving ≡ []) (admitted : s.refused ≡ []) (live : s.ended ≡ None) {own : List ℕ} {queue : ℕ → List ℕ} (o : Offered seen own held failed queue)
    (receives : seen.listens ≡ s.listening) (noted : now.unnoted ≡ []) (rests : Rest.rests (want_of s) now.recorded now.calls seen.listeners seen.own (filter (waits_for_own queue failed) own) (filter (λ t. not (among t failed)) own)) where
  -- what holds with the call of wait
  abbrev pub now-waiting : Serving May Rest before now policy pid start (seen-waiting v none admitted live o) held failed (given + 1) [] s
  now-waiting = waited v none admitted live o receives noted rests

  abbrev pub Fits : Turn → List ℕ → Type 0
  Fits t bytes = TurnFits t (want_of s) seen bytes

  abbrev pub OwnTurnFits : Turn → Type 0
  OwnTurnFits t = OwnFits t seen

  abbrev pub seen-then : Turn → List ℕ → Seen
  seen-then t bytes = seen_after_turn t (all-waiting v none admitted live o) (want_of s) bytes seen

  -- the journal with the marks of a turn is one that a wire can give
  pub of-turn : (t : Turn) (bytes : List ℕ) → AreBytes bytes → Fits t bytes → OwnTurnFits t → OfWire (open_after t seen.streams) (blocked_after t seen.blocked) (last_after t seen.last) (reverse (wait_marks t (all-waiting v none admitted live o) (want_of s) seen.streams (shown_of seen) bytes) ++ v.journal)
  of-turn t bytes are fits own_fits = (wire-keeps seen v.journal).turn t (all-waiting v none admitted live o) (want_of s) bytes are (waiting-blocked v none admitted live o) fits own_fits v.of_wire

  -- whoever sends something is the server or was accepted
  accepted : (k : ℕ) → is_own k ≡ false → among k seen.streams ≡ true → k ≢ 0 → is_accepted k v.journal ≡ true
  accepted k client found nz = (at-stream v.stands k (open-stream v k client found)).accepted nz

  pub event-at : (t : Turn) (bytes : List ℕ) (e : Event) → AreBytes bytes → Fits t bytes → OwnTurnFits t → IsEventOf e t bytes → EventAt now-waiting live e (seen-then t bytes) (given + 1)
  unfolding waited serve-alone serve-on
  event-at (turn.Accepted k) bytes e are fits own_fits next =
      let few : k ≤ LAST_CLIENT = few-clients seen.last k fits.2 fits.3 in
      let new : IsUnseen v.journal seen.blocked k = v.unseen k (let n : k ≡ seen.last + 1 = fits.2 in omega arith) few in
      record {
        mark = Accepts k;
        twin = Accepts k;
        alike = same-marks (Accepts k ∷ now-waiting.journal);
        is = tt;
        records = next;
        allowed = ((λ z. absurd (let n : k ≡ seen.last + 1 = fits.2 in omega arith)), new.not_accepted, not-own-stream k (client-number k few));
        marks = two-marks (wait-mark v none admitted live o) (Accepts k) seen.recorded;
        of_wire = of-turn (turn.Accepted k) bytes are fits own_fits;
        said = tt;
        spares = λ j c e. true-false (sym c ∙ (ap (λ i. among i v.closed) (sym e) ∙ ((v.stands.at [] []).bytes.strange k new.not_accepted).not_closed_yet));
        speaks = λ picks later. tt;
        answers = λ set. tt;
        rested = λ set. tt;
        absent = λ e. refl;
        turns = now-waiting.turns;
        plain = sym noted;
        called = λ set. refl;
        cut = λ set. inr (0, refl);
        house = ap (λ b. cond b true (is_accepted HOUSE v.journal)) (test-other k HOUSE (house-apart k few));
        right = (owns-accepts now-waiting.journal (seen-waiting v none admitted live o) (seen-then (turn.Accepted k) bytes) k now-waiting.places (client-number k few) refl refl refl).right;
        placed = λ s' arrives. placed-accepts now-waiting (seen-then (turn.Accepted k) bytes) s' k fits.2 few (of-turn (turn.Accepted k) bytes are fits own_fits) refl refl refl refl refl (came e k s s' next admitted (arrives live)) (client-number k few)
            (owns-accepts now-waiting.journal (seen-waiting v none admitted live o) (seen-then (turn.Accepted k) bytes) k now-waiting.places (client-number k few) refl refl refl);
      }
  event-at (turn.Got k) bytes e are fits own_fits next = record {
    mark = Gets k bytes;
    twin = Gets k bytes;
    alike = same-marks (Gets k bytes ∷ now-waiting.journal);
    is = tt;
    records = next.1;
    allowed = ((λ nz. accepted k next.0 fits.1 nz), are, not-own-stream k next.0);
    marks = two-marks (wait-mark v none admitted live o) (Gets k bytes) seen.recorded;
    of_wire = of-turn (turn.Got k) bytes are fits own_fits;
    said = λ nz. accepted k next.0 fits.1 nz;
    spares = λ j c. tt;
    speaks = λ picks later. tt;
    answers = λ set. tt;
    rested = λ set. tt;
    absent = λ e. refl;
    turns = now-waiting.turns;
    plain = sym noted;
    called = λ set. ap (λ (b : Bool). cond b (Turns (Got k bytes) ∷ []) []) next.0;
    cut = λ set. inr (0, refl);
    house = refl;
    placed = λ s' arrives. placed-gets now-waiting (seen-then (turn.Got k) bytes) s' k bytes fits.1 (of-turn (turn.Got k) bytes are fits own_fits) refl refl refl refl refl (stayed e (Gets k bytes) s s' next.1 tt (arrives live))
        (owns-gets now-waiting.journal (seen-waiting v none admitted live o) (seen-then (turn.Got k) bytes) k bytes now-waiting.places (gives-client now-waiting.journal k bytes next.0) refl refl refl);
    right = gives-client now-waiting.journal k bytes next.0;
  }
  event-at (turn.End k) bytes e are fits own_fits next = record {
    mark = Ends k;
    twin = Ends k;
    alike = same-marks (Ends k ∷ now-waiting.journal);
    is = tt;
    records = next.1;
    allowed = ((λ nz. accepted k next.0 fits.1 nz), not-own-stream k next.0);
    marks = two-marks (wait-mark v none admitted live o) (Ends k) seen.recorded;
    of_wire = of-turn (turn.End k) bytes are fits own_fits;
    said = tt;
    spares = λ j c. tt;
    speaks = λ picks later. tt;
    answers = λ set. tt;
    rested = λ set. tt;
    absent = λ e. refl;
    turns = now-waiting.turns;
    plain = sym noted;
    called = λ set. ap (λ (b : Bool). cond b (Turns (End k) ∷ []) []) next.0;
    cut = λ set. inr (0, refl);
    house = refl;
    placed = λ s' arrives. placed-ends now-waiting (seen-then (turn.End k) bytes) s' k fits.1 (of-turn (turn.End k) bytes are fits own_fits) refl refl refl refl refl (stayed e (Ends k) s s' next.1 tt (arrives live))
        (owns-ends now-waiting.journal (seen-waiting v none admitted live o) (seen-then (turn.End k) bytes) k now-waiting.places (ends-client now-waiting.journal k next.0) refl refl refl);
    right = ends-client now-waiting.journal k next.0;
  }
  event-at (turn.Failed k) bytes e are fits own_fits next = record {
    mark = Fails k;
    twin = Fails k;
    alike = same-marks (Fails k ∷ now-waiting.journal);
    is = tt;
    records = next.1;
    allowed = ((λ nz. accepted k next.0 fits nz), not-own-stream k next.0);
    marks = two-marks (wait-mark v none admitted live o) (Fails k) seen.recorded;
    of_wire = of-turn (turn.Failed k) bytes are fits own_fits;
    said = tt;
    spares = λ j c. tt;
    speaks = λ picks later. tt;
    answers = λ set. tt;
    rested = λ set. tt;
    absent = λ e. refl;
    turns = now-waiting.turns;
    plain = sym noted;
    called = λ set. ap (λ (b : Bool). cond b (Turns (Failed k) ∷ []) []) next.0;
    cut = λ set. inr (0, refl);
    house = refl;
    placed = λ s' arrives. placed-fails now-waiting (seen-then (turn.Failed k) bytes) s' failed k fits (of-turn (turn.Failed k) bytes are fits own_fits) refl refl refl refl refl (stayed e (Fails k) s s' next.1 tt (arrives live)) (λ own. true-false (sym own ∙ next.0)) (λ t a. a) (λ t a. failed-more (Fails k) now-waiting.journal t (now-waiting.failed_did t a))
        (owns-plain now-waiting.journal (seen-waiting v none admitted live o) (seen-then (turn.Failed k) bytes) (Fails k) (client-other k next.0) now-waiting.places refl refl refl);
    right = record { opened = tt; gives = tt; writes = tt; joins = tt; others = client-other k next.0 };
  }
  event-at (turn.Writable k) bytes e are fits own_fits next = absurd next
  event-at (turn.Joined l k) bytes e are fits own_fits next = absurd next
  event-at turn.NoMemory bytes e are fits own_fits next = absurd next
