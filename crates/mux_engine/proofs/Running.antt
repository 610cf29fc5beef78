-- The turns of a run, one after the other.
use Rattle.std.proofs.Common.{◌≡◌, ◌≢◌, ◌<◌, ◌+◌, ◌++◌, ℕ, Bool, true, false, List, [], ◌∷◌, Option, refl, sym, ap, ◌∙◌, subst, inl, inr, arith, append-nil}
use Rattle.std.specs.Prelude.{if◌then◌else◌, Result, Ok, Err, MatchResult, OnOk}
use Rattle.mux_outside.specs.House.{Known}
use Rattle.mux_outside.specs.HouseCalls.{HouseCall}
use Rattle.mux_outside.specs.Seen.{Seen}
use Rattle.mux_outside.specs.Streams.{without}
use Rattle.mux_history.specs.declared.limits.TheConstants.{HOUSE}
use Rattle.mux_outside.specs.declared.house.HouseReply.{HouseReply}
use Rattle.mux_outside.specs.declared.house_mark.HouseMark.{HouseMark}
use Rattle.mux_outside.specs.declared.mark.Mark.{Mark}
use Rattle.mux_history.specs.Policy.{Policy}
use Rattle.mux_state.specs.State.{EngineState}
use Rattle.mux_state.specs.Events.{here}
use Rattle.mux_engine.specs.Serving.{EndsTurn, Promised, Serving, Spends, to_offer}
use Rattle.mux_engine.specs.Sides.{Resting, Side, all_marks_noted, outside}
use Rattle.mux_engine.proofs.Lists.{true-false}
use Rattle.mux_engine.proofs.Todo.{serve-todo}

module _ {May : HouseReply → Type 0} {before : Option (List HouseMark)} {policy : Policy} {pid : ℕ} {start : Option (List Mark)} where
  -- with a forwarder that is present just so
  pub present-is : {now : Side} {seen : Seen} {held failed : List ℕ} {given : ℕ} {todo : List ℕ} {s : EngineState} (R : Bool → Resting) (p q : Bool) → p ≡ q → Serving May (R p) before now policy pid start seen held failed given todo s → Serving May (R q) before now policy pid start seen held failed given todo s
  present-is {now} {seen} {held} {failed} {given} {todo} {s} R p q e v = subst (λ (b : Bool). Serving May (R b) before now policy pid start seen held failed given todo s) e v

  pub promised-is : {now : Option (List HouseMark)} {recorded : Option (List Mark)} {given : ℕ} (R : Bool → Resting) (p q : Bool) → p ≡ q → Promised May (R p) before now policy pid start recorded given → Promised May (R q) before now policy pid start recorded given
  promised-is {now} {recorded} {given} R p q e v = subst (λ (b : Bool). Promised May (R b) before now policy pid start recorded given) e v

  pub ends-is : {on : Bool} {now : Side} {seen : Seen} {held failed : List ℕ} {given : ℕ} {todo : List ℕ} {s : EngineState} (R : Bool → Resting) (p q : Bool) → p ≡ q → EndsTurn on given May (R p) before now policy pid start seen held failed todo s → EndsTurn on given May (R q) before now policy pid start seen held failed todo s
  ends-is {on} {now} {seen} {held} {failed} {given} {todo} {s} R p q e v = subst (λ (b : Bool). EndsTurn on given May (R b) before now policy pid start seen held failed todo s) e v

module _ {May : HouseReply → Type 0} {Rest : Resting} {before : Option (List HouseMark)} {policy : Policy} {pid : ℕ} {start : Option (List Mark)} where
  -- with so many turns
  pub given-is : {now : Side} {seen : Seen} {held failed : List ℕ} {todo : List ℕ} {s : EngineState} (given given' : ℕ) → given ≡ given' → Serving May Rest before now policy pid start seen held failed given todo s → Serving May Rest before now policy pid start seen held failed given' todo s
  given-is {now} {seen} {held} {failed} {todo} {s} given given' e v = subst (λ n. Serving May Rest before now policy pid start seen held failed n todo s) e v

  pub side-is : {seen : Seen} {held failed : List ℕ} {given : ℕ} {todo : List ℕ} {s : EngineState} (now now' : Side) → now ≡ now' → Serving May Rest before now policy pid start seen held failed given todo s → Serving May Rest before now' policy pid start seen held failed given todo s
  side-is {seen} {held} {failed} {given} {todo} {s} now now' e v = subst (λ (x : Side). Serving May Rest before x policy pid start seen held failed given todo s) e v

  -- the forwarder used a turn, or it used none
  pub step-took : {now : Side} {seen : Seen} {held failed : List ℕ} {s : EngineState} (given : ℕ) (todo : List ℕ) (more : Bool) → more ≡ true → Serving May Rest before now policy pid start seen held failed (given + (if more then 1 else 0)) (if more then todo else []) s → Serving May Rest before now policy pid start seen held failed (given + 1) todo s
  step-took given todo true e v = v
  step-took given todo false e v = true-false (sym e)

  pub step-waits : {now : Side} {seen : Seen} {held failed : List ℕ} {s : EngineState} (given : ℕ) (todo : List ℕ) (more : Bool) → more ≡ false → Serving May Rest before now policy pid start seen held failed (given + (if more then 1 else 0)) (if more then todo else []) s → Serving May Rest before now policy pid start seen held failed given [] s
  step-waits given todo true e v = true-false e
  step-waits given todo false e v = given-is (given + 0) given (omega arith) v

  -- more may be left to be offered
  pub all-left : {now : Side} {seen : Seen} {held failed : List ℕ} {given : ℕ} {s : EngineState} (todo : List ℕ) → Serving May Rest before now policy pid start seen held failed given [] s → Serving May Rest before now policy pid start seen held failed given todo s
  all-left todo v = serve-todo v todo (λ t a. inl refl)

  -- all are to be offered, or all were
  pub none-settled : {now : Side} {seen : Seen} {held failed : List ℕ} {given : ℕ} {s : EngineState} (settled : Bool) → settled ≡ false → Serving May Rest before now policy pid start seen held failed given (to_offer settled s) s → Serving May Rest before now policy pid start seen held failed given (0 ∷ here s) s
  none-settled true e v = true-false e
  none-settled false e v = v

  pub yet-unsettled : {now : Side} {seen : Seen} {held failed : List ℕ} {given : ℕ} {s : EngineState} (settled : Bool) → settled ≡ false → Serving May Rest before now policy pid start seen held failed given (0 ∷ here s) s → Serving May Rest before now policy pid start seen held failed given (to_offer settled s) s
  yet-unsettled true e v = true-false e
  yet-unsettled false e v = v

  pub all-settled : {now : Side} {seen : Seen} {held failed : List ℕ} {given : ℕ} {s : EngineState} (settled : Bool) → settled ≡ true → Serving May Rest before now policy pid start seen held failed given (to_offer settled s) s → Serving May Rest before now policy pid start seen held failed (given + 0) [] s
  all-settled {now} {seen} {held} {failed} {given} {s} true e v = given-is given (given + 0) (omega arith) v
  all-settled false e v = true-false (sym e)

  -- a turn that the run goes on after was given
  pub went-on : {now : Side} {seen : Seen} {held failed : List ℕ} {given : ℕ} {todo : List ℕ} {s : EngineState} (on : Bool) → on ≡ true → EndsTurn on given May Rest before now policy pid start seen held failed todo s → Serving May Rest before now policy pid start seen held failed (given + 1) todo s
  went-on on e (inl v) = v
  went-on on e (inr w) = true-false (sym e ∙ w.0)

  -- the last one perhaps
  pub went-over : {now : Side} {seen : Seen} {held failed : List ℕ} {todo : List ℕ} {s : EngineState} (given turns : ℕ) (on : Bool) → given < turns → EndsTurn on given May Rest before now policy pid start seen held failed todo s → Spends false turns May Rest before now policy pid start seen held failed todo s
  went-over given turns on less (inl v) = record { given = given + 1; most = omega arith; all_given = λ e. true-false (sym e); serving = v }
  went-over given turns on less (inr w) = record { given = given; most = omega arith; all_given = λ e. true-false (sym e); serving = w.1 }

  pub all-spent : {now : Side} {seen : Seen} {held failed : List ℕ} {todo : List ℕ} {s : EngineState} (given turns : ℕ) → given ≡ turns → Serving May Rest before now policy pid start seen held failed given todo s → Spends true turns May Rest before now policy pid start seen held failed todo s
  all-spent given turns e v = record { given = given; most = omega arith; all_given = λ t. e; serving = v }

-- ---- results

pub both-ok : {A E : Type 0} (r : Result A E) {P Q S : Type 0} (T : Type 0) → (P → S → Q) → MatchResult r (λ x. P) (λ e. T) → OnOk r S → MatchResult r (λ x. Q) (λ e. T)
both-ok (Ok x) T f p s = f p s
both-ok (Err e) T f p s = p

pub match-more : {A E : Type 0} (r : Result A E) {P Q : Type 0} (T : Type 0) → (P → Q) → MatchResult r (λ x. P) (λ e. T) → MatchResult r (λ x. Q) (λ e. T)
match-more (Ok x) T f p = f p
match-more (Err e) T f p = p

pub match-more-both : {A E : Type 0} (r : Result A E) {P Q : Type 0} (S T : Type 0) → (P → Q) → MatchResult r (λ x. P × S) (λ e. T) → MatchResult r (λ x. Q × S) (λ e. T)
match-more-both (Ok x) S T f p = (f p.0, p.1)
match-more-both (Err e) S T f p = p

-- ---- a forwarder that is admitted

abbrev side-with : Option (List HouseMark) → Known → List HouseCall → Bool → Side
side-with recorded known calls let_in = record { recorded = recorded; asks = known.asks; unnoted = []; let_in = let_in; calls = calls }

pub still-outside : (recorded : Option (List HouseMark)) (known : Known) (calls : List HouseCall) → known.present ≡ false → outside recorded known calls ≡ all_marks_noted recorded known calls
still-outside recorded known calls absent = ap (side-with recorded known calls) (sym absent)

pub let-inside : (recorded : Option (List HouseMark)) (known : Known) (calls : List HouseCall) → known.present ≡ true → side-with recorded known calls true ≡ all_marks_noted recorded known calls
let-inside recorded known calls there = ap (side-with recorded known calls) (sym there)

-- ---- the end

-- the streams of clients are left to be offered something
pub to-last : {May : HouseReply → Type 0} {Rest : Resting} {before : Option (List HouseMark)} {now : Side} {policy : Policy} {pid : ℕ} {start : Option (List Mark)} {seen : Seen} {held failed : List ℕ} {given : ℕ} {s : EngineState} → Serving May Rest before now policy pid start seen held failed given (0 ∷ without HOUSE (here s)) s
    → Serving May Rest before now policy pid start seen held failed given (0 ∷ (without HOUSE (here s) ++ [])) s
to-last {May} {Rest} {before} {now} {policy} {pid} {start} {seen} {held} {failed} {given} {s} v =
    subst (λ (l : List ℕ). Serving May Rest before now policy pid start seen held failed given (0 ∷ l) s) (sym (append-nil (without HOUSE (here s)))) v
