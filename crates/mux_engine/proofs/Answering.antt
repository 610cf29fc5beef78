-- A whole run, after its turns and what is offered at its end.
use Rattle.std.proofs.Common.{◌≡◌, ◌≢◌, ◌≤◌, ◌+◌, ℕ, Bool, true, false, List, [], ◌∷◌, Option, Some, None, refl, sym, ap, ◌∙◌, subst, ◌||◌, arith, inl, inr}
use Rattle.std.specs.Prelude.{Result, Ok, Err, IsErr}
use Rattle.std.specs.Result.{result_unwrap_or}
use Rattle.mux_outside.specs.Counts.{Rose}
use Rattle.mux_outside.specs.Faults.{Faults}
use Rattle.mux_outside.specs.House.{HouseState, Known, nothing_known}
use Rattle.mux_outside.specs.HouseCalls.{HandsOn, HouseCall}
use Rattle.mux_outside.specs.OwnStreams.{is_one, is_own, numbers_of}
use Rattle.mux_outside.specs.Seen.{Seen}
use Rattle.mux_outside.specs.CallCounts.{CallCounts}
use Rattle.mux_outside.specs.Streams.{among}
use Rattle.mux_outside.specs.declared.house.HouseReply.{HouseReply}
use Rattle.mux_outside.specs.declared.house_mark.HouseMark.{HouseMark}
use Rattle.mux_outside.specs.declared.mark.Mark.{Mark}
use Rattle.mux_history.specs.declared.ended.Ended.{Ended}
use Rattle.mux_history.specs.declared.ended.Ended.TheVariants as ended
use Rattle.mux_history.specs.Policy.{Policy}
use Rattle.mux_history.specs.Promises.{turns_in}
use Rattle.mux_state.specs.State.{EngineState}
use Rattle.mux_engine.specs.Counted.{Spent, RunStops, CountsOfWholeCall}
use Rattle.mux_engine.specs.Owned.{IsOwnOffered}
use Rattle.mux_engine.specs.Rests.{IsByRow, ended_as, start_refused_if}
use Rattle.mux_engine.specs.Run.{IsRun}
use Rattle.mux_engine.specs.Serving.{Promised, Serving, StaysOrFails}
use Rattle.mux_engine.specs.Sides.{Housed, IsAlone, Resting, Side}
use Rattle.mux_engine.proofs.Arms.{rose-stays}
use Rattle.mux_engine.proofs.Counting.{none-more, rose-behind, stays-by-row}
use Rattle.mux_engine.proofs.Ending.{ends-so, ends-spent, ends-unspent, fails-on, refused-none, refused-same}
use Rattle.mux_engine.proofs.Lists.{test-other, true-false}
use Rattle.mux_engine.proofs.Runs.{ends-run, ends-starved, promised-more}
use Rattle.mux_engine.proofs.Spending.{spent-then, stops-spent}

-- ---- the answer

-- the answer with a forwarder that is present just so
pub answer-is : (answer : Ended) (o : Option Ended) (p q must : Bool) (refused : Option ℕ) → p ≡ q → answer ≡ ended_as o (start_refused_if p must refused) → answer ≡ ended_as o (start_refused_if q must refused)
answer-is answer o p q must refused e is = is ∙ ap (λ b. ended_as o (start_refused_if b must refused)) e

-- what was refused when the turns were over, with a forwarder that receives no request after them
pub over-still : {T : Type 0} (present must : T → Bool) (refused : T → Option ℕ) (h h' : T) (p : Bool) → h' ≡ h → present h ≡ p → start_refused_if (present h) (must h) (refused h) ≢ None → start_refused_if p (must h') (refused h') ≢ None
over-still present must refused h h' p e f some none = some (refused-same (present h) p (must h) (must h') (refused h) (refused h') f (ap must (sym e)) (ap refused (sym e)) ∙ none)

given-all : (all : Bool) (given turns : ℕ) (mid : Option Ended) (r : Option ℕ) → (all ≡ true → given ≡ turns) → (all ≡ false → mid ≡ None → r ≢ None) → mid ≡ None → r ≡ None → given ≡ turns
given-all true given turns mid r every over on none = every refl
given-all false given turns mid r every over on none = absurd (over refl on none)

abbrev refused-index : Ended → ℕ
refused-index (ended.StartRefused index) = index
refused-index e = 0

refused-as : (o : Option Ended) (r : Option ℕ) (index : ℕ) → ended_as o r ≡ ended.StartRefused index → o ≢ Some (ended.StartRefused index) → r ≡ Some index
refused-as (Some cause) r index e allowed = absurd (allowed (ap (λ (c : Ended). Some c) e))
refused-as None (Some i) index e allowed = ap (λ (c : Ended). Some (refused-index c)) e
refused-as None None index e allowed = absurd (let z : ended.Spent ≡ ended.StartRefused index = e in cc)

-- a run that ended since a forwarding was refused
pub refused-whole : (answer : Ended) (mid new : Option Ended) (m n : Faults) (r : Option ℕ) (index : ℕ) → IsByRow mid → StaysOrFails mid new m n → answer ≡ ended_as new r → answer ≡ ended.StartRefused index → r ≡ Some index
refused-whole answer mid new m n r index row stays is e = refused-as new r index (sym is ∙ e) ((stays-by-row mid new m.server n.server stays row).permitted index)

-- one that ended since the server's stream failed: its count rose
failed-as : (o : Option Ended) (r : Option ℕ) → ended_as o r ≡ ended.ServerFailed → o ≡ Some ended.ServerFailed
failed-as (Some cause) r e = ap (λ (c : Ended). Some c) e
failed-as None (Some index) e = absurd (let z : ended.StartRefused index ≡ ended.ServerFailed = e in cc)
failed-as None None e = absurd (let z : ended.Spent ≡ ended.ServerFailed = e in cc)

pub failed-whole : (answer : Ended) (mid new : Option Ended) (f g h i : Faults) (r : Option ℕ) → f.server ≤ g.server → g.server ≤ h.server → (mid ≡ Some ended.ServerFailed → Rose g.server h.server) → StaysOrFails mid new h i → answer ≡ ended_as new r → answer ≡ ended.ServerFailed → Rose f.server i.server
failed-whole answer mid new f g h i r le le' rose stays is e = rose-behind f.server g.server i.server le (by_stays stays)
  where
    by_stays : StaysOrFails mid new h i → Rose g.server i.server
    by_stays (inl s) = rose-stays g.server h.server i.server (rose (sym s.0 ∙ failed-as new r (sym is ∙ e))) s.1
    by_stays (inr s) = rose-behind g.server h.server i.server le' s.1

-- ---- what is promised

module _ {May : HouseReply → Type 0} {Rest : Resting} {before : Option (List HouseMark)} {policy : Policy} {pid : ℕ} {start : Option (List Mark)} where
  -- no stream is held back yet, and none failed
  pub none-held : {now : Side} {seen : Seen} {given : ℕ} {todo : List ℕ} {s : EngineState} (held failed : List ℕ) → held ≡ [] → failed ≡ [] → Serving May Rest before now policy pid start seen [] [] given todo s → Serving May Rest before now policy pid start seen held failed given todo s
  none-held {now} {seen} {given} {todo} {s} held failed e f v = subst (λ (l : List ℕ). Serving May Rest before now policy pid start seen l failed given todo s) (sym e) (subst (λ (l : List ℕ). Serving May Rest before now policy pid start seen [] l given todo s) (sym f) v)

  pub none-given : {now : Side} {seen : Seen} {held failed : List ℕ} {given : ℕ} {todo : List ℕ} {s : EngineState} (v : Serving May Rest before now policy pid start seen held failed given todo s) → v.journal ≡ [] → given ≡ 0
  none-given v z = sym v.turns ∙ ap turns_in z

  -- a run that went to its end
  pub ran-whole : {now : Side} {seen : Seen} {held failed : List ℕ} {s : EngineState} (stands : List HouseCall → Type 0) (last : HouseState) (turns given : ℕ) (all : Bool) (mid : Option Ended) (m n : Faults) (refused : Option ℕ) (answer : Ended)
      → Serving May Rest before now policy pid start seen held failed (given + 0) [] s → now.unnoted ≡ [] → HandsOn stands last.stands now.calls → ((t : ℕ) → is_one t seen.own ≡ true → IsOwnOffered (last.queue t) held failed t)
      → given ≤ turns → (all ≡ true → given ≡ turns) → StaysOrFails mid s.ended m n → (all ≡ false → mid ≡ None → refused ≢ None) → answer ≡ ended_as s.ended refused
      → IsRun May Rest.rests stands last Rest.present policy pid turns before now.recorded start seen refused answer
  ran-whole {now} {seen} {held} {failed} {s} stands last turns given all mid m n refused answer v noted hands offered le every stays over is =
      subst (λ (a : Ended). IsRun May Rest.rests stands last Rest.present policy pid turns before now.recorded start seen refused a) (sym is)
      (ends-run May Rest stands last before policy pid turns start refused now seen held failed (given + 0) s (ended_as s.ended refused) v noted hands offered (none-more given turns le)
      (ends-so turns v.journal s.ended refused (λ on none. v.turns ∙ let g : given ≡ turns = given-all all given turns mid refused every over (fails-on mid s.ended m n stays on) none in (omega (arith, g)))))

  -- one that was cut short as memory ran out
  pub ran-starved : {E : Type 0} {now : Option (List HouseMark)} {seen : Seen} {refused : Option ℕ} (stands : List HouseCall → Type 0) (last : HouseState) (turns given : ℕ) (r : Result Ended E) → IsErr r → given ≤ turns → Promised May Rest before now policy pid start seen.recorded given → IsRun May Rest.rests stands last Rest.present policy pid turns before now start seen refused (result_unwrap_or r ended.OutOfMemory)
  ran-starved stands last turns given (Ok x) h le p = absurd (let z : false ≡ true = h in cc)
  ran-starved {E} {now} {seen} {refused} stands last turns given (Err e) h le p = ends-starved May Rest stands last before policy pid turns start refused now seen (promised-more given turns le p)

-- ---- what is counted

-- after calls that left the counts as they were
pub spent-from : (present all : Bool) (turns : ℕ) (a b c : CallCounts) → b ≡ a → Spent present all turns b c → Spent present all turns a c
spent-from present all turns a b c e s = subst (λ (x : CallCounts). Spent present all turns x c) e s

pub stops-whole : (present all must : Bool) (turns : ℕ) (answer : Ended) (a b c d : CallCounts) (mid new : Option Ended) (m n : Faults) (refused : Option ℕ)
    → b ≡ a → Spent present all turns b c → CountsOfWholeCall 0 c d → StaysOrFails mid new m n → IsByRow mid → (all ≡ false → mid ≡ None → start_refused_if present must refused ≢ None) → (present ≡ false → turns ≡ 0 → new ≡ None) → answer ≡ ended_as new (start_refused_if present must refused)
    → RunStops present turns answer a d
stops-whole present all must turns answer a b c d mid new m n refused same spent well stays row over idle is =
    stops-spent present all turns answer a d (spent-then present all turns a c d (spent-from present all turns a b c same spent) well)
    (λ p q e. ends-unspent mid new m n (start_refused_if present must refused) stays (λ on. over q on (refused-none present must refused p)) row.unspent (sym is ∙ e))
    (λ p z. is ∙ ends-spent new (start_refused_if present must refused) (idle p z) (refused-none present must refused p))

-- ---- the start

-- a forwarder that knows of nothing, at a wire that has but the server's stream
pub housed-blank : (known : Known) (seen : Seen) → known ≡ nothing_known known.present → seen.streams ≡ 0 ∷ [] → seen.own ≡ [] → seen.listeners ≡ [] → Housed known seen []
housed-blank known seen blank streams own listeners = record {
  ordering = ap (λ (k : Known). k.ordering) blank;
  listeners = ap (λ (k : Known). k.listeners) blank ∙ sym listeners;
  streams = ap (λ (k : Known). k.streams) blank ∙ sym own;
  own_is = ap numbers_of (sym own);
  places = record {
    opened = λ t one. true-false (sym one ∙ ap (is_one t) own);
    numbered = λ t one. true-false (sym one ∙ ap (is_one t) own);
    listed = λ t one of_own. server t (sym (ap (among t) streams) ∙ one) of_own;
    given = λ t one. true-false (sym one ∙ ap (is_one t) own);
    listening = λ l one. true-false (sym one ∙ ap (among l) listeners);
  };
}
  where
    server : {A : Type 0} (t : ℕ) → among t (0 ∷ []) ≡ true → is_own t ≡ true → A
    server t one of_own = true-false (sym one ∙ ap (λ b. b || false) (test-other 0 t (λ q. true-false (sym of_own ∙ ap is_own (sym q)))))

pub alone-blank : (known : Known) → known ≡ nothing_known known.present → IsAlone known
alone-blank known blank = record { listeners = λ p. ap (λ (k : Known). k.listeners) blank; streams = λ p. ap (λ (k : Known). k.streams) blank }
