-- How a run ends after its turns.
use Rattle.std.proofs.Common.{◌≡◌, ◌≢◌, ℕ, Bool, true, false, List, Option, Some, None, refl, sym, ap, ◌∙◌, inl, inr, subst}
use Rattle.std.specs.Prelude.{◌≤◌, IsErr, IsOk, Result, Ok, Err}
use Rattle.mux_outside.specs.Counts.{Rose}
use Rattle.mux_outside.specs.Faults.{Faults}
use Rattle.mux_outside.specs.House.{HouseState}
use Rattle.mux_outside.specs.Seen.{Seen}
use Rattle.mux_outside.specs.WireState.{WireState}
use Rattle.mux_outside.specs.declared.mark.Mark.{Mark}
use Rattle.mux_history.specs.declared.ended.Ended.{Ended}
use Rattle.mux_history.specs.declared.ended.Ended.TheVariants as ended
use Rattle.mux_history.specs.Promises.{EndsAs, turns_in}
use Rattle.mux_engine.specs.Came.{Came}
use Rattle.mux_engine.specs.Rests.{EndsSo, HasEnded, IsByRow, LeavesPlaces, ended_as, start_refused_if}
use Rattle.mux_engine.specs.Serving.{StaysOrFails}
use Rattle.mux_engine.specs.Wires.{Untouched}
use Rattle.mux_engine.proofs.Comes.{over-later, over-live, over-present, over-same}
use Rattle.mux_engine.proofs.Counting.{rose-behind}

pub refused-none : (present must : Bool) (refused : Option ℕ) → present ≡ false → start_refused_if present must refused ≡ None
refused-none false must refused p = refl
refused-none true must refused p = absurd (cc)

-- the forwarding that was refused, where nothing changed
pub refused-same : (p q m n : Bool) (r s : Option ℕ) → p ≡ q → m ≡ n → r ≡ s → start_refused_if p m r ≡ start_refused_if q n s
refused-same p q m n r s e f g = ap (λ b. start_refused_if b m r) e ∙ (ap (λ b. start_refused_if q b r) f ∙ ap (start_refused_if q n) g)

pub fails-on : (old new : Option Ended) (a b : Faults) → StaysOrFails old new a b → new ≡ None → old ≡ None
fails-on old new a b (inl s) is = sym s.0 ∙ is
fails-on old new a b (inr f) is = let z : Some ended.ServerFailed ≡ None = sym f.0 ∙ is in absurd (let h = z in cc)

-- the answer after the turns
pub ends-so : (turns : ℕ) (marks : List Mark) (o : Option Ended) (r : Option ℕ) → (o ≡ None → r ≡ None → turns_in marks ≡ turns) → EndsAs turns marks r o (ended_as o r)
ends-so turns marks (Some cause) r all = refl
ends-so turns marks None (Some index) all = refl
ends-so turns marks None None all = (refl, all refl refl)

some-unspent : (o : Option Ended) (r : Option ℕ) → o ≢ None → o ≢ Some ended.Spent → ended_as o r ≢ ended.Spent
some-unspent (Some cause) r some unspent e = unspent (ap (λ (c : Ended). Some c) e)
some-unspent None r some unspent e = some refl

-- a run that something ended did not spend its turns
pub ends-unspent : (old new : Option Ended) (a b : Faults) (r : Option ℕ) → StaysOrFails old new a b → old ≢ None → old ≢ Some ended.Spent → ended_as new r ≢ ended.Spent
ends-unspent old new a b r stays some unspent = some-unspent new r (λ e. some (fails-on old new a b stays e)) (still stays)
  where
    still : StaysOrFails old new a b → new ≢ Some ended.Spent
    still (inl s) e = unspent (sym s.0 ∙ e)
    still (inr f) e = let z : Some ended.ServerFailed ≡ Some ended.Spent = sym f.0 ∙ e in absurd (let h = z in cc)

-- one that nothing ended did
pub ends-spent : (o : Option Ended) (r : Option ℕ) → o ≡ None → r ≡ None → ended_as o r ≡ ended.Spent
ends-spent o r e f = ap (λ x. ended_as x r) e ∙ ap (ended_as None) f

-- ---- how it ended so far

-- it goes on
pub ends-live : {A E : Type 0} (r : Result A E) (p : Bool) (o : Option Ended) (a b : WireState) (f g : Faults) → o ≡ None → (p ≡ false → b.seen.last_own ≡ a.seen.last_own) → EndsSo r p o a b f g
ends-live (Ok x) p o a b f g live still = record {
  failed = λ over. let z : None ≡ Some ended.ServerFailed = sym live ∙ over in absurd (let h = z in cc);
  by_row = record {
    unspent = λ over. let z : None ≡ Some ended.Spent = sym live ∙ over in let h = z in cc;
    permitted = λ index over. let z : None ≡ Some (ended.StartRefused index) = sym live ∙ over in let h = z in cc;
  };
  by_count = over-live p o a.calls b.calls live;
  unopened = still;
}
ends-live (Err x) p o a b f g live still = record { failed = tt; by_row = tt; by_count = tt; unopened = still }

-- there was no memory
pub ends-cut : {A E : Type 0} (r : Result A E) (p : Bool) (o : Option Ended) (a b : WireState) (f g : Faults) → IsErr r → (p ≡ false → b.seen.last_own ≡ a.seen.last_own) → EndsSo r p o a b f g
ends-cut (Ok x) p o a b f g is still = absurd (let z : false ≡ true = is in cc)
ends-cut (Err x) p o a b f g is still = record { failed = tt; by_row = tt; by_count = tt; unopened = still }

-- after calls that ended no run, with a forwarder that is present just so
pub ends-later : {A E : Type 0} (r : Result A E) (p q : Bool) (o : Option Ended) (a b c : WireState) (f g h : Faults) → q ≡ p → f.server ≤ g.server → Came a.calls b.calls → (p ≡ false → b.seen.last_own ≡ a.seen.last_own) → EndsSo r q o b c g h → EndsSo r p o a c f h
ends-later (Ok x) p q o a b c f g h same later came still so = record {
  failed = λ over. rose-behind f.server g.server h.server later (so.failed over);
  by_row = so.by_row;
  by_count = over-present q p o a.calls c.calls same (over-later q o a.calls b.calls c.calls came so.by_count);
  unopened = λ out. so.unopened (same ∙ out) ∙ still out;
}
ends-later (Err x) p q o a b c f g h same later came still so = record { failed = tt; by_row = tt; by_count = tt; unopened = λ out. so.unopened (same ∙ out) ∙ still out }

-- with another result where memory did not run out, and after what only closes streams
pub ends-closed : {A B E : Type 0} (x : A) (y : B) (p : Bool) (o o' : Option Ended) (a b c : WireState) (f g h : Faults) → o' ≡ o → Untouched b c g h → c.seen.last_own ≡ b.seen.last_own → EndsSo {E = E} (Ok x) p o a b f g → EndsSo {E = E} (Ok y) p o' a c f h
ends-closed x y p o o' a b c f g h same idle still so = record {
  failed = λ over. subst (λ (n : ℕ). Rose f.server n) (sym idle.no_fault.server) (so.failed (sym same ∙ over));
  by_row = subst IsByRow (sym same) so.by_row;
  by_count = over-same p o o' a.calls b.calls c.calls same idle.calls so.by_count;
  unopened = λ out. still ∙ so.unopened out;
}

-- a run that ended as memory ran out
pub ended-starved : (p : Bool) (refused : Option ℕ) (a b : WireState) (f g : Faults) → HasEnded p refused ended.OutOfMemory a b f g
ended-starved p refused a b f g = record {
  permitted = λ index e. let z : ended.OutOfMemory ≡ ended.StartRefused index = e in absurd (let h = z in cc);
  failed = λ e. let z : ended.OutOfMemory ≡ ended.ServerFailed = e in absurd (let h = z in cc);
  by_count = tt;
}

-- the listeners and streams that it leaves
pub places-cut : {A E : Type 0} (r : Result A E) (house house' : HouseState) {seen seen' : Seen} → IsErr r → (house.known.present ≡ false → seen'.last_own ≡ seen.last_own) → LeavesPlaces (IsOk r) house house' seen seen'
places-cut (Ok x) house house' e still = absurd (let z : false ≡ true = e in cc)
places-cut (Err x) house house' e still = record { known = λ ok. absurd (let z : false ≡ true = ok in cc); unopened = still }
