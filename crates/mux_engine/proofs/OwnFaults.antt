-- Which calls of a wire leave the orders that got no number within the own faults that were
-- counted.
use Rattle.std.proofs.Common.{◌≡◌, ◌≤◌, ◌+◌, ◌-◌, ◌^◌, ℕ, zero, suc, Bool, true, false, List, [], ◌∷◌, ◌++◌, length, take, Option, Some, None, refl, sym, ap, ◌∙◌, subst, inl, inr, ◌⊎◌, cond, arith, length-append}
use Rattle.std.specs.Prelude.{filter, map, Result, Ok, Err}
use Rattle.std.specs.Option.{option_map}
use Rattle.std.proofs.lemmas.List.Elements.{filter-append}
use Rattle.mux_outside.specs.Counts.{Rose, counted}
use Rattle.mux_outside.specs.Faults.{FaultOf, Faults}
use Rattle.mux_outside.specs.Seen.{Seen, seen_after_note, seen_after_turn, seen_after_write}
use Rattle.mux_outside.specs.Whose.{whose}
use Rattle.mux_outside.specs.Wire.{MakeFaults, TurnFaults, WroteFaults}
use Rattle.mux_outside.specs.declared.file_error.FileError.{FileError}
use Rattle.mux_outside.specs.declared.file_error.FileError.TheVariants.{Failed, OutOfMemory}
use Rattle.mux_outside.specs.declared.house_mark.HouseMark.{HouseMark}
use Rattle.mux_outside.specs.declared.house_mark.HouseMark.TheVariants.{HouseIn, HouseSaid, HouseTook, HouseAsked, HouseAnswer, HouseOrder}
use Rattle.mux_outside.specs.declared.mark.Mark.{Mark}
use Rattle.mux_outside.specs.declared.mark.Mark.TheVariants.{House}
use Rattle.mux_outside.specs.declared.order.Order.{Order}
use Rattle.mux_outside.specs.declared.order.Order.TheVariants.{Listen, Connect, Unlisten, Pause, Resume, Finish, Close}
use Rattle.mux_outside.specs.declared.turn.Turn.{Turn}
use Rattle.mux_outside.specs.declared.turn.Turn.TheVariants as turn
use Rattle.mux_outside.specs.declared.turn.Want.{Want}
use Rattle.mux_outside.specs.declared.turn.Wrote.{Wrote}
use Rattle.mux_outside.specs.declared.turn.Wrote.TheVariants as wrote
use Rattle.mux_outside.specs.declared.whose.Whose.{Whose}
use Rattle.mux_outside.specs.declared.whose.Whose.TheVariants.{Server, Client, Own}
use Rattle.mux_engine.specs.OwnFaults.{OrderCounted, OwnCounted, is_order_unmade, is_unmade_order, unmade_in}
use Rattle.mux_engine.proofs.Asks.{EachAsked}

same-later : (a b : ℕ) → b ≡ a → a ≤ b
same-later a b e = omega arith

-- ---- first one, then another

-- where nothing was recorded
pub own-same : (recorded : Option (List Mark)) (faults : ℕ) → OwnCounted recorded recorded faults faults
own-same recorded faults = record { later = omega arith; counted = inl (omega arith) }

pub own-still : (recorded recorded' : Option (List Mark)) (faults faults' : ℕ) → recorded' ≡ recorded → faults ≤ faults' → OwnCounted recorded recorded' faults faults'
own-still recorded recorded' faults faults' e l = let z : unmade_in recorded' ≡ unmade_in recorded = ap unmade_in e in record { later = l; counted = inl (omega (arith, z, l)) }

pub own-kept : (recorded recorded' : Option (List Mark)) (faults faults' : ℕ) → recorded' ≡ recorded → faults' ≡ faults → OwnCounted recorded recorded' faults faults'
own-kept recorded recorded' faults faults' e f = own-still recorded recorded' faults faults' e (same-later faults faults' f)

pub own-then : (a b c : Option (List Mark)) (m n o : ℕ) → OwnCounted a b m n → OwnCounted b c n o → OwnCounted a c m o
own-then a b c m n o v w = let f : m ≤ n = v.later in let g : n ≤ o = w.later in record { later = omega (arith, f, g); counted = both v.counted w.counted f g }
  where
    both : (unmade_in b + m ≤ unmade_in a + n) ⊎ (2 ^ 64 - 1 ≤ n) → (unmade_in c + n ≤ unmade_in b + o) ⊎ (2 ^ 64 - 1 ≤ o) → m ≤ n → n ≤ o → (unmade_in c + m ≤ unmade_in a + o) ⊎ (2 ^ 64 - 1 ≤ o)
    both (inl x) (inl y) f g = inl (omega (arith, x, y))
    both (inl x) (inr y) f g = inr y
    both (inr x) y f g = inr (omega (arith, x, g))

-- ---- marks that are recorded

unmade-more : (recorded : Option (List Mark)) (more : List Mark) → filter is_order_unmade more ≡ [] → unmade_in (option_map (λ m. m ++ more) recorded) ≡ unmade_in recorded
unmade-more None more none = refl
unmade-more (Some marks) more none = ap length (filter-append is_order_unmade marks more) ∙ (length-append (filter is_order_unmade marks) (filter is_order_unmade more) ∙ adds (length (filter is_order_unmade marks)) (length (filter is_order_unmade more)) (ap length none))
  where
    adds : (m n : ℕ) → n ≡ 0 → m + n ≡ m
    adds m n e = omega arith

unmade-one : (recorded : Option (List Mark)) (mark : Mark) → unmade_in (option_map (λ m. m ++ mark ∷ []) recorded) ≤ unmade_in recorded + 1
unmade-one None mark = omega arith
unmade-one (Some marks) mark =
    let e : length (filter is_order_unmade (marks ++ mark ∷ [])) ≡ length (filter is_order_unmade marks) + length (filter is_order_unmade (mark ∷ [])) = ap length (filter-append is_order_unmade marks (mark ∷ [])) ∙ length-append (filter is_order_unmade marks) (filter is_order_unmade (mark ∷ [])) in
    let l : length (filter is_order_unmade (mark ∷ [])) ≤ 1 = one (is_order_unmade mark) in omega (arith, e, l)
  where
    one : (b : Bool) → length (cond b (mark ∷ []) []) ≤ 1
    one true = omega arith
    one false = omega arith

-- none of them is an order that got no number
pub own-recorded : (recorded recorded' : Option (List Mark)) (more : List Mark) (faults faults' : ℕ) → recorded' ≡ option_map (λ m. m ++ more) recorded → filter is_order_unmade more ≡ [] → faults ≤ faults' → OwnCounted recorded recorded' faults faults'
own-recorded recorded recorded' more faults faults' e none l =
    let z : unmade_in recorded' ≡ unmade_in recorded = ap unmade_in e ∙ unmade-more recorded more none in record { later = l; counted = inl (omega (arith, z, l)) }

-- one of them may be, whose fault was counted
pub own-rose : (recorded recorded' : Option (List Mark)) (mark : Mark) (faults faults' : ℕ) → recorded' ≡ option_map (λ m. m ++ mark ∷ []) recorded → Rose faults faults' → OwnCounted recorded recorded' faults faults'
own-rose recorded recorded' mark faults faults' e r =
    let z : unmade_in recorded' ≡ unmade_in (option_map (λ m. m ++ mark ∷ []) recorded) = ap unmade_in e in
    let l : unmade_in (option_map (λ m. m ++ mark ∷ []) recorded) ≤ unmade_in recorded + 1 = unmade-one recorded mark in
    record { later = r.later; counted = full (unmade_in recorded) (unmade_in recorded') (omega (arith, z, l)) r.rose }
  where
    full : (m n : ℕ) → n ≤ m + 1 → counted faults ≤ faults' → (n + faults ≤ m + faults') ⊎ (2 ^ 64 - 1 ≤ faults')
    full m n l c = grind (arith, l, c)

-- ---- a call of the wire

-- no count of own faults falls
same-own : (f f' : Faults) → f' ≡ f → f.own ≤ f'.own
same-own f f' e = same-later f.own f'.own (ap (λ (x : Faults). x.own) e)

fault-later : (w : Whose) (f f' : Faults) → FaultOf w f f' → f.own ≤ f'.own
fault-later Server f f' r = same-later f.own f'.own r.own
fault-later (Client k) f f' r = same-later f.own f'.own r.own
fault-later Own f f' r = r.rose.later

turn-later : (t : Turn) (f f' : Faults) → TurnFaults t f f' → f.own ≤ f'.own
turn-later (turn.Failed k) f f' c = fault-later (whose k) f f' c
turn-later (turn.Accepted k) f f' c = same-own f f' c
turn-later (turn.Got k) f f' c = same-own f f' c
turn-later (turn.End k) f f' c = same-own f f' c
turn-later (turn.Writable k) f f' c = same-own f f' c
turn-later (turn.Joined l k) f f' c = same-own f f' c
turn-later turn.NoMemory f f' c = same-own f f' c

pub own-turn : (t : Turn) (waiting : List ℕ) (want : Want) (bytes : List ℕ) (old new : Seen) (f f' : Faults) → new ≡ seen_after_turn t waiting want bytes old → TurnFaults t f f' → OwnCounted old.recorded new.recorded f.own f'.own
own-turn (turn.Failed k) waiting want bytes old new f f' e c = own-recorded old.recorded new.recorded _ f.own f'.own (ap (λ (x : Seen). x.recorded) e) refl (turn-later (turn.Failed k) f f' c)
own-turn (turn.Accepted k) waiting want bytes old new f f' e c = own-recorded old.recorded new.recorded _ f.own f'.own (ap (λ (x : Seen). x.recorded) e) refl (turn-later (turn.Accepted k) f f' c)
own-turn (turn.Got k) waiting want bytes old new f f' e c = own-recorded old.recorded new.recorded _ f.own f'.own (ap (λ (x : Seen). x.recorded) e) refl (turn-later (turn.Got k) f f' c)
own-turn (turn.End k) waiting want bytes old new f f' e c = own-recorded old.recorded new.recorded _ f.own f'.own (ap (λ (x : Seen). x.recorded) e) refl (turn-later (turn.End k) f f' c)
own-turn (turn.Writable k) waiting want bytes old new f f' e c = own-recorded old.recorded new.recorded _ f.own f'.own (ap (λ (x : Seen). x.recorded) e) refl (turn-later (turn.Writable k) f f' c)
own-turn (turn.Joined l k) waiting want bytes old new f f' e c = own-recorded old.recorded new.recorded _ f.own f'.own (ap (λ (x : Seen). x.recorded) e) refl (turn-later (turn.Joined l k) f f' c)
own-turn turn.NoMemory waiting want bytes old new f f' e c = own-recorded old.recorded new.recorded _ f.own f'.own (ap (λ (x : Seen). x.recorded) e) refl (turn-later turn.NoMemory f f' c)

wrote-later : (answer : Wrote) (k : ℕ) (f f' : Faults) → WroteFaults answer k f f' → f.own ≤ f'.own
wrote-later wrote.Failed k f f' c = fault-later (whose k) f f' c
wrote-later (wrote.Took j) k f f' c = same-own f f' c
wrote-later wrote.Later k f f' c = same-own f f' c
wrote-later wrote.NoMemory k f f' c = same-own f f' c

pub own-write : (answer : Wrote) (k : ℕ) (bytes : List ℕ) (old new : Seen) (f f' : Faults) → new ≡ seen_after_write answer k bytes old → WroteFaults answer k f f' → OwnCounted old.recorded new.recorded f.own f'.own
own-write wrote.Failed k bytes old new f f' e c = own-recorded old.recorded new.recorded _ f.own f'.own (ap (λ (x : Seen). x.recorded) e) refl (wrote-later wrote.Failed k f f' c)
own-write (wrote.Took j) k bytes old new f f' e c = own-recorded old.recorded new.recorded _ f.own f'.own (ap (λ (x : Seen). x.recorded) e) refl (wrote-later (wrote.Took j) k f f' c)
own-write wrote.Later k bytes old new f f' e c = own-recorded old.recorded new.recorded _ f.own f'.own (ap (λ (x : Seen). x.recorded) e) refl (wrote-later wrote.Later k f f' c)
own-write wrote.NoMemory k bytes old new f f' e c = own-recorded old.recorded new.recorded _ f.own f'.own (ap (λ (x : Seen). x.recorded) e) refl (wrote-later wrote.NoMemory k f f' c)

-- a mark of a forwarder was noted that is no such order
pub own-note : {E : Type 0} (r : Result (Unit {0}) E) (mark : HouseMark) (old new : Seen) (m n : ℕ) → is_order_unmade (House mark) ≡ false → new ≡ seen_after_note r mark old → n ≡ m → OwnCounted old.recorded new.recorded m n
own-note (Ok x) mark old new m n made e f = own-recorded old.recorded new.recorded (House mark ∷ []) m n (ap (λ (x : Seen). x.recorded) e) (ap (λ b. cond b (House mark ∷ []) []) made) (same-later m n f)
own-note (Err x) mark old new m n made e f = own-still old.recorded new.recorded m n (ap (λ (x : Seen). x.recorded) e) (same-later m n f)

-- requests of clients are none
asks-made : (P : ℕ → Type 0) (n : ℕ) (asks : List HouseMark) → EachAsked P asks → filter is_order_unmade (map (λ (a : HouseMark). House a) (take n asks)) ≡ []
asks-made P zero asks each = refl
asks-made P (suc n) [] each = refl
asks-made P (suc n) (HouseAsked client id opening ask reply ∷ asks) each = asks-made P n asks each.1
asks-made P (suc n) (HouseIn ∷ asks) each = absurd each.0
asks-made P (suc n) (HouseSaid bytes ∷ asks) each = absurd each.0
asks-made P (suc n) (HouseTook size ∷ asks) each = absurd each.0
asks-made P (suc n) (HouseAnswer client id reply ∷ asks) each = absurd each.0
asks-made P (suc n) (HouseOrder order number ∷ asks) each = absurd each.0

pub own-asks : (P : ℕ → Type 0) (k : ℕ) (asks : List HouseMark) (old new : Seen) (m n : ℕ) → EachAsked P asks → new ≡ record old { recorded = option_map (λ (l : List Mark). l ++ map (λ (a : HouseMark). House a) (take k asks)) old.recorded } → n ≡ m → OwnCounted old.recorded new.recorded m n
own-asks P k asks old new m n each e f = own-recorded old.recorded new.recorded (map (λ (a : HouseMark). House a) (take k asks)) m n (ap (λ (x : Seen). x.recorded) e) (asks-made P k asks each) (same-later m n f)

-- ---- an order

-- what was made, or not, as its call was counted
pub made-later : (r : Result ℕ FileError) (f f' : Faults) → MakeFaults r f f' → f.own ≤ f'.own
made-later (Ok x) f f' c = same-own f f' c
made-later (Err Failed) f f' c = c.rose.later
made-later (Err OutOfMemory) f f' c = same-own f f' c

-- what an order is recorded with, after what was counted for it
order-step : (order : Order) (number : Option ℕ) (m n : ℕ) → OrderCounted order number m n → ((is_order_unmade (House (HouseOrder order number)) ≡ false) × (n ≡ m)) ⊎ Rose m n
order-step (Listen host port) None m n f = inr f
order-step (Listen host port) (Some k) m n f = inl (refl, f)
order-step (Connect host port) None m n f = inr f
order-step (Connect host port) (Some k) m n f = inl (refl, f)
order-step (Unlisten l) number m n f = inl (refl, f)
order-step (Pause t) number m n f = inl (refl, f)
order-step (Resume t) number m n f = inl (refl, f)
order-step (Finish t) number m n f = inl (refl, f)
order-step (Close t) number m n f = inl (refl, f)

pub own-ordered : {E : Type 0} (r : Result (Unit {0}) E) (order : Order) (number : Option ℕ) (old mid new : Seen) (m n o : ℕ) → mid.recorded ≡ old.recorded → OrderCounted order number m n → new ≡ seen_after_note r (HouseOrder order number) mid → o ≡ n → OwnCounted old.recorded new.recorded m o
own-ordered {E} r order number old mid new m n o same f e g = elim (order-step order number m n f) [
  | inl p ↦ own-then old.recorded mid.recorded new.recorded m n o (own-still old.recorded mid.recorded m n same (same-later m n p.1)) (own-note r (HouseOrder order number) mid new n o p.0 e g)
  | inr rose ↦ by_note r e rose
]
  where
    by_note : (r : Result (Unit {0}) E) → new ≡ seen_after_note r (HouseOrder order number) mid → Rose m n → OwnCounted old.recorded new.recorded m o
    by_note (Ok x) e rose = own-rose old.recorded new.recorded (House (HouseOrder order number)) m o (ap (λ (x : Seen). x.recorded) e ∙ ap (λ (t : Option (List Mark)). option_map (λ l. l ++ House (HouseOrder order number) ∷ []) t) same) (subst (λ (j : ℕ). Rose m j) (sym g) rose)
    by_note (Err x) e rose = own-still old.recorded new.recorded m o (ap (λ (x : Seen). x.recorded) e ∙ same) (let l : m ≤ n = rose.later in omega (arith, l, g))

-- what was made has a number
made-is : (order : Order) (n : ℕ) → is_unmade_order order (Some n) ≡ false
made-is (Listen host port) n = refl
made-is (Connect host port) n = refl
made-is (Unlisten l) n = refl
made-is (Pause t) n = refl
made-is (Resume t) n = refl
made-is (Finish t) n = refl
made-is (Close t) n = refl

pub own-made : (order : Order) (k : ℕ) (old new : Option (List Mark)) (m n : ℕ) → new ≡ option_map (λ (l : List Mark). l ++ House (HouseOrder order (Some k)) ∷ []) old → m ≤ n → OwnCounted old new m n
own-made order k old new m n e le = own-recorded old new (House (HouseOrder order (Some k)) ∷ []) m n e (ap (λ b. cond b (House (HouseOrder order (Some k)) ∷ []) []) (made-is order k)) le

-- an order that the wire recorded
pub own-ordered-recorded : (order : Order) (number : Option ℕ) (old : Seen) (new : Option (List Mark)) (m n : ℕ) → new ≡ option_map (λ (l : List Mark). l ++ House (HouseOrder order number) ∷ []) old.recorded → OrderCounted order number m n → OwnCounted old.recorded new m n
own-ordered-recorded order number old new m n e count = subst (λ (t : Option (List Mark)). OwnCounted old.recorded t m n) (sym e) (own-ordered {E = Unit {0}} (Ok tt) order number old old (seen_after_note {E = Unit {0}} (Ok tt) (HouseOrder order number) old) m n n refl count refl refl)
