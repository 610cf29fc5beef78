-- What offers to the master's own streams leave, in the words of their contracts: of one, and of
-- one after another.
use Rattle.std.proofs.Common.{◌≡◌, ◌<◌, ◌+◌, ℕ, Bool, true, false, not, ◌||◌, ◌&&◌, cond, inl, inr, List, [], ◌∷◌, ◌++◌, length, refl, sym, ap, ◌∙◌, arith, le_trans, le_refl, length-append}
use Rattle.std.specs.Prelude.{◌==◌, ◌⊎◌, filter, IsErr, OnOk, Result, Ok, Err}
use Rattle.std.proofs.lemmas.Bool.{eq-eqb, eqb-true, ne_eqb}
use Rattle.mux_outside.specs.House.{HouseState, Known, has_waiting}
use Rattle.mux_outside.specs.OwnStreams.{is_one, numbers_of}
use Rattle.mux_outside.specs.Seen.{Seen}
use Rattle.mux_outside.specs.Streams.{among}
use Rattle.mux_history.specs.Promises.{is_empty}
use Rattle.mux_engine.specs.Owned.{FailsFurther, IsOwnOffered, IsOpenOwn, OwnsStreams, TookOrOffered, waits_for_own}
use Rattle.mux_engine.specs.Sides.{Housed, OnlyTook, SameSockets}
use Rattle.mux_engine.proofs.Lists.{among-filter, and-second}
use Rattle.mux_engine.proofs.Left.{fewer-left, own-known, own-one}

-- ---- what the forwarder is

-- it accepted something, and that ended well
abbrev pub JustTook : HouseState → HouseState → Type 0
JustTook old new = OnlyTook {A = Unit {0}} {E = Unit {0}} (Ok tt) old new

pub took-none : (h : HouseState) → JustTook h h
took-none h = record { known = refl; must = refl; recorded = refl }

pub took : {A E : Type 0} {x : A} {old new : HouseState} → OnlyTook {A = A} {E = E} (Ok x) old new → JustTook old new
took t = record { known = t.known; must = t.must; recorded = t.recorded }

-- whatever its outcome
pub took-any : {A E : Type 0} {old new : HouseState} (r : Result A E) → JustTook old new → OnlyTook r old new
took-any (Ok x) t = record { known = t.known; must = t.must; recorded = t.recorded }
took-any (Err x) t = record { known = tt; must = t.must; recorded = t.recorded }

pub took-err : {A B E F : Type 0} {e : E} {old new : HouseState} (r : Result B F) → IsErr r → OnlyTook {A = A} {E = E} (Err e) old new → OnlyTook r old new
took-err (Ok x) h t = absurd (let z : false ≡ true = h in cc)
took-err (Err x) h t = record { known = tt; must = t.must; recorded = t.recorded }

pub took-then : {A E : Type 0} {r : Result A E} {a b c : HouseState} → JustTook a b → OnlyTook r b c → OnlyTook r a c
took-then {A} {E} {r} {a} {b} {c} v w = record { known = by_result r w.known; must = w.must ∙ v.must; recorded = w.recorded ∙ v.recorded }
  where
    by_result : (r : Result A E) → OnOk r (c.known ≡ b.known) → OnOk r (c.known ≡ a.known)
    by_result (Ok x) k = k ∙ v.known
    by_result (Err x) k = tt

-- ---- what it and the wire know of its streams

pub owns-on : {house house' : HouseState} {seen seen' : Seen} {held held' : List ℕ} → OwnsStreams house seen held → JustTook house house' → SameSockets seen seen' → held' ≡ seen'.blocked → OwnsStreams house' seen' held'
owns-on o t p h = record {
  ordering = ap (λ (k : Known). k.ordering) t.known ∙ o.ordering;
  same = ap (λ (k : Known). k.streams) t.known ∙ (o.same ∙ sym p.own);
  held_is = h;
}

pub open-on : {house house' : HouseState} {seen seen' : Seen} {t : ℕ} → IsOpenOwn house seen t → JustTook house house' → SameSockets seen seen' → IsOpenOwn house' seen' t
open-on {t = t} o k p = record {
  one = ap (λ (x : Known). is_one t x.streams) k.known ∙ o.one;
  own = o.own;
  stream_open = ap (among t) p.streams ∙ o.stream_open;
}

pub owns-housed : {house : HouseState} {seen : Seen} {own held : List ℕ} → Housed house.known seen own → held ≡ seen.blocked → OwnsStreams house seen held
owns-housed h held_is = record { ordering = h.ordering; same = h.streams; held_is = held_is }

pub open-housed : (house : HouseState) (seen : Seen) (own : List ℕ) → Housed house.known seen own → (t : ℕ) → among t own ≡ true → IsOpenOwn house seen t
open-housed house seen own h t a = record {
  one = own-known house.known seen own h t a;
  own = h.places.numbered t (own-one house.known seen own h t a);
  stream_open = h.places.opened t (own-one house.known seen own h t a);
}

-- ---- what was offered

pub took-less : (queue queue' : ℕ → List ℕ) (held failed : List ℕ) (t : ℕ) (more : Bool) → more ≡ true → TookOrOffered more queue queue' held failed t → length (queue' t) < length (queue t)
took-less queue queue' held failed t true e o = o
took-less queue queue' held failed t false e o = absurd (cc)

pub was-offered : (queue queue' : ℕ → List ℕ) (held failed : List ℕ) (t : ℕ) (more : Bool) → more ≡ false → TookOrOffered more queue queue' held failed t → IsOwnOffered (queue' t) held failed t
was-offered queue queue' held failed t true e o = absurd (cc)
was-offered queue queue' held failed t false e o = o

-- ---- those for which something waits

some-bytes : (b : ℕ) (q : List ℕ) → (length (b ∷ q) == 0) ≡ false
some-bytes b q = ne_eqb (length (b ∷ q)) 0 (λ e. absurd (omega (arith, e)))

empty-same : (q : List ℕ) → not (length q == 0) ≡ not (is_empty q)
empty-same [] = refl
empty-same (b ∷ q) = ap not (some-bytes b q)

-- in the words of the forwarder and of the engine
pub waits-same : (queue : ℕ → List ℕ) (failed own : List ℕ) → filter (has_waiting queue failed) own ≡ filter (waits_for_own queue failed) own
waits-same queue failed [] = refl
waits-same queue failed (t ∷ own) =
    ap (λ (b : Bool). cond (not (among t failed) && b) (t ∷ filter (has_waiting queue failed) own) (filter (has_waiting queue failed) own)) (empty-same (queue t))
    ∙ ap (λ (l : List ℕ). cond (waits_for_own queue failed t) (t ∷ l) l) (waits-same queue failed own)

-- the streams of a forwarder are those whose numbers are kept
pub numbers-own : {known : Known} {seen : Seen} {own : List ℕ} → Housed known seen own → numbers_of known.streams ≡ own
numbers-own h = ap numbers_of h.streams ∙ sym h.own_is

pub own-numbers : {house house' : HouseState} {seen : Seen} {own : List ℕ} → Housed house.known seen own → JustTook house house' → numbers_of house'.known.streams ≡ own
own-numbers h k = ap (λ (x : Known). numbers_of x.streams) k.known ∙ numbers-own h

-- they are some of them
pub waits-own : (queue : ℕ → List ℕ) (failed own todo : List ℕ) → todo ≡ filter (has_waiting queue failed) own → (t : ℕ) → among t todo ≡ true → among t own ≡ true
waits-own queue failed own todo e t a =
    and-second (has_waiting queue failed t) (among t own) (sym (among-filter (has_waiting queue failed) t own) ∙ (sym (ap (among t) e) ∙ a))

-- and the others were offered what waits for them: nothing
pub waits-or : (queue : ℕ → List ℕ) (held failed own todo : List ℕ) → todo ≡ filter (has_waiting queue failed) own → (t : ℕ) → among t own ≡ true
    → (among t todo ≡ true) ⊎ IsOwnOffered (queue t) held failed t
waits-or queue held failed own todo e t a = by (among t failed) (queue t) refl refl
  where
    by : (b : Bool) (q : List ℕ) → among t failed ≡ b → queue t ≡ q → (among t todo ≡ true) ⊎ IsOwnOffered (queue t) held failed t
    by true q is was = inr (inr (inr is))
    by false [] is was = inr (inl was)
    by false (x ∷ q) is was =
        let waits : has_waiting queue failed t ≡ true = ap (λ (b : Bool). not b && not (length (queue t) == 0)) is ∙ (ap (λ (l : List ℕ). not (length l == 0)) was ∙ ap not (some-bytes x q)) in
        inl (ap (among t) e ∙ (among-filter (has_waiting queue failed) t own ∙ (ap (λ (b : Bool). b && among t own) waits ∙ a)))

-- ---- which of them failed

pub fails-none : (todo failed : List ℕ) → FailsFurther todo failed failed
fails-none todo failed = record { grows = le_refl _; fewer = λ own a. le_refl _ }

-- one more, which is offered something
pub fails-one : (k : ℕ) (failed failed' : List ℕ) → failed' ≡ failed ++ k ∷ [] → among k failed ≡ false → FailsFurther (k ∷ []) failed failed'
fails-one k failed failed' e n = record {
  grows = let l : length failed' ≡ length failed + 1 = ap length e ∙ length-append failed (k ∷ []) in omega (arith, l);
  fewer = λ own a. fewer-left k failed failed' own e (a k (ap (λ (b : Bool). b || false) (eq-eqb k k refl))) n;
}

pub fails-then : {todo a b c : List ℕ} → FailsFurther todo a b → FailsFurther todo b c → FailsFurther todo a c
fails-then v w = record { grows = le_trans v.grows w.grows; fewer = λ own a. le_trans (w.fewer own a) (v.fewer own a) }

-- one of more
pub fails-within : {k : ℕ} {todo a b : List ℕ} → among k todo ≡ true → FailsFurther (k ∷ []) a b → FailsFurther todo a b
fails-within {k} {todo} one v = record { grows = v.grows; fewer = λ own a. v.fewer own (λ t is. a t (is_k t is)) }
  where
    or-one : (b : Bool) → (b || false) ≡ true → b ≡ true
    or-one true e = e
    or-one false e = e

    is_k : (t : ℕ) → among t (k ∷ []) ≡ true → among t todo ≡ true
    is_k t is = ap (λ (i : ℕ). among i todo) (sym (eqb-true k t (or-one (k == t) is))) ∙ one
