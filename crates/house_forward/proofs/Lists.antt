-- Lists that change at one place, and the first place that passes a test.
use Rattle.std.proofs.Common.{◌≡◌, refl, ap, ℕ, zero, suc, ◌<◌, ◌≤◌, Bool, true, false, cond, List, [], ◌∷◌, length, get_or, set, map, Option, Some, None, arith, inl, inr}
use Rattle.std.specs.Prelude.{◌||◌}
use Rattle.std.specs.List.{list_any, filter_map, cons_option, position, position_or_len, remove, find}
use Rattle.std.proofs.lemmas.Bool.{ltb-false, or_left, or_right, both_ways, cases_Bool}
use Rattle.std.proofs.lemmas.List.Folds.{Any-from_list_any}
use Rattle.std.proofs.lemmas.List.Sums.{fails_before_first}

-- a test of what a list is mapped to
pub any-map : {X Y : Type 0} (p : Y → Bool) (f : X → Y) (xs : List X)
    → list_any p (map f xs) ≡ list_any (λ x. p (f x)) xs
any-map p f [] = refl
any-map p f (x ∷ xs) = ap (λ b. p (f x) || b) (any-map p f xs)

-- what is kept is the same where the element at a place gives the same
pub kept-set : {X Y : Type 0} (h : X → Option Y) (xs : List X) (i : ℕ) (y d : X) → i < length xs
    → h y ≡ h (get_or xs i d) → filter_map h (set xs i y) ≡ filter_map h xs
kept-set h [] i y d l e = absurd (omega arith)
kept-set h (x ∷ xs) zero y d l e = ap (λ o. cons_option o (filter_map h xs)) e
kept-set h (x ∷ xs) (suc i) y d l e =
    ap (λ ys. cons_option (h x) ys) (kept-set h xs i y d (omega arith) e)

-- and where one that gives nothing is removed
pub kept-remove : {X Y : Type 0} (h : X → Option Y) (xs : List X) (i : ℕ) (d : X) → i < length xs
    → h (get_or xs i d) ≡ None → filter_map h (remove xs i) ≡ filter_map h xs
kept-remove h [] i d l e = absurd (omega arith)
kept-remove h (x ∷ xs) zero d l e = rw e refl
kept-remove h (x ∷ xs) (suc i) d l e =
    ap (λ ys. cons_option (h x) ys) (kept-remove h xs i d (omega arith) e)

-- where none passes at first, none passes
none-in : (b : Bool) (n : ℕ) → cond b (Some n) None ≡ None → b ≡ false
none-in true n e = cc
none-in false n e = refl

pub none-passes : {X : Type 0} (p : X → Bool) (xs : List X) → position p xs ≡ None → list_any p xs ≡ false
none-passes p xs e =
    let past : length xs ≤ position_or_len p xs =
    ltb-false (position_or_len p xs) (length xs) (none-in _ (position_or_len p xs) e) in
    elim (cases_Bool (list_any p xs)) [
      | inl has ↦ (let at = Any-from_list_any p xs has in
          absurd (both_ways (p (get_or xs at.0 at.1)) (fails_before_first p xs at.0 at.1 (omega (arith, at.2, past)))
          (rw at.3 at.4)))
      | inr lacks ↦ lacks
    ]

-- where one passes at a place, one passes
pub one-passes : {X : Type 0} (p : X → Bool) (xs : List X) (i : ℕ) (d : X) → i < length xs
    → p (get_or xs i d) ≡ true → list_any p xs ≡ true
one-passes p [] i d l e = absurd (omega arith)
one-passes p (x ∷ xs) zero d l e = or_left (p x) (list_any p xs) e
one-passes p (x ∷ xs) (suc i) d l e = or_right (p x) (list_any p xs) (one-passes p xs i d (omega arith) e)

-- the first that passes is at the first place
pub found-first : {X : Type 0} (p : X → Bool) (xs : List X) (i : ℕ) (d : X) → i < length xs
    → p (get_or xs i d) ≡ true → ((k : ℕ) → k < i → p (get_or xs k d) ≡ false)
    → find p xs ≡ Some (get_or xs i d)
found-first p [] i d l e b = absurd (omega arith)
found-first p (x ∷ xs) zero d l e b = rw e refl
found-first p (x ∷ xs) (suc i) d l e b =
    rw (b 0 (omega arith)) (found-first p xs i d (omega arith) e (λ k lt. b (suc k) (omega arith)))

-- where none passes none is found
not-found : {X : Type 0} (b c : Bool) (x : X) (o : Option X) → (b || c) ≡ false → (c ≡ false → o ≡ None)
    → cond b (Some x) o ≡ None
not-found true c x o e f = cc
not-found false c x o e f = f e

pub none-found : {X : Type 0} (p : X → Bool) (xs : List X) → list_any p xs ≡ false → find p xs ≡ None
none-found p [] e = refl
none-found p (x ∷ xs) e = not-found (p x) (list_any p xs) x (find p xs) e (none-found p xs)
