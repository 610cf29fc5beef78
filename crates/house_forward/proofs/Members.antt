-- What is in a list, as that changes.
use Rattle.std.proofs.Common.{◌≡◌, ◌∙◌, refl, sym, ap, subst, arith, ℕ, zero, suc, ◌<◌, Bool, true, false, List, [], ◌∷◌, ◌++◌, length, get_or, set, map, filter, Option, Some, inl, inr}
use Rattle.std.specs.Prelude.{◌⊎◌, find, if◌then◌else◌}
use Rattle.std.specs.List.{All, Contains, remove}
use Rattle.std.proofs.lemmas.Bool.{both_ways}
use Rattle.std.proofs.lemmas.List.Elements.{All-nil, All-cons, All-head, All-tail}

abbrev pub In : {X : Type 0} → X → List X → Type 0
In x [] = ⊥
In x (y ∷ ys) = (y ≡ x) ⊎ In x ys

module _ {X : Type 0} where
  pub in-left : (x : X) (a b : List X) → In x a → In x (a ++ b)
  in-left x [] b h = absurd h
  in-left x (y ∷ a) b (inl e) = inl e
  in-left x (y ∷ a) b (inr h) = inr (in-left x a b h)

  pub in-last : (x : X) (a : List X) → In x (a ++ x ∷ [])
  in-last x [] = inl refl
  in-last x (y ∷ a) = inr (in-last x a)

  pub in-map : {Y : Type 0} (f : X → Y) (x : X) (xs : List X) → In x xs → In (f x) (map f xs)
  in-map f x [] h = absurd h
  in-map f x (y ∷ xs) (inl e) = inl (ap f e)
  in-map f x (y ∷ xs) (inr h) = inr (in-map f x xs h)

  kept : (b : Bool) (x y : X) (xs : List X) → In x xs → In x (if b then y ∷ xs else xs)
  kept true x y xs h = inr h
  kept false x y xs h = h

  pub in-filter : (p : X → Bool) (x : X) (xs : List X) → p x ≡ true → In x xs → In x (filter p xs)
  in-filter p x [] e h = absurd h
  in-filter p x (y ∷ xs) e (inl is) = rw (ap p is ∙ e) (inl is)
  in-filter p x (y ∷ xs) e (inr h) = kept (p y) x y (filter p xs) (in-filter p x xs e h)

  -- one that isn't removed stays
  pub in-remove : (q : X → Bool) (x : X) (xs : List X) (i : ℕ) (d : X) → i < length xs → q (get_or xs i d) ≡ true → q x ≡ false
      → In x xs → In x (remove xs i)
  in-remove q x [] i d l is isnt h = absurd h
  in-remove q x (y ∷ xs) zero d l is isnt (inl e) = absurd (both_ways (q x) isnt (subst (λ z. q z ≡ true) e is))
  in-remove q x (y ∷ xs) zero d l is isnt (inr h) = h
  in-remove q x (y ∷ xs) (suc i) d l is isnt (inl e) = inl e
  in-remove q x (y ∷ xs) (suc i) d l is isnt (inr h) = inr (in-remove q x xs i d (omega arith) is isnt h)

  -- one stays where another gets a place, or it was there
  pub in-set : (x : X) (xs : List X) (i : ℕ) (y d : X) → i < length xs → In x xs → In x (set xs i y) ⊎ (x ≡ get_or xs i d)
  in-set x [] i y d l h = absurd h
  in-set x (z ∷ xs) zero y d l (inl e) = inr (sym e)
  in-set x (z ∷ xs) zero y d l (inr h) = inl (inr h)
  in-set x (z ∷ xs) (suc i) y d l (inl e) = inl (inl e)
  in-set x (z ∷ xs) (suc i) y d l (inr h) = elim (in-set x xs i y d (omega arith) h) [
    | inl in_it ↦ inl (inr in_it)
    | inr at ↦ inr at
  ]

  pub in-set_new : (xs : List X) (i : ℕ) (y : X) → i < length xs → In y (set xs i y)
  in-set_new [] i y l = absurd (omega arith)
  in-set_new (z ∷ xs) zero y l = inl refl
  in-set_new (z ∷ xs) (suc i) y l = inr (in-set_new xs i y (omega arith))

  pub in-all : (P : X → Type 0) (x : X) (xs : List X) → All P xs → In x xs → P x
  in-all P x [] all h = absurd h
  in-all P x (y ∷ xs) all (inl e) = subst P e (All-head P y xs all)
  in-all P x (y ∷ xs) all (inr h) = in-all P x xs (All-tail P y xs all) h

  pub in-get : (xs : List X) (i : ℕ) (d : X) → i < length xs → In (get_or xs i d) xs
  in-get [] i d l = absurd (omega arith)
  in-get (y ∷ xs) zero d l = inl refl
  in-get (y ∷ xs) (suc i) d l = inr (in-get xs i d (omega arith))

  pub in-contains : (x : X) (xs : List X) → In x xs → Contains xs x
  in-contains x [] h = absurd h
  in-contains x (y ∷ xs) (inl e) = (0, omega arith, e)
  in-contains x (y ∷ xs) (inr h) = let at = in-contains x xs h in let l = at.1 in (suc at.0, omega (arith, l), at.2)

  found-in-if : (p : X → Bool) (x y : X) (xs : List X) (b : Bool) (o : Option X) → (if b then Some y else o) ≡ Some x
      → (o ≡ Some x → In x xs) → In x (y ∷ xs)
  found-in-if p x y xs true o e rest = inl (let same : y ≡ x = cc in same)
  found-in-if p x y xs false o e rest = inr (rest e)

  pub found-in : (p : X → Bool) (x : X) (xs : List X) → find p xs ≡ Some x → In x xs
  found-in p x [] e = cc
  found-in p x (y ∷ xs) e = found-in-if p x y xs (p y) (find p xs) e (found-in p x xs)

  -- ---- what is in a list that changed was in it, or is new

  pub out-map : {Y : Type 0} (f : X → Y) (y : Y) (xs : List X) → In y (map f xs) → (x : X) × In x xs × (f x ≡ y)
  out-map f y [] h = absurd h
  out-map f y (x ∷ xs) (inl e) = (x, inl refl, e)
  out-map f y (x ∷ xs) (inr h) = let at = out-map f y xs h in (at.0, inr at.1, at.2)

  out-if : (p : X → Bool) (x y : X) (xs : List X) (b : Bool) → p y ≡ b → In x (if b then y ∷ xs else xs)
      → ((y ≡ x) × (p y ≡ true)) ⊎ In x xs
  out-if p x y xs true e (inl is) = inl (is, e)
  out-if p x y xs true e (inr h) = inr h
  out-if p x y xs false e h = inr h

  pub out-filter : (p : X → Bool) (x : X) (xs : List X) → In x (filter p xs) → In x xs × (p x ≡ true)
  out-filter p x [] h = absurd h
  out-filter p x (y ∷ xs) h = elim (out-if p x y (filter p xs) (p y) refl h) [
    | inl is ↦ (inl is.0, ap p (sym is.0) ∙ is.1)
    | inr later ↦ (let rest = out-filter p x xs later in (inr rest.0, rest.1))
  ]

  pub out-remove : (x : X) (xs : List X) (i : ℕ) → In x (remove xs i) → In x xs
  out-remove x [] zero h = absurd h
  out-remove x [] (suc i) h = absurd h
  out-remove x (y ∷ xs) zero h = inr h
  out-remove x (y ∷ xs) (suc i) (inl e) = inl e
  out-remove x (y ∷ xs) (suc i) (inr h) = inr (out-remove x xs i h)

  pub out-set : (x : X) (xs : List X) (i : ℕ) (y : X) → In x (set xs i y) → In x xs ⊎ (y ≡ x)
  out-set x [] i y h = absurd h
  out-set x (z ∷ xs) zero y (inl e) = inr e
  out-set x (z ∷ xs) zero y (inr h) = inl (inr h)
  out-set x (z ∷ xs) (suc i) y (inl e) = inl (inl e)
  out-set x (z ∷ xs) (suc i) y (inr h) = elim (out-set x xs i y h) [
    | inl in_it ↦ inl (inr in_it)
    | inr is ↦ inr is
  ]

  pub out-last : (x y : X) (a : List X) → In x (a ++ y ∷ []) → In x a ⊎ (y ≡ x)
  out-last x y [] (inl e) = inr e
  out-last x y [] (inr h) = absurd h
  out-last x y (z ∷ a) (inl e) = inl (inl e)
  out-last x y (z ∷ a) (inr h) = elim (out-last x y a h) [
    | inl in_it ↦ inl (inr in_it)
    | inr is ↦ inr is
  ]

  pub all-in : (P : X → Type 0) (xs : List X) → ((x : X) → In x xs → P x) → All P xs
  all-in P [] f = All-nil P
  all-in P (x ∷ xs) f = All-cons P x xs (f x (inl refl)) (all-in P xs (λ y h. f y (inr h)))

  pub set-set : (xs : List X) (i : ℕ) (a b : X) → set (set xs i a) i b ≡ set xs i b
  set-set [] i a b = refl
  set-set (x ∷ xs) zero a b = refl
  set-set (x ∷ xs) (suc i) a b = ap (λ ys. x ∷ ys) (set-set xs i a b)

  pub remove-set : (xs : List X) (i : ℕ) (a : X) → remove (set xs i a) i ≡ remove xs i
  remove-set [] i a = refl
  remove-set (x ∷ xs) zero a = refl
  remove-set (x ∷ xs) (suc i) a = ap (λ ys. x ∷ ys) (remove-set xs i a)
