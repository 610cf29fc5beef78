-- A search for what is sent next.
use Rattle.std.proofs.Common.{◌≡◌, ◌∙◌, sym, ap, ℕ, zero, suc, ◌+◌, Bool, true, false, List, [], ◌∷◌, drop, map, Some, add-one}
use Rattle.std.specs.Prelude.{◌||◌, slice_get}
use Rattle.std.specs.List.{list_any}

-- from a place on, one does where that at the place does, or one after it
pub any-at : {X Y : Type 0} (p : Y → Bool) (f : X → Y) (xs : List X) (i : ℕ) (x : X) → slice_get xs i ≡ Some x
    → list_any p (drop i (map f xs)) ≡ (p (f x) || list_any p (drop (suc i) (map f xs)))
any-at p f [] i x e = cc
any-at p f (y ∷ ys) zero x e = let same : y ≡ x = cc in ap (λ z. p (f z) || list_any p (map f ys)) same
any-at p f (y ∷ ys) (suc i) x e = any-at p f ys i x e

-- one does there
pub found-at : {X Y : Type 0} (p : Y → Bool) (f : X → Y) (xs : List X) (i : ℕ) (x : X) → slice_get xs i ≡ Some x
    → p (f x) ≡ true → list_any p (drop i (map f xs)) ≡ list_any p (map f xs) → true ≡ list_any p (map f xs)
found-at p f xs i x at is all =
    sym (sym all ∙ any-at p f xs i x at ∙ ap (λ b. b || list_any p (drop (suc i) (map f xs))) is)

-- none does there
pub missed-at : {X Y : Type 0} (p : Y → Bool) (f : X → Y) (xs : List X) (i : ℕ) (x : X) → slice_get xs i ≡ Some x
    → p (f x) ≡ false → list_any p (drop i (map f xs)) ≡ list_any p (map f xs)
    → list_any p (drop (i + 1) (map f xs)) ≡ list_any p (map f xs)
missed-at p f xs i x at is all =
    rw add-one (sym (any-at p f xs i x at ∙ ap (λ b. b || list_any p (drop (suc i) (map f xs))) is) ∙ all)
