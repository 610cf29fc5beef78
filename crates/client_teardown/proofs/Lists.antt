-- An element of a list by its place, and what is after it.
use Rattle.std.proofs.Common.{◌≡◌, ℕ, zero, suc, List, [], ◌∷◌, drop, refl, ap, sym}
use Rattle.std.specs.Prelude.{Some, None, slice_get}
use Rattle.std.proofs.lemmas.Option.{none-some, same_Some}

pub drop-some : {X : Type 0} (xs : List X) (i : ℕ) (x : X) → slice_get xs i ≡ Some x → drop i xs ≡ x ∷ drop (suc i) xs
drop-some [] zero x h = absurd (none-some x h)
drop-some [] (suc i) x h = absurd (none-some x h)
drop-some (y ∷ ys) zero x h = ap (λ z. z ∷ ys) (same_Some y x h)
drop-some (y ∷ ys) (suc i) x h = drop-some ys i x h

pub drop-none : {X : Type 0} (xs : List X) (i : ℕ) → slice_get xs i ≡ None → drop i xs ≡ []
drop-none [] zero h = refl
drop-none [] (suc i) h = refl
drop-none (y ∷ ys) zero h = absurd (none-some y (sym h))
drop-none (y ∷ ys) (suc i) h = drop-none ys i h
