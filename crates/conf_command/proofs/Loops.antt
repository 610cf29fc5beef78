-- An element of a list, and what follows it.
use Rattle.std.proofs.Common.{◌≡◌, ℕ, suc, ◌+◌, ◌<◌, List, ◌∷◌, length, get_or, drop, sym, ap, add-one, drop-cons}

-- an element, and what follows it
pub split : {A : Type 0} (xs : List A) (i : ℕ) (x : A) → i < length xs → x ≡ get_or xs i x → drop i xs ≡ x ∷ drop (i + 1) xs
split xs i x h e = rw (add-one, drop-cons xs i x h) (ap (λ y. y ∷ drop (suc i) xs) (sym e))
