-- What a list's filter and the first that passes are, by the test of its head.
use Rattle.std.proofs.Common.{◌≡◌, List, [], ◌∷◌, true, false, Bool, refl, Some}
use Rattle.std.specs.Prelude.{filter, find}
use Rattle.mux_history.specs.Channels.{Channel}

pub filter-yes : {X : Type 0} (test : X → Bool) (x : X) (xs : List X) → test x ≡ true → filter test (x ∷ xs) ≡ x ∷ filter test xs
filter-yes test x xs h = rw h refl

pub filter-no : {X : Type 0} (test : X → Bool) (x : X) (xs : List X) → test x ≡ false → filter test (x ∷ xs) ≡ filter test xs
filter-no test x xs h = rw h refl

pub find-yes : {X : Type 0} (test : X → Bool) (x : X) (xs : List X) → test x ≡ true → find test (x ∷ xs) ≡ Some x
find-yes test x xs h = rw h refl

pub find-no : {X : Type 0} (test : X → Bool) (x : X) (xs : List X) → test x ≡ false → find test (x ∷ xs) ≡ find test xs
find-no test x xs h = rw h refl

-- each channel
abbrev pub Each : (Channel → Type 0) → List Channel → Type 0
Each P [] = Unit {0}
Each P (x ∷ xs) = P x × Each P xs
