-- Tests: of a disjunction, and whether numbers are the same.
use Rattle.std.proofs.Common.{◌≡◌, ℕ, true, false, Bool, arith, refl}
use Rattle.std.specs.Prelude.{◌==◌, ◌||◌}
use Rattle.std.proofs.lemmas.Bool.Decides.{nat_tests}

-- what is known of a disjunction that is false
pub or-left : (a b : Bool) → (a || b) ≡ false → a ≡ false
or-left true b e = cc
or-left false b e = refl

pub or-right : (a b : Bool) → (a || b) ≡ false → b ≡ false
or-right true b e = cc
or-right false b e = e

-- and of one whose second part is true
pub or-yes : (a b : Bool) → b ≡ true → (a || b) ≡ true
or-yes true b e = refl
or-yes false b e = e

-- numbers that pass the test are the same, and the same numbers pass it
pub same-number : (a b : ℕ) → (a == b) ≡ true → a ≡ b
same-number a b e = grind (arith, nat_tests)

pub is-of : (a k : ℕ) → a ≡ k → (a == k) ≡ true
is-of a k e = grind (arith, nat_tests)

pub self : (k : ℕ) → (k == k) ≡ true
self k = grind (arith, nat_tests)
