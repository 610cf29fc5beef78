-- The own faults that are counted for orders that make nothing.
use Rattle.std.proofs.Common.{◌≡◌, ◌≤◌, ◌||◌, ℕ, Bool, true, false, List, Option, inl, refl, sym, ap, subst, arith}
use Rattle.mux_outside.specs.declared.mark.Mark.{Mark}
use Rattle.mux_engine.specs.OwnFaults.{OwnCounted, unmade_in}

-- where nothing was recorded and nothing counted
pub still-own : (recorded : Option (List Mark)) (faults : ℕ) → OwnCounted recorded recorded faults faults
still-own recorded faults = record { later = omega arith; counted = inl (omega (arith)) }

pub kept-own : (old new : Option (List Mark)) (faults faults' : ℕ) → new ≡ old → faults' ≡ faults → OwnCounted old new faults faults'
kept-own old new faults faults' e f = subst (λ (r : Option (List Mark)). OwnCounted old r faults faults') (sym e) (subst (λ (n : ℕ). OwnCounted old old faults n) (sym f) (still-own old faults))

-- from where nothing was recorded and nothing counted
pub from-own : (old mid new : Option (List Mark)) (m n o : ℕ) → mid ≡ old → n ≡ m → OwnCounted mid new n o → OwnCounted old new m o
from-own old mid new m n o e f h = subst (λ (r : Option (List Mark)). OwnCounted r new m o) e (subst (λ (i : ℕ). OwnCounted mid new i o) f h)

-- neither of them
pub neither : (a b : Bool) → a ≡ false → b ≡ false → (a || b) ≡ false
neither true b e f = e
neither false b e f = f
