-- What a forwarder represents, one call after another.
use Rattle.std.proofs.Common.{◌≡◌, List, [], ◌∷◌, ◌++◌, refl, sym, ap, ◌∙◌, subst, append_assoc, append-nil}
use Rattle.mux_outside.specs.HouseCalls.{HandsOn, HouseCall, call_of, calls_of}
use Rattle.mux_outside.specs.declared.house_mark.HouseMark.{HouseMark}

pub calls-append : (a b : List HouseMark) → calls_of (a ++ b) ≡ calls_of a ++ calls_of b
calls-append [] b = refl
calls-append (mark ∷ a) b = ap (λ (l : List HouseCall). call_of mark ++ l) (calls-append a b) ∙ sym (append_assoc (call_of mark) (calls_of a) (calls_of b))

-- it was handed nothing
pub hands-none : (stands : List HouseCall → Type 0) → HandsOn stands stands []
hands-none stands calls h = subst stands (sym (append-nil calls)) h

-- first these, then those
pub hands-then : (stands mid now : List HouseCall → Type 0) (a b : List HouseCall) → HandsOn stands mid a → HandsOn mid now b → HandsOn stands now (a ++ b)
hands-then stands mid now a b first then calls h = subst now (append_assoc calls a b) (then (calls ++ a) (first calls h))
