-- The default of a key stands only where the key isn't set.
use Rattle.std.proofs.Common.{◌≡◌, List, [], ◌∷◌, Option, None, refl}
use Rattle.std.specs.List.{slice_get}
use Rattle.conf_rules.specs.declared.value.Value.{Value}
use Rattle.conf_rules.specs.Listing.{with_default}

-- a key that isn't set has its default's lines alone
pub unset-values : (d : Option Value) (vs : List Value) → None ≡ slice_get vs 0 → with_default d vs ≡ with_default d []
unset-values d [] e = refl
unset-values d (v ∷ vs) e = absurd cc
