-- A kept port is a port.
use Rattle.std.proofs.Common.{◌≡◌, ℕ, ◌≤◌, Bool, true, false, cond, not, ◌&&◌, List, [], ◌∷◌, Some, refl, sym, ap, ◌∙◌}
use Rattle.std.specs.Prelude.{nat_le}
use Rattle.std.specs.List.{list_all, slice_get}
use Rattle.std.proofs.lemmas.Bool.{leb-true}
use Rattle.conf_rules.specs.declared.key.Key.TheVariants.{Port}
use Rattle.conf_rules.specs.declared.value.Value.TheVariants.{Number}
use Rattle.conf_rules.specs.Keys.{same_key}
use Rattle.conf_rules.specs.Rows.{values_among}
use Rattle.conf_rules.specs.Fits.{fits, fits_its_key}
use Rattle.conf_rules.specs.Kinds.{keeps_every}
use Rattle.conf_options.specs.Kept.{Given, fits_single}
use Rattle.conf_rules.proofs.SameKeys.{same-key}

both : (a b : Bool) → (a && b) ≡ true → (a ≡ true) × (b ≡ true)
both true b e = (refl, e)
both false b e = absurd cc

in-range : (n : ℕ) → fits Port (Number n) ≡ true → n ≤ 65535
unfolding fits
in-range n e = leb-true n 65535 (both (nat_le 1 n) (nat_le n 65535) e).1

pub port-fits : (all : List Given) (n : ℕ) → list_all fits_single all ≡ true → slice_get (values_among Port all) 0 ≡ Some (Number n) → n ≤ 65535
port-fits [] n h e = absurd cc
port-fits (g ∷ gs) n h e = on (same_key Port g.0) refl (port-fits gs n (both (fits_single g) (list_all fits_single gs) h).1) e
  where
    on : (t : Bool) → same_key Port g.0 ≡ t → (slice_get (values_among Port gs) 0 ≡ Some (Number n) → n ≤ 65535) → slice_get (cond t (g.1 ∷ values_among Port gs) (values_among Port gs)) 0 ≡ Some (Number n) → n ≤ 65535
    on true s later e =
        let key : Port ≡ g.0 = same-key Port g.0 s in
        let value : g.1 ≡ Number n = cc in
        in-range n (ap (λ k. fits k (Number n)) key ∙ (ap (fits g.0) (sym value) ∙ (both (not (keeps_every g.0)) (fits_its_key g) (both (fits_single g) (list_all fits_single gs) h).0).1))
    on false s later e = later e
