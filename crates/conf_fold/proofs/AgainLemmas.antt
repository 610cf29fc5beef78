-- A value that is given again changes nothing that is kept, where its key doesn't collect.
use Rattle.std.proofs.Common.{◌≡◌, Bool, true, false, List, [], ◌∷◌, ◌++◌, Some, refl, sym, ap, ◌∙◌}
use Rattle.std.specs.List.{list_any, slice_get}
use Rattle.conf_rules.specs.declared.key.Key.{Key}
use Rattle.conf_rules.specs.declared.value.Value.{Value}
use Rattle.conf_rules.specs.Keys.{same_key}
use Rattle.conf_rules.specs.Kinds.{Keeping, TheFirst, Every, Patterns, Shared, keeping}
use Rattle.conf_rules.specs.Rows.{values_among, first_of_values, is_shared, shared_value, kept_values, is_collected}
use Rattle.conf_options.specs.Kept.{Given, KeepsSettings}
use Rattle.conf_rules.proofs.SameKeys.{same-key}
use Rattle.conf_options.proofs.OfferLemmas.{among-append, kept-other}

-- whether a key has a value
abbrev pub has_key : Key → List Given → Bool
has_key key all = list_any (λ g. same_key key g.0) all

-- ---- the key itself

first-stays : (vs ws : List Value) (v : Value) (more : List Value) → vs ≡ v ∷ more → first_of_values (vs ++ ws) ≡ first_of_values vs
first-stays vs ws v more e = rw e refl

has-among : (key : Key) (all : List Given) → has_key key all ≡ true → (v : Value) × ((more : List Value) × (values_among key all ≡ v ∷ more))
has-among key [] h = absurd cc
has-among key (g ∷ gs) h = on (same_key key g.0) refl (has-among key gs)
  where
    on : (t : Bool) → same_key key g.0 ≡ t → (has_key key gs ≡ true → (v : Value) × ((more : List Value) × (values_among key gs ≡ v ∷ more))) → (v : Value) × ((more : List Value) × (values_among key (g ∷ gs) ≡ v ∷ more))
    on true s later = (g.1, (values_among key gs, rw s refl))
    on false s later = let k : has_key key gs ≡ true = rw s at h in let r = later k in (r.0, (r.1.0, rw s r.1.1))

first-again : (key : Key) (v : Value) (all : List Given) → has_key key all ≡ true → first_of_values (values_among key (all ++ (key, v) ∷ [])) ≡ first_of_values (values_among key all)
first-again key v all h = let r = has-among key all h in ap first_of_values (among-append key all ((key, v) ∷ [])) ∙ first-stays (values_among key all) (values_among key ((key, v) ∷ [])) r.0 r.1.0 r.1.1

-- the shared place is set by the first that sets it
shared-again : (k key : Key) (v : Value) (all : List Given) → is_shared key ≡ true → has_key key all ≡ true → shared_value k (all ++ (key, v) ∷ []) ≡ shared_value k all
shared-again k key v [] s h = absurd cc
shared-again k key v (g ∷ gs) s h = on (is_shared g.0) refl (shared-again k key v gs s)
  where
    apart : (t : Bool) → same_key key g.0 ≡ t → is_shared g.0 ≡ false → has_key key gs ≡ true
    apart true e f = absurd (let same : key ≡ g.0 = same-key key g.0 e in let both : is_shared key ≡ false = ap is_shared same ∙ f in let k : true ≡ false = sym s ∙ both in cc)
    apart false e f = rw e at h

    on : (t : Bool) → is_shared g.0 ≡ t → (has_key key gs ≡ true → shared_value k (gs ++ (key, v) ∷ []) ≡ shared_value k gs) → shared_value k (g ∷ (gs ++ (key, v) ∷ [])) ≡ shared_value k (g ∷ gs)
    on true e later = rw e refl
    on false e later = rw e (later (apart (same_key key g.0) refl e))

kept-same : (how : Keeping) (key : Key) (v : Value) (all : List Given) → keeping key ≡ how → is_collected key ≡ false → has_key key all ≡ true → kept_values how key (all ++ (key, v) ∷ []) ≡ kept_values how key all
kept-same TheFirst key v all e c h = first-again key v all h
kept-same Every key v all e c h = absurd (let k : is_collected key ≡ true = rw (e, is_collected) refl in let b : true ≡ false = sym k ∙ c in cc)
kept-same Patterns key v all e c h = absurd (let k : is_collected key ≡ true = rw (e, is_collected) refl in let b : true ≡ false = sym k ∙ c in cc)
kept-same Shared key v all e c h = shared-again key key v all (rw (e, is_shared) refl) h

kept-again : (k key : Key) (v : Value) (all : List Given) (t : Bool) → same_key k key ≡ t → is_collected key ≡ false → has_key key all ≡ true → kept_values (keeping k) k (all ++ (key, v) ∷ []) ≡ kept_values (keeping k) k all
kept-again k key v all true e c h = let same : k ≡ key = same-key k key e in rw same (kept-same (keeping key) key v all refl c h)
kept-again k key v all false e c h = kept-other (keeping k) k key v all e

-- settings keep what was given after a value that is given again
pub keeps-again : (settings all : List Given) (key : Key) (v : Value) → is_collected key ≡ false → has_key key all ≡ true → KeepsSettings settings all → KeepsSettings settings (all ++ (key, v) ∷ [])
keeps-again settings all key v c h s = record { each = λ k. s.each k ∙ sym (kept-again k key v all (same_key k key) refl c h) }

-- ---- a key whose first value counts

first-front : (key : Key) (all more : List Given) (v : Value) → slice_get (first_of_values (values_among key all)) 0 ≡ Some v → slice_get (first_of_values (values_among key (all ++ more))) 0 ≡ Some v
first-front key all more v e = on (values_among key all) refl e
  where
    on : (vs : List Value) → values_among key all ≡ vs → slice_get (first_of_values vs) 0 ≡ Some v → slice_get (first_of_values (values_among key (all ++ more))) 0 ≡ Some v
    on [] is e = absurd cc
    on (w ∷ ws) is e = rw (among-append key all more, is) e

pub value-front : (how : Keeping) (key : Key) (all more : List Given) (v : Value) → how ≡ TheFirst → slice_get (kept_values how key all) 0 ≡ Some v → slice_get (kept_values how key (all ++ more)) 0 ≡ Some v
value-front TheFirst key all more v e h = first-front key all more v h
value-front how key all more v e h = absurd cc
