-- How many streams are the master's own, after one is added or closed.
use Rattle.std.proofs.Common.{◌≡◌, ◌≤◌, ◌<◌, ◌+◌, ◌∙◌, ℕ, Bool, true, false, cond, List, [], ◌∷◌, Option, None, Some, nat_eq, length, filter, position, swap_remove, refl, sym, ap, arith}
use Rattle.std.specs.List.{sum_by}
use Rattle.std.specs.Map.{keys_of}
use Rattle.std.proofs.lemmas.List.{length-map}
use Rattle.std.proofs.lemmas.List.Sums.{sum_by-cons, sum_by-swap_remove}
use Rattle.std.proofs.lemmas.List.Quantifiers.{position-Some}
use Rattle.indexmap.specs.IndexMap.{insert_entry, swap_remove_entry}
use Rattle.indexmap.proofs.MapLemmas.{swap_remove_entry-found, swap_remove_entry-missing}
use Rattle.mux_outside.specs.OwnStreams.{is_own}

abbrev weight : {X : Type 0} → ℕ × X → ℕ
weight e = cond (is_own e.0) 1 0

abbrev own : {X : Type 0} → List (ℕ × X) → ℕ
own es = length (filter is_own (keys_of es))

one_more : (b : Bool) (k : ℕ) (ks : List ℕ) → length (cond b (k ∷ ks) ks) ≡ cond b 1 0 + length ks
one_more true k ks = omega arith
one_more false k ks = omega arith

more : (b : Bool) (most before after : ℕ) → after ≤ cond b 1 0 + before → (b ≡ true → before < most) → before ≤ most → after ≤ most
more true most before after one place few = omega (arith, one, place refl)
more false most before after one place few = omega (arith, one, few)

module _ {X : Type 0} where
  own_cons : (e : ℕ × X) (es : List (ℕ × X)) → own (e ∷ es) ≡ cond (is_own e.0) 1 0 + own es
  own_cons e es = one_more (is_own e.0) e.0 (filter is_own (keys_of es))

  own_is_sum : (es : List (ℕ × X)) → own es ≡ sum_by (weight {X = X}) es
  own_is_sum [] = refl
  own_is_sum (e ∷ es) = own_cons e es ∙ ap (λ n. cond (is_own e.0) 1 0 + n) (own_is_sum es) ∙ sym (sum_by-cons (weight {X = X}) e es)

  inserted : (k : ℕ) (v : X) (e : ℕ × X) (es : List (ℕ × X)) → own (insert_entry nat_eq es k v) ≤ cond (is_own k) 1 0 + own es
      → (b : Bool) → own (cond b ((e.0, v) ∷ es) (e ∷ insert_entry nat_eq es k v)) ≤ cond (is_own k) 1 0 + own (e ∷ es)
  inserted k v e es rest true = omega (arith, own_cons (e.0, v) es, own_cons e es)
  inserted k v e es rest false = omega (arith, own_cons e (insert_entry nat_eq es k v), own_cons e es, rest)

  own_after_insert : (k : ℕ) (v : X) (es : List (ℕ × X)) → own (insert_entry nat_eq es k v) ≤ cond (is_own k) 1 0 + own es
  own_after_insert k v [] = omega (arith, own_cons (k, v) [])
  own_after_insert k v (e ∷ es) = inserted k v e es (own_after_insert k v es) (nat_eq k e.0)

  own_after_remove : (t : ℕ → Bool) (es : List (ℕ × X)) (r : Option ℕ) → position t (keys_of es) ≡ r → own (swap_remove_entry t es) ≤ own es
  own_after_remove t [] r is = omega arith
  own_after_remove t (e ∷ es) None missing =
      let same : own (swap_remove_entry t (e ∷ es)) ≡ own (e ∷ es) = ap own (swap_remove_entry-missing t (e ∷ es) missing) in
      omega (arith, same)
  own_after_remove t (e ∷ es) (Some i) found =
      let within : i < length (e ∷ es) = omega (arith, (position-Some t (keys_of (e ∷ es)) i 0 found).0, length-map (e ∷ es) (λ (p : ℕ × X). p.0)) in
      let same : own (swap_remove_entry t (e ∷ es)) ≡ sum_by (weight {X = X}) (swap_remove (e ∷ es) i e) =
      own_is_sum (swap_remove_entry t (e ∷ es)) ∙ ap (sum_by (weight {X = X})) (swap_remove_entry-found t (e ∷ es) i e found) in
      omega (arith, same, own_is_sum (e ∷ es), sum_by-swap_remove (weight {X = X}) (e ∷ es) i e within)

  -- one that has a place is added within the limit
  pub few_after_insert : (most k : ℕ) (v : X) (old new : List (ℕ × X)) → new ≡ insert_entry nat_eq old k v → (is_own k ≡ true → own old < most) → own old ≤ most → own new ≤ most
  few_after_insert most k v old new added place few =
      let same : own new ≡ own (insert_entry nat_eq old k v) = ap own added in
      more (is_own k) most (own old) (own new) (omega (arith, same, own_after_insert k v old)) place few

  -- one that is closed isn't one more
  pub few_after_remove : (most : ℕ) (t : ℕ → Bool) (old new : List (ℕ × X)) → new ≡ swap_remove_entry t old → own old ≤ most → own new ≤ most
  few_after_remove most t old new removed few =
      let same : own new ≡ own (swap_remove_entry t old) = ap own removed in
      omega (arith, same, own_after_remove t old (position t (keys_of old)) refl, few)

-- at most as many as may be are so by the limit that stayed
pub few_at : (most limit count : ℕ) → limit ≡ most → count ≤ most → count ≤ limit
few_at most limit count same few = omega (arith, same, few)
