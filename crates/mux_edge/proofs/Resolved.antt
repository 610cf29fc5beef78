-- Targets that are resolved one after another.
use Rattle.std.proofs.Common.{◌≡◌, ℕ, zero, suc, ◌≤◌, ◌+◌, Bool, true, false, cond, List, [], ◌∷◌, length, Option, Some, None, IsSomeAnd, nat_eq, slice_get, refl, sym, ap, ◌∙◌, subst, arith}
use Rattle.std.specs.declared.net.ip_addr.IpAddr.{IpAddr}
use Rattle.std.specs.Map.{lookup, values_of}
use Rattle.indexmap.specs.Layout.{set_value_at}
use Rattle.mux_edge.specs.Targets.{IsResolved, ResolvesAt}
use Rattle.mux_edge.specs.declared.targets.Target.{Target}

module _ (name : List ℕ) (addresses : List IpAddr) where
  -- the first so many targets are resolved, and the others are as they were
  abbrev pub SoFar : ℕ → List (ℕ × Target) → List (ℕ × Target) → Type 0
  SoFar i [] new = new ≡ []
  SoFar zero (e ∷ es) new = new ≡ e ∷ es
  SoFar (suc i) (e ∷ es) [] = ⊥
  SoFar (suc i) (e ∷ es) (f ∷ fs) = (f.0 ≡ e.0) × IsResolved name addresses e.1 f.1 × SoFar i es fs

  pub none_so_far : (es : List (ℕ × Target)) → SoFar 0 es es
  none_so_far [] = refl
  none_so_far (e ∷ es) = refl

  first_of : (e : ℕ × Target) (es new : List (ℕ × Target)) (old next : Target) → new ≡ e ∷ es → slice_get (values_of new) 0 ≡ Some old
      → IsResolved name addresses old next → SoFar 1 (e ∷ es) (set_value_at new 0 next)
  first_of e es new old next same at is =
      let there : Some e.1 ≡ Some old = subst (λ (l : List (ℕ × Target)). slice_get (values_of l) 0 ≡ Some old) same at in
      subst (λ (l : List (ℕ × Target)). SoFar 1 (e ∷ es) (set_value_at l 0 next)) (sym same)
      (refl, subst (λ (t : Option Target). IsSomeAnd t (λ x. IsResolved name addresses x next)) (sym there) is, none_so_far es)

  more : (i : ℕ) (old new : List (ℕ × Target)) (was next : Target) → SoFar i old new → slice_get (values_of new) i ≡ Some was
      → IsResolved name addresses was next → SoFar (suc i) old (set_value_at new i next)
  more i [] new was next so at is = rw so refl
  more zero (e ∷ es) new was next so at is = first_of e es new was next so at is
  more (suc i) (e ∷ es) [] was next so at is = absurd so
  more (suc i) (e ∷ es) (f ∷ fs) was next so at is = (so.0, so.1, more i es fs was next so.2 at is)

  missing : (i : ℕ) (old new : List (ℕ × Target)) → SoFar i old new → slice_get (values_of new) i ≡ None → SoFar (suc i) old new
  missing i [] new so at = so
  missing zero (e ∷ es) new so at =
      let no : Some e.1 ≡ None = subst (λ (l : List (ℕ × Target)). slice_get (values_of l) 0 ≡ None) so at in cc
  missing (suc i) (e ∷ es) [] so at = absurd so
  missing (suc i) (e ∷ es) (f ∷ fs) so at = (so.0, so.1, missing i es fs so.2 at)

  pub one_more : (i : ℕ) (old new : List (ℕ × Target)) (was next : Target) → SoFar i old new → slice_get (values_of new) i ≡ Some was
      → IsResolved name addresses was next → SoFar (i + 1) old (set_value_at new i next)
  one_more i old new was next so at is =
      let k : suc i ≡ i + 1 = omega arith in subst (λ n. SoFar n old (set_value_at new i next)) k (more i old new was next so at is)

  pub none_there : (i : ℕ) (old new : List (ℕ × Target)) → SoFar i old new → slice_get (values_of new) i ≡ None → SoFar (i + 1) old new
  none_there i old new so at =
      let k : suc i ≡ i + 1 = omega arith in subst (λ n. SoFar n old new) k (missing i old new so at)

  at_first : (t : Bool) (e f : Target) (old new : Option Target) → IsResolved name addresses e f → ResolvesAt name addresses old new
      → ResolvesAt name addresses (cond t (Some e) old) (cond t (Some f) new)
  at_first true e f old new is rest = is
  at_first false e f old new is rest = rest

  pub all_resolved : (i n : ℕ) (old new : List (ℕ × Target)) → length old ≤ i → SoFar i old new → ResolvesAt name addresses (lookup (nat_eq n) old) (lookup (nat_eq n) new)
  all_resolved i n [] new len so = rw so refl
  all_resolved zero n (e ∷ es) new len so = let no : ⊥ = omega arith in absurd no
  all_resolved (suc i) n (e ∷ es) [] len so = absurd so
  all_resolved (suc i) n (e ∷ es) (f ∷ fs) len so =
      subst (λ k. ResolvesAt name addresses (cond (nat_eq n e.0) (Some e.1) (lookup (nat_eq n) es)) (cond (nat_eq n k) (Some f.1) (lookup (nat_eq n) fs))) (sym so.0)
      (at_first (nat_eq n e.0) e.1 f.1 (lookup (nat_eq n) es) (lookup (nat_eq n) fs) so.1 (all_resolved i n es fs (omega arith) so.2))
