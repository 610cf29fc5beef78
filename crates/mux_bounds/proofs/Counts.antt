-- How many forwardings are not over, where forwardings change.
use Rattle.std.proofs.Common.{◌≡◌, ℕ, ◌+◌, ◌≤◌, List, [], ◌∷◌, ◌++◌, map, length, true, false, Bool, refl, ap, arith}
use Rattle.std.specs.Prelude.{◌==◌, filter, not}
use Rattle.mux_history.specs.Forwardings.{Forwarding, change_first, dropped, of_client, stopped}
use Rattle.mux_history.specs.Rows.{Row, loses}
use Rattle.mux_history.proofs.Finds.{filter-no, filter-yes}

abbrev pub is_on : Forwarding → Bool
is_on f = not f.over

abbrev pub count : List Forwarding → ℕ
count fs = length (filter is_on fs)

-- a change that brings none back
abbrev pub EndsOnly : (Forwarding → Forwarding) → Type 0
EndsOnly change = (f : Forwarding) → f.over ≡ true → (change f).over ≡ true

count-on : (f : Forwarding) (fs : List Forwarding) → count (f ∷ fs) ≤ count fs + 1
count-on f fs = by_case (is_on f) refl
  where
    by_case : (b : Bool) → is_on f ≡ b → count (f ∷ fs) ≤ count fs + 1
    by_case true e = let l = ap length (filter-yes is_on f fs e) in omega arith
    by_case false e = let l = ap length (filter-no is_on f fs e) in omega arith

count-over : (f : Forwarding) (fs : List Forwarding) → f.over ≡ true → count (f ∷ fs) ≡ count fs
count-over f fs over = ap length (filter-no is_on f fs (ap not over))

count-live : (f : Forwarding) (fs : List Forwarding) → f.over ≡ false → count (f ∷ fs) ≡ count fs + 1
count-live f fs over = let l = ap length (filter-yes is_on f fs (ap not over)) in omega arith

-- one that is changed, before those that are no more
count-changed : (change : Forwarding → Forwarding) → EndsOnly change → (f : Forwarding) (gs fs : List Forwarding) → count gs ≤ count fs → count (change f ∷ gs) ≤ count (f ∷ fs)
count-changed change ends f gs fs le = by_case f.over refl
  where
    by_case : (b : Bool) → f.over ≡ b → count (change f ∷ gs) ≤ count (f ∷ fs)
    by_case true over = let a = count-over (change f) gs (ends f over) in let b = count-over f fs over in omega (arith, le)
    by_case false over = let a = count-on (change f) gs in let b = count-live f fs over in omega (arith, le)

pub count-map : (change : Forwarding → Forwarding) → EndsOnly change → (fs : List Forwarding) → count (map change fs) ≤ count fs
count-map change ends [] = omega arith
count-map change ends (f ∷ fs) = count-changed change ends f (map change fs) fs (count-map change ends fs)

count-same : (f : Forwarding) (gs fs : List Forwarding) → count gs ≤ count fs → count (f ∷ gs) ≤ count (f ∷ fs)
count-same f gs fs le = count-changed (λ g. g) (λ g over. over) f gs fs le

pub count-first : (test : Forwarding → Bool) (change : Forwarding → Forwarding) → EndsOnly change → (fs : List Forwarding) → count (change_first test change fs) ≤ count fs
count-first test change ends [] = omega arith
count-first test change ends (f ∷ fs) = by_case (test f) (count-first test change ends fs)
  where
    by_case : (b : Bool) → count (change_first test change fs) ≤ count fs → count (elim b as (λ _. List Forwarding) [ true ↦ change f ∷ fs | false ↦ f ∷ change_first test change fs ]) ≤ count (f ∷ fs)
    by_case true ih = count-changed change ends f fs fs (omega arith)
    by_case false ih = count-same f (change_first test change fs) fs ih

pub count-add : (fs : List Forwarding) (f : Forwarding) → count (fs ++ f ∷ []) ≤ count fs + 1
count-add [] f = count-on f []
count-add (g ∷ fs) f = by_case g.over refl (count-add fs f)
  where
    by_case : (b : Bool) → g.over ≡ b → count (fs ++ f ∷ []) ≤ count fs + 1 → count (g ∷ (fs ++ f ∷ [])) ≤ count (g ∷ fs) + 1
    by_case true over ih = let a = count-over g (fs ++ f ∷ []) over in let b = count-over g fs over in omega (arith, ih)
    by_case false over ih = let a = count-live g (fs ++ f ∷ []) over in let b = count-live g fs over in omega (arith, ih)

pub stopped-ends : (wants : Bool) (n : ℕ) → EndsOnly (stopped wants n)
stopped-ends true n f over = over
stopped-ends false n f over = refl

pub of-client-ends : (k : ℕ) (change : Forwarding → Forwarding) → EndsOnly change → EndsOnly (of_client k change)
of-client-ends k change ends f over = elim (f.client == k) as (λ b. (elim b as (λ _. Forwarding) [ true ↦ change f | false ↦ f ]).over ≡ true) [ true ↦ ends f over | false ↦ over ]

pub count-dropped : (row : Row) (fs : List Forwarding) → count (dropped row fs) ≤ count fs
count-dropped row fs = by_case (loses row)
  where
    by_case : (b : Bool) → count (elim b as (λ _. List Forwarding) [ true ↦ map (of_client row.client (λ f. record f { over = true })) fs | false ↦ fs ]) ≤ count fs
    by_case true = count-map (of_client row.client (λ f. record f { over = true })) (of-client-ends row.client (λ f. record f { over = true }) (λ f over. refl)) fs
    by_case false = omega arith
