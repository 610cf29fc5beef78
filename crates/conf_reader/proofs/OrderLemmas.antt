-- The order of texts by their bytes, and lists that have the same texts.
use Rattle.std.proofs.Common.{◌≡◌, ℕ, suc, ◌+◌, ◌<◌, ◌≤◌, Bool, true, false, cond, eqb, ◌&&◌, ◌||◌, List, [], ◌∷◌, ◌++◌, length, get_or, refl, sym, ap, subst, ◌∙◌, inl, inr, arith}
use Rattle.std.specs.Prelude.{nat_lt, sum_by, bytes_eq}
use Rattle.std.proofs.Common.{Ordering}
use Rattle.std.specs.declared.cmp.Ordering.TheVariants.{Less, Equal, Greater}
use Rattle.std.specs.Ordering.{is_lt, ordering_then, ordering_reverse, nat_cmp}
use Rattle.std.specs.Cmp.Lexicographic.{slice_cmp, nat_list_cmp_total}
use Rattle.std.proofs.lemmas.Bool.{cases_lt, lt-ltb, eq-eqb, eqb-true, ltb-true}
use Rattle.std.proofs.lemmas.Slice.Eq.{bytes_eq-Decides}
use Rattle.std.proofs.lemmas.List.Sums.{sum_by-cons, sum_by-append}
use Rattle.conf_rules.specs.Texts.{Bytes}
use Rattle.conf_rules.specs.Order.{is_before, placed_in, sorted}
use Rattle.conf_reader.specs.Paths.{SameTexts}

-- ---- the order

compared : (a b : Bool) (r : Ordering) → is_lt (ordering_then (cond a Less (cond b Equal Greater)) r) ≡ (a || (b && is_lt r))
compared true b r = refl
compared false true r = refl
compared false false r = refl

-- it is that of std's comparison
pub before-is : (xs ys : Bytes) → is_lt (slice_cmp nat_cmp xs ys) ≡ is_before xs ys
before-is [] [] = refl
before-is [] (y ∷ ys) = refl
before-is (x ∷ xs) [] = refl
before-is (x ∷ xs) (y ∷ ys) = compared (nat_lt x y) (eqb x y) (slice_cmp nat_cmp xs ys) ∙ ap (λ later. nat_lt x y || (eqb x y && later)) (before-is xs ys)

or-right : (a b : Bool) → a ≡ false → (a || b) ≡ b
or-right true b e = absurd cc
or-right false b e = refl

or-both : (a b : Bool) → (a || b) ≡ false → (a ≡ false) × (b ≡ false)
or-both true b e = absurd cc
or-both false b e = (refl, e)

not-lower : (x y : ℕ) → nat_lt x y ≡ false → y ≤ x
not-lower x y e = elim (cases_lt x y) [ inl h ↦ absurd (let k : nat_lt x y ≡ true = lt-ltb x y h in cc) | inr h ↦ h ]

same-number : (x y : ℕ) → nat_lt x y ≡ false → nat_lt y x ≡ false → x ≡ y
same-number x y e k = let h = not-lower x y e in let g = not-lower y x k in omega (arith, h, g)

-- texts of which none comes before the other are one
pub tied : (xs ys : Bytes) → is_before xs ys ≡ false → is_before ys xs ≡ false → xs ≡ ys
tied [] [] e k = refl
tied [] (y ∷ ys) e k = absurd cc
tied (x ∷ xs) [] e k = absurd cc
tied (x ∷ xs) (y ∷ ys) e k =
    let a = or-both (nat_lt x y) (eqb x y && is_before xs ys) e in
    let b = or-both (nat_lt y x) (eqb y x && is_before ys xs) k in
    let n : x ≡ y = same-number x y a.0 b.0 in
    let m : y ≡ x = sym n in
    let f : is_before xs ys ≡ false = sym (ap (λ t. t && is_before xs ys) (eq-eqb x y n)) ∙ a.1 in
    let g : is_before ys xs ≡ false = sym (ap (λ t. t && is_before ys xs) (eq-eqb y x m)) ∙ b.1 in
    rw (n, tied xs ys f g) refl

both-first : (a b : Bool) → (a && b) ≡ true → a ≡ true
both-first true b e = refl
both-first false b e = absurd cc

both-second : (a b : Bool) → (a && b) ≡ true → b ≡ true
both-second true b e = e
both-second false b e = absurd cc

carried-first : (u y x : ℕ) (us ys xs : Bytes) (s t : Bool) → nat_lt u x ≡ s → nat_lt y x ≡ t → y ≤ u → (nat_lt u x || (eqb u x && is_before us xs)) ≡ true → (eqb u y && is_before us ys) ≡ false
    → (is_before us xs ≡ true → is_before us ys ≡ false → is_before ys xs ≡ true) → (nat_lt y x || (eqb y x && is_before ys xs)) ≡ true
carried-first u y x us ys xs s true p q low e h later = rw q refl
carried-first u y x us ys xs true false p q low e h later = absurd (let below : u < x = ltb-true u x p in let above : x ≤ y = not-lower y x q in omega (arith, below, above, low))
carried-first u y x us ys xs false false p q low e h later =
    let rest : (eqb u x && is_before us xs) ≡ true = sym (or-right (nat_lt u x) (eqb u x && is_before us xs) p) ∙ e in
    let one : u ≡ x = eqb-true u x (both-first (eqb u x) (is_before us xs) rest) in
    let above : x ≤ y = not-lower y x q in
    let other : u ≡ y = omega (arith, one, above, low) in
    let same : y ≡ x = sym other ∙ one in
    let further : is_before us ys ≡ false = sym (ap (λ t. t && is_before us ys) (eq-eqb u y other)) ∙ h in
    rw (q, eq-eqb y x same) (later (both-second (eqb u x) (is_before us xs) rest) further)

-- a text comes before another where one does that isn't before the first
pub carried : (us ys xs : Bytes) → is_before us xs ≡ true → is_before us ys ≡ false → is_before ys xs ≡ true
carried us ys [] e k = absurd cc
carried [] [] (x ∷ xs) e k = refl
carried [] (y ∷ ys) (x ∷ xs) e k = absurd cc
carried (u ∷ us) [] (x ∷ xs) e k = refl
carried (u ∷ us) (y ∷ ys) (x ∷ xs) e k =
    let b = or-both (nat_lt u y) (eqb u y && is_before us ys) k in
    carried-first u y x us ys xs (nat_lt u x) (nat_lt y x) refl refl (not-lower u y b.0) e b.1 (carried us ys xs)

turned : (r o : Ordering) → r ≡ ordering_reverse o → is_lt r ≡ true → is_lt o ≡ false
turned r Less e k = absurd (let l : is_lt r ≡ false = ap is_lt e in cc)
turned r Equal e k = refl
turned r Greater e k = refl

-- of two texts one at most comes before the other
pub one-way : (xs ys : Bytes) → is_before xs ys ≡ true → is_before ys xs ≡ false
one-way xs ys e =
    sym (before-is ys xs) ∙ turned (slice_cmp nat_cmp xs ys) (slice_cmp nat_cmp ys xs) (nat_list_cmp_total.antisymm xs ys) (before-is xs ys ∙ e)

-- ---- insertion

-- two texts at the front, in either order
fronts : (x y : Bytes) (us : List Bytes) (s t : Bool) → is_before y x ≡ s → is_before x y ≡ t → cond s (y ∷ x ∷ us) (x ∷ y ∷ us) ≡ cond t (x ∷ y ∷ us) (y ∷ x ∷ us)
fronts x y us true true e k = absurd (let l = one-way y x e in cc)
fronts x y us true false e k = refl
fronts x y us false true e k = refl
fronts x y us false false e k = let same = tied x y k e in rw same refl

fronts-placed : (x y u : Bytes) (us : List Bytes) → is_before u x ≡ false → is_before u y ≡ false → placed_in x (y ∷ u ∷ us) ≡ placed_in y (x ∷ u ∷ us)
fronts-placed x y u us e k = rw (e, k) (fronts x y (u ∷ us) (is_before y x) (is_before x y) refl refl)

placed-front : (x u : Bytes) (us : List Bytes) → is_before u x ≡ false → placed_in x (u ∷ us) ≡ x ∷ u ∷ us
placed-front x u us e = rw e refl

placed-both : (x y u : Bytes) (us : List Bytes) (s t : Bool) → is_before u x ≡ s → is_before u y ≡ t → placed_in x (placed_in y us) ≡ placed_in y (placed_in x us) → placed_in x (placed_in y (u ∷ us)) ≡ placed_in y (placed_in x (u ∷ us))
placed-both x y u us true true e k later = rw (e, k, e) (ap (λ vs. u ∷ vs) later)
placed-both x y u us true false e k later = let l : is_before y x ≡ true = carried u y x e k in rw (e, k, l, e) refl
placed-both x y u us false true e k later = let l : is_before x y ≡ true = carried u x y k e in rw (e, k, l, e) refl
placed-both x y u us false false e k later = ap (placed_in x) (placed-front y u us k) ∙ fronts-placed x y u us e k ∙ sym (ap (placed_in y) (placed-front x u us e))

-- texts are put in in either order
pub placed-placed : (x y : Bytes) (us : List Bytes) → placed_in x (placed_in y us) ≡ placed_in y (placed_in x us)
placed-placed x y [] = fronts x y [] (is_before y x) (is_before x y) refl refl
placed-placed x y (u ∷ us) = placed-both x y u us (is_before u x) (is_before u y) refl refl (placed-placed x y us)

-- a text in the middle is put in last
pub sorted-middle : (x : Bytes) (xs ys : List Bytes) → sorted (xs ++ x ∷ ys) ≡ placed_in x (sorted (xs ++ ys))
sorted-middle x [] ys = refl
sorted-middle x (z ∷ zs) ys = ap (placed_in z) (sorted-middle x zs ys) ∙ placed-placed z x (sorted (zs ++ ys))

-- ---- lists that have the same texts

-- how often a text is in a list
abbrev is_text : Bytes → Bytes → ℕ
is_text x y = cond (bytes_eq y x) 1 0

record Parts (x : Bytes) (ys : List Bytes) : Type 0 where
  pub front : List Bytes
  pub back : List Bytes
  pub is : ys ≡ front ++ x ∷ back

found-first : (x y : Bytes) (ys : List Bytes) (t : Bool) → bytes_eq y x ≡ t → 0 < sum_by (is_text x) (y ∷ ys) → (0 < sum_by (is_text x) ys → Parts x ys) → Parts x (y ∷ ys)
found-first x y ys true e some later = record { front = []; back = ys; is = ap (λ z. z ∷ ys) ((bytes_eq-Decides y x).0 e) }
found-first x y ys false e some later =
    let n : is_text x y ≡ 0 = rw e refl in
    let whole = sum_by-cons (is_text x) y ys in
    let p = later (omega (arith, some, n, whole)) in
    record { front = y ∷ p.front; back = p.back; is = ap (λ zs. y ∷ zs) p.is }

-- a text that is in a list stands somewhere in it
found : (x : Bytes) (ys : List Bytes) → 0 < sum_by (is_text x) ys → Parts x ys
found x [] some = absurd (omega (arith, some))
found x (y ∷ ys) some = found-first x y ys (bytes_eq y x) refl some (found x ys)

sum-middle : (f : Bytes → ℕ) (x : Bytes) (xs ys : List Bytes) → sum_by f (xs ++ x ∷ ys) ≡ f x + sum_by f (xs ++ ys)
sum-middle f x xs ys = let a = sum_by-append f xs (x ∷ ys) in let b = sum_by-cons f x ys in let c = sum_by-append f xs ys in omega (arith, a, b, c)

empty : (ys : List Bytes) → sum_by (λ y. 1) ys ≡ 0 → [] ≡ ys
empty [] e = refl
empty (y ∷ ys) e = absurd (let whole = sum_by-cons (λ (z : Bytes). 1) y ys in omega (arith, e, whole))

one-of : (x : Bytes) (xs ys : List Bytes) → SameTexts (x ∷ xs) ys → 0 < sum_by (is_text x) ys
one-of x xs ys same =
    let own : is_text x x ≡ 1 = rw ((bytes_eq-Decides x x).1 refl) refl in
    let all = same (is_text x) in
    let whole = sum_by-cons (is_text x) x xs in
    omega (arith, own, all, whole)

-- lists that have the same texts are sorted alike
pub same-sorted : (xs ys : List Bytes) → SameTexts xs ys → sorted xs ≡ sorted ys
same-sorted [] ys same = ap sorted (empty ys (same (λ y. 1)))
same-sorted (x ∷ xs) ys same =
    let p = found x ys (one-of x xs ys same) in
    let others : SameTexts xs (p.front ++ p.back) = λ f. let whole = same f in let parted = ap (sum_by f) p.is in let apart = sum-middle f x p.front p.back in let here = sum_by-cons f x xs in omega (arith, whole, parted, apart, here) in
    ap (placed_in x) (same-sorted xs (p.front ++ p.back) others) ∙ sym (sorted-middle x p.front p.back) ∙ sym (ap sorted p.is)

-- ---- a list in order

-- a list in order is sorted
pub ordered-sorted : (xs : List Bytes) → ((k : ℕ) (d : Bytes) → 0 ≤ k → k + 1 < length xs → is_before (get_or xs (k + 1) d) (get_or xs k d) ≡ false) → sorted xs ≡ xs
ordered-sorted [] up = refl
ordered-sorted (x ∷ []) up = refl
ordered-sorted (x ∷ y ∷ ys) up =
    let later : sorted (y ∷ ys) ≡ y ∷ ys = ordered-sorted (y ∷ ys) (λ k d z h. let next : suc k + 1 ≡ suc (k + 1) = omega arith in subst (λ n. is_before (get_or (x ∷ y ∷ ys) n d) (get_or (y ∷ ys) k d) ≡ false) next (up (suc k) d (omega arith) (omega (arith, h)))) in
    let first : is_before y x ≡ false = up 0 y (omega arith) (omega arith) in
    ap (placed_in x) later ∙ rw first refl
