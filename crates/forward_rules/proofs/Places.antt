-- The first that passes, by its place: it is found, changed or taken out there.
use Rattle.std.proofs.Common.{◌≡◌, ◌≤◌, ◌<◌, ◌+◌, ℕ, List, [], ◌∷◌, length, map, position, remove, true, false, Bool, Some, None, refl, ◌∙◌, ap, sym, arith, suc, zero, slice_set, slice_index_or, cond, not, nat_lt}
use Rattle.std.specs.Prelude.{filter, find}
use Rattle.std.specs.List.{position_or_len}
use Rattle.std.proofs.lemmas.Bool.Decides.{nat_tests}
use Rattle.mux_history.proofs.Finds.{filter-no, filter-yes, find-no, find-yes}
use Rattle.forward_rules.specs.State.{Forward}
use Rattle.forward_rules.specs.Listing.{listed_forward_of}
use Rattle.forward_rules.specs.Step.{change_first_forward, without_first_forward}
use Rattle.forward_rules.specs.declared.listed.Listed.{Listed}

-- the test of what is seen of one that is listed
abbrev pub sees : (Forward → Bool) → Listed → Bool
sees test f = test (listed_forward_of f)

pub change-at : (test : Forward → Bool) (change : Forward → Forward) (f : Forward) (fs : List Forward) (b : Bool) → test f ≡ b → change_first_forward test change (f ∷ fs) ≡ elim b as (λ _. List Forward) [ true ↦ change f ∷ fs | false ↦ f ∷ change_first_forward test change fs ]
change-at test change f fs b h = ap (λ (c : Bool). elim c as (λ _. List Forward) [ true ↦ change f ∷ fs | false ↦ f ∷ change_first_forward test change fs ]) h

pub without-at : (test : Forward → Bool) (f : Forward) (fs : List Forward) (b : Bool) → test f ≡ b → without_first_forward test (f ∷ fs) ≡ elim b as (λ _. List Forward) [ true ↦ fs | false ↦ f ∷ without_first_forward test fs ]
without-at test f fs b h = ap (λ (c : Bool). elim c as (λ _. List Forward) [ true ↦ fs | false ↦ f ∷ without_first_forward test fs ]) h

place-at : (test : Forward → Bool) (f : Listed) (fs : List Listed) (b : Bool) → sees test f ≡ b → position_or_len (sees test) (f ∷ fs) ≡ cond b 0 (1 + position_or_len (sees test) fs)
place-at test f fs true h = ap (λ (c : Bool). cond (not c) (1 + position_or_len (sees test) fs) 0) h
place-at test f fs false h = ap (λ (c : Bool). cond (not c) (1 + position_or_len (sees test) fs) 0) h

-- ---- where there is one

-- the place is the first that passes, and it is within
IsPlace : (Forward → Bool) → List Listed → ℕ → Type 0
IsPlace test fs i = (i ≡ position_or_len (sees test) fs) × (i < length fs)

placed : (test : Forward → Bool) (fs : List Listed) (i : ℕ) → position (sees test) fs ≡ Some i → IsPlace test fs i
unfolding IsPlace
placed test fs i h = by_case (nat_lt (position_or_len (sees test) fs) (length fs)) refl h
  where
    by_case : (b : Bool) → nat_lt (position_or_len (sees test) fs) (length fs) ≡ b → cond b (Some (position_or_len (sees test) fs)) None ≡ Some i → (i ≡ position_or_len (sees test) fs) × (i < length fs)
    by_case true e h = (let s = h in cc, let s : position_or_len (sees test) fs ≡ i = cc in grind (arith, nat_tests))
    by_case false e h = absurd (cc)

-- it stands in front, or after one that doesn't pass
at-zero : (test : Forward → Bool) (f : Listed) (fs : List Listed) → IsPlace test (f ∷ fs) zero → sees test f ≡ true
unfolding IsPlace
at-zero test f fs p = by_case (sees test f) refl
  where
    by_case : (b : Bool) → sees test f ≡ b → sees test f ≡ true
    by_case true h = h
    by_case false h = absurd (let e = place-at test f fs false h in let q = p.0 in omega (arith, e, q))

at-suc : (test : Forward → Bool) (f : Listed) (fs : List Listed) (n : ℕ) → IsPlace test (f ∷ fs) (suc n) → (sees test f ≡ false) × IsPlace test fs n
unfolding IsPlace
at-suc test f fs n p = by_case (sees test f) refl
  where
    by_case : (b : Bool) → sees test f ≡ b → (sees test f ≡ false) × ((n ≡ position_or_len (sees test) fs) × (n < length fs))
    by_case true h = absurd (let e = place-at test f fs true h in let q = p.0 in omega (arith, e, q))
    by_case false h = (h, (let e = place-at test f fs false h in let q = p.0 in omega (arith, e, q), let q = p.1 in omega (arith, q)))

none-at : (test : Forward → Bool) (i : ℕ) → IsPlace test [] i → ⊥
unfolding IsPlace
none-at test i p = let q = p.1 in omega (arith, q)

find-at : (test : Forward → Bool) (fs : List Listed) (i : ℕ) (d : Listed) → IsPlace test fs i → find test (map listed_forward_of fs) ≡ Some (listed_forward_of (slice_index_or fs i d))
find-at test [] i d p = absurd (none-at test i p)
find-at test (f ∷ fs) zero d p = find-yes test (listed_forward_of f) (map listed_forward_of fs) (at-zero test f fs p)
find-at test (f ∷ fs) (suc n) d p = let q = at-suc test f fs n p in find-no test (listed_forward_of f) (map listed_forward_of fs) q.0 ∙ find-at test fs n d q.1

passes-at : (test : Forward → Bool) (fs : List Listed) (i : ℕ) (d : Listed) → IsPlace test fs i → test (listed_forward_of (slice_index_or fs i d)) ≡ true
passes-at test [] i d p = absurd (none-at test i p)
passes-at test (f ∷ fs) zero d p = at-zero test f fs p
passes-at test (f ∷ fs) (suc n) d p = passes-at test fs n d (at-suc test f fs n p).1

set-at : (test : Forward → Bool) (change : Forward → Forward) (fs : List Listed) (i : ℕ) (x d : Listed) → IsPlace test fs i → listed_forward_of x ≡ change (listed_forward_of (slice_index_or fs i d)) → map listed_forward_of (slice_set fs i x) ≡ change_first_forward test change (map listed_forward_of fs)
set-at test change [] i x d p is = absurd (none-at test i p)
set-at test change (f ∷ fs) zero x d p is = ap (λ y. y ∷ map listed_forward_of fs) is ∙ sym (change-at test change (listed_forward_of f) (map listed_forward_of fs) true (at-zero test f fs p))
set-at test change (f ∷ fs) (suc n) x d p is =
    let q = at-suc test f fs n p in
    ap (λ gs. listed_forward_of f ∷ gs) (set-at test change fs n x d q.1 is) ∙ sym (change-at test change (listed_forward_of f) (map listed_forward_of fs) false q.0)

remove-at : (test : Forward → Bool) (fs : List Listed) (i : ℕ) → IsPlace test fs i → map listed_forward_of (remove fs i) ≡ without_first_forward test (map listed_forward_of fs)
remove-at test [] i p = absurd (none-at test i p)
remove-at test (f ∷ fs) zero p = sym (without-at test (listed_forward_of f) (map listed_forward_of fs) true (at-zero test f fs p))
remove-at test (f ∷ fs) (suc n) p =
    let q = at-suc test f fs n p in
    ap (λ gs. listed_forward_of f ∷ gs) (remove-at test fs n q.1) ∙ sym (without-at test (listed_forward_of f) (map listed_forward_of fs) false q.0)

pub found : (test : Forward → Bool) (fs : List Listed) (i : ℕ) (d : Listed) → position (sees test) fs ≡ Some i → find test (map listed_forward_of fs) ≡ Some (listed_forward_of (slice_index_or fs i d))
found test fs i d h = find-at test fs i d (placed test fs i h)

pub passes : (test : Forward → Bool) (fs : List Listed) (i : ℕ) (d : Listed) → position (sees test) fs ≡ Some i → test (listed_forward_of (slice_index_or fs i d)) ≡ true
passes test fs i d h = passes-at test fs i d (placed test fs i h)

pub set-found : (test : Forward → Bool) (change : Forward → Forward) (fs : List Listed) (i : ℕ) (x d : Listed) → position (sees test) fs ≡ Some i → listed_forward_of x ≡ change (listed_forward_of (slice_index_or fs i d)) → map listed_forward_of (slice_set fs i x) ≡ change_first_forward test change (map listed_forward_of fs)
set-found test change fs i x d h is = set-at test change fs i x d (placed test fs i h) is

pub remove-found : (test : Forward → Bool) (fs : List Listed) (i : ℕ) → position (sees test) fs ≡ Some i → map listed_forward_of (remove fs i) ≡ without_first_forward test (map listed_forward_of fs)
remove-found test fs i h = remove-at test fs i (placed test fs i h)

-- ---- where there is none

-- nothing passes
pub record NonePasses (test : Forward → Bool) (fs : List Forward) : Type 0 where
  pub found : find test fs ≡ None
  pub changed : (change : Forward → Forward) → change_first_forward test change fs ≡ fs
  pub without : without_first_forward test fs ≡ fs

none-in : (test : Forward → Bool) (fs : List Listed) → length fs ≤ position_or_len (sees test) fs → NonePasses test (map listed_forward_of fs)
none-in test [] le = record { found = refl; changed = λ change. refl; without = refl }
none-in test (f ∷ fs) le = by_case (none-in test fs) (sees test f) refl
  where
    by_case : (length fs ≤ position_or_len (sees test) fs → NonePasses test (map listed_forward_of fs)) → (b : Bool) → sees test f ≡ b → NonePasses test (listed_forward_of f ∷ map listed_forward_of fs)
    by_case ih true h = absurd (let e = place-at test f fs true h in omega (arith, e, le))
    by_case ih false h =
        let e = place-at test f fs false h in
        let i = ih (omega (arith, e, le)) in
        record {
          found = find-no test (listed_forward_of f) (map listed_forward_of fs) h ∙ i.found;
          changed = λ change. change-at test change (listed_forward_of f) (map listed_forward_of fs) false h ∙ ap (λ gs. listed_forward_of f ∷ gs) (i.changed change);
          without = without-at test (listed_forward_of f) (map listed_forward_of fs) false h ∙ ap (λ gs. listed_forward_of f ∷ gs) i.without;
        }

pub missed : (test : Forward → Bool) (fs : List Listed) → position (sees test) fs ≡ None → NonePasses test (map listed_forward_of fs)
missed test fs h = by_case (nat_lt (position_or_len (sees test) fs) (length fs)) refl h
  where
    by_case : (b : Bool) → nat_lt (position_or_len (sees test) fs) (length fs) ≡ b → cond b (Some (position_or_len (sees test) fs)) None ≡ None → NonePasses test (map listed_forward_of fs)
    by_case true e h = absurd (cc)
    by_case false e h = none-in test fs (grind (arith, nat_tests))

-- ---- those that pass

pub filter-seen : (keep : Forward → Bool) (fs : List Listed) → map listed_forward_of (filter (sees keep) fs) ≡ filter keep (map listed_forward_of fs)
filter-seen keep [] = refl
filter-seen keep (f ∷ fs) = by_case (filter-seen keep fs) (sees keep f) refl
  where
    by_case : map listed_forward_of (filter (sees keep) fs) ≡ filter keep (map listed_forward_of fs) → (b : Bool) → sees keep f ≡ b → map listed_forward_of (filter (sees keep) (f ∷ fs)) ≡ filter keep (listed_forward_of f ∷ map listed_forward_of fs)
    by_case ih true h = ap (map listed_forward_of) (filter-yes (sees keep) f fs h) ∙ (ap (λ gs. listed_forward_of f ∷ gs) ih ∙ sym (filter-yes keep (listed_forward_of f) (map listed_forward_of fs) h))
    by_case ih false h = ap (map listed_forward_of) (filter-no (sees keep) f fs h) ∙ (ih ∙ sym (filter-no keep (listed_forward_of f) (map listed_forward_of fs) h))
