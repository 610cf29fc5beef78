-- The parts of a forwarding.
use Rattle.std.proofs.Common.{◌≡◌, ℕ, ◌+◌, ◌<◌, ◌≤◌, Bool, true, false, cond, not, eqb, ◌&&◌, ◌||◌, List, [], ◌∷◌, ◌++◌, length, get_or, drop, Some, None, Result, Ok, Err, refl, sym, ap, ◌∙◌, arith, append_assoc, append-nil}
use Rattle.std.specs.Prelude.{IfOk, nat_le, reverse}
use Rattle.std.proofs.lemmas.Bool.{lt-leb}
use Rattle.std.specs.List.{list_any}
use Rattle.conf_rules.specs.Texts.{Bytes, onto_first}
use Rattle.conf_rules.specs.Options.{parts_from, is_bad_part, ends_of, is_count, forward_words}
use Rattle.conf_command.specs.Parts.{words_of_one_end, words_of_two_ends, ends_among, onto_first_part}
use Rattle.conf_rules.proofs.SplitLemmas.{at}

-- the parts, by whether the first byte parts them
parts_by : Bool → ℕ → List Bytes → List Bytes → List Bytes
parts_by true b next same = [] ∷ next
parts_by false b next same = onto_first b same

cons-parts : (inside : Bool) (b : ℕ) (bs : Bytes) → parts_from inside (b ∷ bs) ≡ parts_by ((eqb b 58) && not inside) b (parts_from inside bs) (parts_from ((eqb b 91) || (inside && not (eqb b 93))) bs)
unfolding parts_by
cons-parts inside b bs = on ((eqb b 58) && not inside) (parts_from inside bs) (parts_from ((eqb b 91) || (inside && not (eqb b 93))) bs)
  where
    on : (t : Bool) (next same : List Bytes) → cond t ([] ∷ next) (onto_first b same) ≡ parts_by t b next same
    on true next same = refl
    on false next same = refl

first-onto : (b : ℕ) (ps : List Bytes) → onto_first_part [] (onto_first b ps) ≡ onto_first b ps
first-onto b [] = refl
first-onto b (p ∷ ps) = refl

by-onto : (t : Bool) (b : ℕ) (next same : List Bytes) → onto_first_part [] (parts_by t b next same) ≡ parts_by t b next same
unfolding parts_by
by-onto true b next same = refl
by-onto false b next same = first-onto b same

-- there is a first part
pub parts-some : (inside : Bool) (bs : Bytes) → onto_first_part [] (parts_from inside bs) ≡ parts_from inside bs
parts-some inside [] = refl
parts-some inside (b ∷ bs) = ap (onto_first_part []) (cons-parts inside b bs) ∙ (by-onto _ b _ _ ∙ sym (cons-parts inside b bs))

onto-more : (part : Bytes) (b : ℕ) (ps : List Bytes) → onto_first_part part (onto_first b ps) ≡ onto_first_part (part ++ b ∷ []) ps
onto-more part b [] = refl
onto-more part b (p ∷ ps) = rw append_assoc refl

-- a byte that parts
pub parted : (value : Bytes) (i b : ℕ) (inside : Bool) (parts now : List Bytes) (part : Bytes) (total : List Bytes) → i < length value → b ≡ get_or value i 0
    → ((eqb b 58) && not inside) ≡ true → now ≡ parts ++ part ∷ [] → parts ++ onto_first_part part (parts_from inside (drop i value)) ≡ total
    → now ++ onto_first_part [] (parts_from inside (drop (i + 1) value)) ≡ total
unfolding parts_by
parted value i b inside parts now part total h e here more so_far =
    let step : parts_from inside (drop i value) ≡ [] ∷ parts_from inside (drop (i + 1) value) =
    ap (parts_from inside) (at value i h ∙ ap (λ y. y ∷ drop (i + 1) value) (sym e)) ∙ (cons-parts inside b (drop (i + 1) value)
    ∙ ap (λ t. parts_by t b (parts_from inside (drop (i + 1) value)) (parts_from ((eqb b 91) || (inside && not (eqb b 93))) (drop (i + 1) value))) here) in
    let whole : onto_first_part part ([] ∷ parts_from inside (drop (i + 1) value)) ≡ part ∷ parts_from inside (drop (i + 1) value) = rw append-nil refl in
    ap (λ l. l ++ onto_first_part [] (parts_from inside (drop (i + 1) value))) more
    ∙ (ap (λ l. (parts ++ part ∷ []) ++ l) (parts-some inside (drop (i + 1) value))
    ∙ (append_assoc parts (part ∷ []) (parts_from inside (drop (i + 1) value))
    ∙ (ap (λ l. parts ++ l) (sym (ap (onto_first_part part) step ∙ whole)) ∙ so_far)))

-- a byte of a part
pub in_part : (value : Bytes) (i b : ℕ) (inside after : Bool) (parts : List Bytes) (part now : Bytes) (total : List Bytes) → i < length value → b ≡ get_or value i 0
    → ((eqb b 58) && not inside) ≡ false → now ≡ part ++ b ∷ [] → after ≡ ((eqb b 91) || (inside && not (eqb b 93))) → parts ++ onto_first_part part (parts_from inside (drop i value)) ≡ total
    → parts ++ onto_first_part now (parts_from after (drop (i + 1) value)) ≡ total
unfolding parts_by
in_part value i b inside after parts part now total h e here more state so_far =
    let step : parts_from inside (drop i value) ≡ onto_first b (parts_from after (drop (i + 1) value)) =
    ap (parts_from inside) (at value i h ∙ ap (λ y. y ∷ drop (i + 1) value) (sym e)) ∙ (cons-parts inside b (drop (i + 1) value)
    ∙ (ap (λ t. parts_by t b (parts_from inside (drop (i + 1) value)) (parts_from ((eqb b 91) || (inside && not (eqb b 93))) (drop (i + 1) value))) here
    ∙ ap (λ s. onto_first b (parts_from s (drop (i + 1) value))) (sym state))) in
    ap (λ p. parts ++ onto_first_part p (parts_from after (drop (i + 1) value))) more
    ∙ (ap (λ l. parts ++ l) (sym (ap (onto_first_part part) step ∙ onto-more part b (parts_from after (drop (i + 1) value)))) ∙ so_far)

-- ---- the ends

pub one_part : (one two : Bool) (parts : List Bytes) (p : Bytes) → 1 ≤ length parts → length parts < 2 → p ≡ get_or parts 0 p → words_of_one_end one p ≡ ends_among one two parts
unfolding ends_among
one_part one two (q ∷ []) p low high e = rw e refl
one_part one two [] p low high e = absurd (omega (arith, low))
one_part one two (q ∷ r ∷ rs) p low high e = absurd (omega (arith, high))

pub two_parts : (one two : Bool) (parts : List Bytes) (b p : Bytes) → 2 ≤ length parts → length parts < 3 → b ≡ get_or parts 0 b → p ≡ get_or parts 1 p → words_of_one_end one (b ++ 58 ∷ p) ≡ ends_among one two parts
unfolding ends_among
two_parts one two (c ∷ q ∷ []) b p low high e f = rw (e, f) refl
two_parts one two parts b p low high e f = absurd (omega (arith, low, high))

pub three_parts : (one two : Bool) (parts : List Bytes) (p h t : Bytes) → 3 ≤ length parts → length parts < 4 → p ≡ get_or parts 0 p → h ≡ get_or parts 1 h → t ≡ get_or parts 2 t
    → words_of_two_ends two p (h ++ 58 ∷ t) ≡ ends_among one two parts
unfolding ends_among
three_parts one two (q ∷ i ∷ u ∷ []) p h t low high e f g = rw (e, f, g) refl
three_parts one two parts p h t low high e f g = absurd (omega (arith, low, high))

pub four_parts : (one two : Bool) (parts : List Bytes) (b p h t : Bytes) → 4 ≤ length parts → length parts < 5 → b ≡ get_or parts 0 b → p ≡ get_or parts 1 p → h ≡ get_or parts 2 h → t ≡ get_or parts 3 t
    → words_of_two_ends two (b ++ 58 ∷ p) (h ++ 58 ∷ t) ≡ ends_among one two parts
unfolding ends_among
four_parts one two (c ∷ q ∷ i ∷ u ∷ []) b p h t low high e f g k = rw (e, f, g, k) refl
four_parts one two parts b p h t low high e f g k = absurd (omega (arith, low, high))

pub no_parts : (one two : Bool) (parts : List Bytes) → length parts < 1 → None ≡ ends_among one two parts
unfolding ends_among
no_parts one two [] low = refl
no_parts one two (p ∷ ps) low = absurd (omega (arith, low))

pub many_parts : (one two : Bool) (parts : List Bytes) → 5 ≤ length parts → None ≡ ends_among one two parts
unfolding ends_among
many_parts one two (p ∷ q ∷ r ∷ s ∷ t ∷ ts) high = refl
many_parts one two parts high = absurd (omega (arith, high))

-- more than four parts are no forwarding
past-four : (one two : Bool) (n : ℕ) → 5 ≤ n → is_count one two n ≡ false
past-four one two n h =
    let a : nat_le n 2 ≡ false = lt-leb n 2 (omega (arith, h)) in
    let b : nat_le n 4 ≡ false = lt-leb n 4 (omega (arith, h)) in
    rw (a, b) (on one two (nat_le 3 n))
  where
    on : (one two t : Bool) → ((one && false) || (two && (t && false))) ≡ false
    on true true true = refl
    on true true false = refl
    on true false t = refl
    on false true true = refl
    on false true false = refl
    on false false t = refl

-- the ends are those of the definition, for a first part and others
ends-same : (one two : Bool) (p : Bytes) (ps : List Bytes) → ends_among one two (p ∷ ps) ≡ cond (is_count one two (length (p ∷ ps))) (Some (ends_of (reverse (p ∷ ps)))) None
unfolding ends_among
ends-same true true p [] = refl
ends-same true false p [] = refl
ends-same false true p [] = refl
ends-same false false p [] = refl
ends-same true true p (q ∷ []) = refl
ends-same true false p (q ∷ []) = refl
ends-same false true p (q ∷ []) = refl
ends-same false false p (q ∷ []) = refl
ends-same true true p (q ∷ r ∷ []) = refl
ends-same true false p (q ∷ r ∷ []) = refl
ends-same false true p (q ∷ r ∷ []) = refl
ends-same false false p (q ∷ r ∷ []) = refl
ends-same true true p (q ∷ r ∷ s ∷ []) = refl
ends-same true false p (q ∷ r ∷ s ∷ []) = refl
ends-same false true p (q ∷ r ∷ s ∷ []) = refl
ends-same false false p (q ∷ r ∷ s ∷ []) = refl
ends-same one two p (q ∷ r ∷ s ∷ t ∷ ts) = rw (past-four one two (length (p ∷ q ∷ r ∷ s ∷ t ∷ ts)) (omega arith)) refl

some-ends : (one two : Bool) (parts : List Bytes) → onto_first_part [] parts ≡ parts → ends_among one two parts ≡ cond (is_count one two (length parts)) (Some (ends_of (reverse parts))) None
some-ends one two [] e = absurd cc
some-ends one two (p ∷ ps) e = ends-same one two p ps

pub bad_words : (one two : Bool) (value : Bytes) (parts : List Bytes) → parts ≡ parts_from false value → list_any is_bad_part parts ≡ true → None ≡ forward_words one two value
unfolding forward_words
bad_words one two value parts e bad = let b : list_any is_bad_part (parts_from false value) ≡ true = sym (ap (list_any is_bad_part) e) ∙ bad in rw b refl

pub good_words : (one two : Bool) (value : Bytes) (parts : List Bytes) → parts ≡ parts_from false value → list_any is_bad_part parts ≡ false → ends_among one two parts ≡ forward_words one two value
unfolding forward_words
good_words one two value parts e good =
    let b : list_any is_bad_part (parts_from false value) ≡ false = sym (ap (list_any is_bad_part) e) ∙ good in
    ap (ends_among one two) e ∙ (some-ends one two (parts_from false value) (parts-some false value) ∙ rw b refl)

-- the same words, by another definition
pub same-ok : {A E : Type 0} (r : Result A E) (x y : A) → x ≡ y → IfOk r (λ w. w ≡ x) → IfOk r (λ w. w ≡ y)
same-ok (Ok w) x y e h = h ∙ e
same-ok (Err f) x y e h = tt
