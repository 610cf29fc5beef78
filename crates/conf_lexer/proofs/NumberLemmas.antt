-- Numbers, digit by digit.
use Rattle.std.proofs.Common.{◌≡◌, ℕ, ◌+◌, ◌-◌, ◌*◌, ◌<◌, ◌≤◌, Bool, true, false, cond, ◌&&◌, List, [], ◌∷◌, length, get_or, drop, Some, None, refl, sym, ap, ◌∙◌, arith}
use Rattle.std.specs.Prelude.{nat_le}
use Rattle.std.specs.List.{list_all}
use Rattle.std.specs.Char.{is_ascii_digit}
use Rattle.std.proofs.lemmas.Bool.{lt-leb}
use Rattle.conf_rules.specs.Numbers.{digits_from, number_within}
use Rattle.conf_rules.proofs.SplitLemmas.{at}

-- more digits make it no less
grows : (n : ℕ) (ds : List ℕ) → n ≤ digits_from n ds
grows n [] = omega arith
grows n (d ∷ ds) = omega (arith, grows (n * 10 + (d - 48)) ds)

next_digit : (word : List ℕ) (i n m total : ℕ) → i < length word → m ≡ n * 10 + (get_or word i 0 - 48) → digits_from n (drop i word) ≡ total → digits_from m (drop (i + 1) word) ≡ total
next_digit word i n m total h e so_far = rw e (sym (ap (digits_from n) (at word i h)) ∙ so_far)

-- a word that spells more than the range has no number
pub too_large : (word : List ℕ) (low high n i : ℕ) → i < length word → digits_from n (drop i word) ≡ digits_from 0 word → high < n * 10 + (get_or word i 0 - 48) → None ≡ number_within low high word
too_large [] low high n i h so_far more = refl
too_large (d ∷ ds) low high n i h so_far more =
    let next = next_digit (d ∷ ds) i n (n * 10 + (get_or (d ∷ ds) i 0 - 48)) (digits_from 0 (d ∷ ds)) h refl so_far in
    let past : high < digits_from 0 (d ∷ ds) = omega (arith, more, next, grows (n * 10 + (get_or (d ∷ ds) i 0 - 48)) (drop (i + 1) (d ∷ ds))) in
    past_range d ds low high past
  where
    none : (a b : Bool) (n : ℕ) → None ≡ cond (a && (b && false)) (Some n) None
    none true true n = refl
    none true false n = refl
    none false b n = refl

    past_range : (d : ℕ) (ds : List ℕ) (low high : ℕ) → high < digits_from 0 (d ∷ ds) → None ≡ number_within low high (d ∷ ds)
    past_range d ds low high past =
        let large : nat_le (digits_from 0 (d ∷ ds)) high ≡ false = lt-leb _ _ past in
        rw large (none (list_all is_ascii_digit (d ∷ ds)) (nat_le low (digits_from 0 (d ∷ ds))) (digits_from 0 (d ∷ ds)))
