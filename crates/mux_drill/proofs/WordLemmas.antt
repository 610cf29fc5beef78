-- A text that is split at its spaces, byte by byte.
use Rattle.std.proofs.Common.{◌≡◌, ◌∙◌, refl, sym, ap, ℕ, Bool, true, false, if◌then◌else◌, ◌==◌, List, [], ◌∷◌, ◌++◌, append_assoc, arith}
use Rattle.std.proofs.lemmas.Bool.Decides.{nat_tests}
use Rattle.std.proofs.lemmas.List.{append-nil}
use Rattle.conf_rules.specs.Texts.{split_at_each, onto_first}

-- a word before the first part
abbrev pub onto : List ℕ → List (List ℕ) → List (List ℕ)
onto word [] = word ∷ []
onto word (t ∷ ts) = (word ++ t) ∷ ts

onto_nothing-onto_first : (b : ℕ) (parts : List (List ℕ)) → onto [] (onto_first b parts) ≡ onto_first b parts
onto_nothing-onto_first b [] = refl
onto_nothing-onto_first b (t ∷ ts) = refl

-- nothing before the first part, of which there is one
pub onto_nothing : (text : List ℕ) → onto [] (split_at_each 32 text) ≡ split_at_each 32 text
onto_nothing [] = refl
onto_nothing (b ∷ bs) = by_case (b == 32)
  where
    by_case : (is : Bool)
        → onto [] (if is then [] ∷ split_at_each 32 bs else onto_first b (split_at_each 32 bs))
        ≡ (if is then [] ∷ split_at_each 32 bs else onto_first b (split_at_each 32 bs))
    by_case true = refl
    by_case false = onto_nothing-onto_first b (split_at_each 32 bs)

-- a byte more of a word
pub onto-onto_first : (word : List ℕ) (b : ℕ) (parts : List (List ℕ))
    → onto (word ++ b ∷ []) parts ≡ onto word (onto_first b parts)
onto-onto_first word b [] = refl
onto-onto_first word b (t ∷ ts) = ap (λ w. w ∷ ts) (append_assoc word (b ∷ []) t)

-- after a space a word begins
pub at_space : (words : List (List ℕ)) (word : List ℕ) (b : ℕ) (bs : List ℕ) → b ≡ 32
    → (words ++ word ∷ []) ++ onto [] (split_at_each 32 bs) ≡ words ++ onto word (split_at_each 32 (b ∷ bs))
at_space words word b bs here =
    let is : (b == 32) ≡ true = grind (arith, nat_tests) in
    append_assoc words (word ∷ []) (onto [] (split_at_each 32 bs))
    ∙ ap (λ p. words ++ (word ∷ p)) (onto_nothing bs)
    ∙ ap (λ w. words ++ (w ∷ split_at_each 32 bs)) (sym (append-nil word))
    ∙ sym (ap (λ i. words ++ onto word (if i then [] ∷ split_at_each 32 bs else onto_first b (split_at_each 32 bs))) is)

-- another byte belongs to the word
pub at_byte : (words : List (List ℕ)) (word : List ℕ) (b : ℕ) (bs : List ℕ) → (b ≡ 32 → ⊥)
    → words ++ onto (word ++ b ∷ []) (split_at_each 32 bs) ≡ words ++ onto word (split_at_each 32 (b ∷ bs))
at_byte words word b bs elsewhere =
    let is : (b == 32) ≡ false = grind (arith, nat_tests) in
    ap (λ p. words ++ p) (onto-onto_first word b (split_at_each 32 bs))
    ∙ sym (ap (λ i. words ++ onto word (if i then [] ∷ split_at_each 32 bs else onto_first b (split_at_each 32 bs))) is)
