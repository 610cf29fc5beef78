-- Splits of texts at a byte, and hosts in brackets.
use Rattle.std.proofs.Common.{◌≡◌, ◌≢◌, ℕ, zero, suc, ◌+◌, ◌-◌, ◌<◌, Bool, true, false, cond, eqb, [], ◌∷◌, ◌++◌, length, get_or, take, drop, Option, Some, None, refl, sym, ap, ◌∙◌, arith, add-one, drop-cons, append-nil}
use Rattle.std.proofs.lemmas.Bool.{eqb-true, eq-eqb}
use Rattle.std.proofs.lemmas.List.{take-append-drop, take_all, length-drop}
use Rattle.conf_rules.specs.Texts.{Bytes, split_at_last, split_last}
use Rattle.conf_rules.specs.Forwardings.{before_bracket}

pub at : (word : Bytes) (i : ℕ) → i < length word → drop i word ≡ get_or word i 0 ∷ drop (i + 1) word
at word i h = rw (add-one, drop-cons word i 0) refl

pub other-eqb : (a b : ℕ) → a ≢ b → eqb a b ≡ false
other-eqb a b n = on (eqb a b) refl
  where
    on : (t : Bool) → eqb a b ≡ t → t ≡ false
    on true e = absurd (n (eqb-true a b e))
    on false e = refl

-- ---- the last of a byte

-- the last place, by whether the first byte is one and by what follows it
last_with : ℕ → Bool → Bytes → Option (Bytes × Bytes) → Option (Bytes × Bytes)
last_with b t rest None = cond t (Some ([], rest)) None
last_with b t rest (Some p) = Some (b ∷ p.0, p.1)

cons-last : (c b : ℕ) (bs : Bytes) → split_at_last c (b ∷ bs) ≡ last_with b (eqb b c) bs (split_at_last c bs)
unfolding last_with
cons-last c b bs = refl

cons-none : (c b : ℕ) (bs : Bytes) (t : Bool) → eqb b c ≡ t → split_at_last c bs ≡ None → split_at_last c (b ∷ bs) ≡ cond t (Some ([], bs)) None
unfolding last_with
cons-none c b bs t e n = cons-last c b bs ∙ (ap (last_with b (eqb b c) bs) n ∙ ap (λ t. last_with b t bs None) e)

split-some : (c : ℕ) (xs rest before behind : Bytes) → split_at_last c rest ≡ Some (before, behind) → split_at_last c (xs ++ rest) ≡ Some (xs ++ before, behind)
split-some c [] rest before behind e = e
split-some c (x ∷ xs) rest before behind e = rw (split-some c xs rest before behind e) refl

pub split-here : (c : ℕ) (word : Bytes) (i j : ℕ) → j ≡ i + 1 → i < length word → split_at_last c (drop j word) ≡ None → get_or word i 0 ≡ c → split_at_last c word ≡ Some (take i word, take (length word - (i + 1)) (drop (i + 1) word))
split-here c word i j same h none here =
    let none' : split_at_last c (drop (i + 1) word) ≡ None = sym (ap (λ k. split_at_last c (drop k word)) same) ∙ none in
    let rest : split_at_last c (drop i word) ≡ Some ([], drop (i + 1) word) = ap (split_at_last c) (at word i h) ∙ cons-none c (get_or word i 0) (drop (i + 1) word) true (eq-eqb _ _ here) none' in
    let all : take (length word - (i + 1)) (drop (i + 1) word) ≡ drop (i + 1) word = take_all _ _ (omega (arith, length-drop (i + 1) word)) in
    rw all (ap (split_at_last c) (sym (take-append-drop i word)) ∙ (split-some c (take i word) (drop i word) [] (drop (i + 1) word) rest ∙ ap (λ l. Some (l, drop (i + 1) word)) (append-nil (take i word))))

-- ---- hosts

pub split-end : (inner : Bytes) (b : ℕ) → split_last (inner ++ b ∷ []) ≡ Some (inner, b)
split-end [] b = refl
split-end (x ∷ xs) b = rw (split-end xs b) refl

pub last-split : (inner : Bytes) (n : ℕ) → length inner ≡ n + 1 → inner ≡ take n inner ++ get_or inner n 0 ∷ []
last-split [] n h = absurd (omega (arith, h))
last-split (x ∷ []) zero h = refl
last-split (x ∷ []) (suc n) h = absurd (omega (arith, h))
last-split (x ∷ y ∷ ys) zero h = absurd (omega (arith, h))
last-split (x ∷ y ∷ ys) (suc n) h = ap (λ l. x ∷ l) (last-split (y ∷ ys) n (omega (arith, h)))

bracket-at : (inner : Bytes) (n : ℕ) → length inner ≡ n + 1 → before_bracket (split_last inner) ≡ cond (eqb (get_or inner n 0) 93) (Some (take n inner)) None
bracket-at inner n h = ap (λ l. before_bracket (split_last l)) (last-split inner n h) ∙ ap before_bracket (split-end (take n inner) (get_or inner n 0))

pub closed : (inner : Bytes) (n : ℕ) → length inner ≡ n + 1 → get_or inner n 0 ≡ 93 → Some (take n inner) ≡ before_bracket (split_last inner)
closed inner n h e = sym (bracket-at inner n h ∙ rw (eq-eqb _ _ e) refl)

pub unclosed : (inner : Bytes) (n : ℕ) → length inner ≡ n + 1 → get_or inner n 0 ≢ 93 → None ≡ before_bracket (split_last inner)
unclosed inner n h e = sym (bracket-at inner n h ∙ rw (other-eqb _ _ e) refl)
