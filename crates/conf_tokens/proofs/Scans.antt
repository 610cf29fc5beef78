-- The steps of a scan.
use Rattle.std.proofs.Common.{◌≡◌, ℕ, zero, suc, ◌+◌, ◌≤◌, Bool, true, false, eqb, List, [], ◌∷◌, ◌++◌, length, drop, Result, Ok, Err, refl, sym, ap, ◌∙◌, append_assoc, append-nil, arith}
use Rattle.std.specs.Bool.{OnFalse}
use Rattle.std.proofs.lemmas.Bool.{ne_eqb}
use Rattle.conf_rules.specs.declared.token_set.TokenSet.{TokenSet}
use Rattle.conf_rules.specs.declared.causes.TokenError.{TokenError}
use Rattle.conf_rules.specs.Results.{◌>>=◌, Fails}
use Rattle.conf_rules.specs.Wants.{token_wants_memory}
use Rattle.conf_rules.specs.Tokens.{View, TokenPart, part_at, expand_from, name_expanded}
use Rattle.conf_tokens.specs.Puts.{with_text_before, onto_part, name_token}

-- bytes that belong to a part are skipped
skipped : (set : TokenSet) (view : View) (more at : ℕ) (bs : List ℕ) → more ≤ length bs → expand_from set view more at bs ≡ expand_from set view 0 (at + more) (drop more bs)
unfolding expand_from
skipped set view zero at bs within = ap (λ n. expand_from set view 0 n bs) (omega arith)
skipped set view (suc more) at [] within = absurd (omega (arith, within))
skipped set view (suc more) at (b ∷ bs) within =
    skipped set view more (at + 1) bs (omega (arith, within)) ∙ ap (λ n. expand_from set view 0 n (drop more bs)) (omega arith)

-- a text before one that is in front
regrouped : (old text : List ℕ) (r : Result (List ℕ) TokenError) → with_text_before old (r >>= λ rest. Ok (text ++ rest)) ≡ with_text_before (old ++ text) r
regrouped old text (Err e) = refl
regrouped old text (Ok rest) = rw append_assoc refl

-- a part, and what comes after it
joined : (old : List ℕ) (part : Result TokenPart TokenError) (others : ℕ → Result (List ℕ) TokenError) (new : List ℕ) (more : ℕ) → onto_part old part ≡ Ok (new, more) → with_text_before old (part >>= λ p. others p.more >>= λ rest. Ok (p.text ++ rest)) ≡ with_text_before new (others more)
joined old (Err e) others new more h = absurd cc
joined old (Ok p) others new more h =
    let pair : (old ++ p.text, p.more) ≡ (new, more) = cc in
    let text : old ++ p.text ≡ new = ap (λ (x : List ℕ × ℕ). x.0) pair in
    let count : p.more ≡ more = ap (λ (x : List ℕ × ℕ). x.1) pair in
    rw (sym text, sym count) (regrouped old p.text (others p.more))

one : (set : TokenSet) (view : View) (old : List ℕ) (at : ℕ) (b : ℕ) (bs : List ℕ) (new : List ℕ) (more : ℕ) → onto_part old (part_at set view at b bs) ≡ Ok (new, more) → with_text_before old (expand_from set view 0 at (b ∷ bs)) ≡ with_text_before new (expand_from set view more (at + 1) bs)
unfolding expand_from
one set view old at b bs new more h = joined old (part_at set view at b bs) (λ n. expand_from set view n (at + 1) bs) new more h

pub goes_on : (set : TokenSet) (view : View) (old : List ℕ) (at : ℕ) (left : List ℕ) (b : ℕ) (bs : List ℕ) (new : List ℕ) (more : ℕ) (total : Result (List ℕ) TokenError)
    → left ≡ b ∷ bs → onto_part old (part_at set view at b bs) ≡ Ok (new, more) → more ≤ length bs → with_text_before old (expand_from set view 0 at left) ≡ total → with_text_before new (expand_from set view 0 (at + (1 + more)) (drop more bs)) ≡ total
goes_on set view old at left b bs new more total e h within so_far =
    let step = one set view old at b bs new more h in
    let skip = skipped set view more (at + 1) bs within in
    let place : at + 1 + more ≡ at + (1 + more) = omega arith in
    sym (ap (λ n. with_text_before new (expand_from set view 0 n (drop more bs))) place) ∙ sym (ap (with_text_before new) skip) ∙ sym step ∙ sym (ap (λ l. with_text_before old (expand_from set view 0 at l)) e) ∙ so_far

fails_one : (set : TokenSet) (view : View) (old : List ℕ) (at : ℕ) (b : ℕ) (bs : List ℕ) (e : TokenError) → part_at set view at b bs ≡ Err e → with_text_before old (expand_from set view 0 at (b ∷ bs)) ≡ Err e
unfolding expand_from
fails_one set view old at b bs e h = rw h refl

-- a refusal at one place is the refusal of the scan
pub fails : (set : TokenSet) (view : View) (old : List ℕ) (at : ℕ) (left : List ℕ) (b : ℕ) (bs : List ℕ) (e : TokenError) (total : Result (List ℕ) TokenError)
    → left ≡ b ∷ bs → Fails token_wants_memory e (part_at set view at b bs) → with_text_before old (expand_from set view 0 at left) ≡ total → Fails token_wants_memory e total
fails set view old at left b bs e total l h so_far = refused (token_wants_memory e) h
  where
    refused : (t : Bool) → OnFalse t (part_at set view at b bs ≡ Err e) → OnFalse t (total ≡ Err e)
    refused true h = tt
    refused false h = sym so_far ∙ rw l (fails_one set view old at b bs e h)

pub done : (set : TokenSet) (view : View) (out : List ℕ) (at : ℕ) (left : List ℕ) (total : Result (List ℕ) TokenError) → left ≡ [] → with_text_before out (expand_from set view 0 at left) ≡ total → total ≡ Ok out
unfolding expand_from
done set view out at left total e so_far = sym so_far ∙ rw (e, append-nil) refl

pub whole : (r : Result (List ℕ) TokenError) → with_text_before [] r ≡ r
whole (Ok x) = refl
whole (Err e) = refl

-- ---- a Hostname

pub name_token_read : (original out left : List ℕ) (b : ℕ) (bs : List ℕ) (c : ℕ) (cs out' total : List ℕ) → left ≡ b ∷ bs → bs ≡ c ∷ cs → b ≡ 37 → out' ≡ out ++ name_token original c → out ++ name_expanded original left ≡ total → out' ++ name_expanded original cs ≡ total
unfolding name_expanded
name_token_read original out left b bs c cs out' total l k e o so_far =
    let step : name_expanded original (37 ∷ c ∷ cs) ≡ name_token original c ++ name_expanded original cs = refl in
    let whole : left ≡ 37 ∷ c ∷ cs = l ∙ ap (λ x. b ∷ x) k ∙ ap (λ x. x ∷ c ∷ cs) e in
    rw (o, append_assoc) (sym (ap (λ x. out ++ x) (ap (name_expanded original) whole ∙ step)) ∙ so_far)

pub name_last : (original out left : List ℕ) (b : ℕ) (bs out' total : List ℕ) → left ≡ b ∷ bs → bs ≡ [] → out' ≡ out ++ b ∷ [] → out ++ name_expanded original left ≡ total → out' ++ name_expanded original bs ≡ total
unfolding name_expanded
name_last original out left b bs out' total l k o so_far =
    rw (o, k, append-nil) (sym (ap (λ x. out ++ name_expanded original x) (l ∙ ap (λ x. b ∷ x) k)) ∙ so_far)

pub name_byte : (original out left : List ℕ) (b : ℕ) (bs : List ℕ) (c : ℕ) (cs out' total : List ℕ) → left ≡ b ∷ bs → bs ≡ c ∷ cs → (b ≡ 37 → ⊥) → out' ≡ out ++ b ∷ [] → out ++ name_expanded original left ≡ total → out' ++ name_expanded original bs ≡ total
unfolding name_expanded
name_byte original out left b bs c cs out' total l k e o so_far =
    let other : eqb b 37 ≡ false = ne_eqb b 37 e in
    let step : name_expanded original (b ∷ c ∷ cs) ≡ b ∷ name_expanded original (c ∷ cs) = rw other refl in
    rw (o, append_assoc, k) (sym (ap (λ x. out ++ x) (ap (name_expanded original) (l ∙ ap (λ x. b ∷ x) k) ∙ step)) ∙ so_far)

pub name_done : (original out left total : List ℕ) → left ≡ [] → out ++ name_expanded original left ≡ total → out ≡ total
unfolding name_expanded
name_done original out left total e so_far = sym (rw (e, append-nil) refl) ∙ so_far
