-- The first line of what is left of a text.
use Rattle.std.proofs.Common.{◌≡◌, ℕ, suc, ◌+◌, ◌-◌, ◌<◌, ◌≤◌, Bool, true, false, cond, not, eqb, List, [], ◌∷◌, length, take, drop, drop-drop, refl, sym, ap, ◌∙◌, arith}
use Rattle.std.specs.List.{prefix_len}
use Rattle.std.proofs.lemmas.List.{length-drop}
use Rattle.std.proofs.Math.ListN.{drop_of_length-le}
use Rattle.conf_rules.specs.Texts.{onto_first}
use Rattle.conf_rules.specs.Heads.{lines_of}

abbrev pub to_feed : List ℕ → ℕ
to_feed bs = prefix_len (λ b. not (eqb b 10)) bs

one_more : (t : Bool) (b : ℕ) (bs : List ℕ) (m : ℕ) (first : List ℕ) (others : List (List ℕ)) → lines_of bs ≡ first ∷ others → first ≡ take m bs → others ≡ lines_of (drop (m + 1) bs)
    → cond t ([] ∷ lines_of bs) (onto_first b (lines_of bs)) ≡ take (cond (not t) (1 + m) 0) (b ∷ bs) ∷ lines_of (drop (cond (not t) (1 + m) 0 + 1) (b ∷ bs))
one_more true b bs m first others e f o = refl
one_more false b bs m first others e f o =
    let k : 1 + m ≡ suc m = omega arith in
    let j : suc m + 1 ≡ suc (m + 1) = omega arith in
    rw (e, k, j, f, o) refl

pub first_line : (b : ℕ) (bs : List ℕ) → lines_of (b ∷ bs) ≡ take (to_feed (b ∷ bs)) (b ∷ bs) ∷ lines_of (drop (to_feed (b ∷ bs) + 1) (b ∷ bs))
unfolding lines_of
first_line b [] = elim (eqb b 10) as (λ t. cond t ([] ∷ []) (onto_first b []) ≡ take (cond (not t) (1 + 0) 0) (b ∷ []) ∷ lines_of (drop (cond (not t) (1 + 0) 0 + 1) (b ∷ []))) [ true ↦ refl | false ↦ refl ]
first_line b (c ∷ cs) = one_more (eqb b 10) b (c ∷ cs) (to_feed (c ∷ cs)) (take (to_feed (c ∷ cs)) (c ∷ cs)) (lines_of (drop (to_feed (c ∷ cs) + 1) (c ∷ cs))) (first_line c cs) refl refl

first_of : (left : List ℕ) → 0 < length left → lines_of left ≡ take (to_feed left) left ∷ lines_of (drop (to_feed left + 1) left)
first_of [] some = absurd (omega (arith, some))
first_of (b ∷ bs) some = first_line b bs

-- a line that a line feed ends
pub fed : (text : List ℕ) (at n : ℕ) → at < length text → n ≡ to_feed (drop at text) → lines_of (drop at text) ≡ take (at + n - at) (drop at text) ∷ lines_of (drop (at + n + 1) text)
fed text at n some e =
    let there : 0 < length (drop at text) = omega (arith, some, length-drop at text) in
    let size : at + n - at ≡ n = omega arith in
    let past : at + (n + 1) ≡ at + n + 1 = omega arith in
    first_of (drop at text) there
    ∙ ap (λ m. take m (drop at text) ∷ lines_of (drop (to_feed (drop at text) + 1) (drop at text))) (sym e ∙ sym size)
    ∙ ap (λ ls. take (at + n - at) (drop at text) ∷ lines_of ls) (ap (λ m. drop (m + 1) (drop at text)) (sym e) ∙ drop-drop (n + 1) at text ∙ ap (λ m. drop m text) past)

-- the last line, which has none
pub unfed : (text : List ℕ) (at n : ℕ) → at < length text → n ≡ to_feed (drop at text) → at + n ≡ length text → lines_of (drop at text) ≡ take (at + n - at) (drop at text) ∷ lines_of (drop (at + n) text)
unfed text at n some e whole =
    let more : length text ≤ at + n + 1 = omega (arith, whole) in
    let enough : length text ≤ at + n = omega (arith, whole) in
    fed text at n some e ∙ ap (λ ls. take (at + n - at) (drop at text) ∷ lines_of ls) (drop_of_length-le text more ∙ sym (drop_of_length-le text enough))
