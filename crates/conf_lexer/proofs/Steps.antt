-- One step of reading words.
use Rattle.std.proofs.Common.{◌≡◌, ℕ, ◌+◌, Bool, true, false, cond, eqb, ◌&&◌, List, [], ◌∷◌, ◌++◌, length, Some, None, Result, Ok, Err, refl, sym, ap, ◌∙◌, append_assoc, arith}
use Rattle.std.proofs.lemmas.List.{append-nil}
use Rattle.conf_rules.specs.declared.causes.LexError.{LexError}
use Rattle.conf_rules.specs.declared.causes.LexError.TheVariants.{OpenQuote}
use Rattle.conf_rules.specs.declared.quoting.Quoting.{Quoting}
use Rattle.conf_rules.specs.declared.quoting.Quoting.TheVariants.{Between, Bare, Quoted}
use Rattle.conf_rules.specs.declared.quoting.Move.{Move}
use Rattle.conf_rules.specs.declared.quoting.Move.TheVariants.{Stop, Go, Put, End}
use Rattle.conf_rules.specs.Words.{is_escapable, move_of, after_backslash, onto_word, after_move, words_from}
use Rattle.conf_lexer.specs.Reading.{with_words_before, escaped}
use Rattle.conf_rules.specs.Results.{◌>>=◌}

-- a test that chose nothing, and one that chose something
pub none_chosen : {A : Type 0} (b : Bool) (x : A) → cond b (Some x) None ≡ None → b ≡ false
none_chosen true x e = absurd cc
none_chosen false x e = refl

pub some_chosen : {A : Type 0} (b : Bool) (x y : A) → cond b (Some x) None ≡ Some y → (b ≡ true) × (x ≡ y)
some_chosen true x y e = (refl, cc)
some_chosen false x y e = absurd cc

pub plain : (p : Quoting) (at b : ℕ) (xs : List ℕ) → escaped p b xs ≡ None → words_from p at (b ∷ xs) ≡ after_move b (move_of p at b) (λ q. words_from q (at + 1) xs)
unfolding words_from escaped
plain p at b [] e = refl
plain p at b (c ∷ xs) e = rw (none_chosen (eqb b 92 && is_escapable p c) (c, xs) e) refl

pub with_escape : (p : Quoting) (at b : ℕ) (xs : List ℕ) (c : ℕ) (ys : List ℕ) → escaped p b xs ≡ Some (c, ys) → words_from p at (b ∷ xs) ≡ (words_from (after_backslash p) (at + 2) ys >>= λ ws. Ok (onto_word (c ∷ []) ws))
unfolding words_from escaped
with_escape p at b [] c ys e = absurd cc
with_escape p at b (d ∷ xs) c ys e =
    let h = some_chosen (eqb b 92 && is_escapable p d) (d, xs) (c, ys) e in
    rw (h.0) (ap (λ (x : ℕ × List ℕ). words_from (after_backslash p) (at + 2) x.1 >>= λ ws. Ok (onto_word (x.0 ∷ []) ws)) h.1)

pub joined_put : (words : List (List ℕ)) (word : List ℕ) (b : ℕ) (later : Result (List (List ℕ)) LexError) → with_words_before words word (later >>= λ ws. Ok (onto_word (b ∷ []) ws)) ≡ with_words_before words (word ++ b ∷ []) later
joined_put words word b (Err e) = refl
joined_put words word b (Ok []) = refl
joined_put words word b (Ok (w ∷ ws)) = rw append_assoc refl

pub joined_end : (words : List (List ℕ)) (word : List ℕ) (later : Result (List (List ℕ)) LexError) → with_words_before words word (later >>= λ ws. Ok ([] ∷ ws)) ≡ with_words_before (words ++ word ∷ []) [] later
joined_end words word (Err e) = refl
joined_end words word (Ok []) = simp append-nil
joined_end words word (Ok (w ∷ ws)) = rw (append-nil word, append_assoc) refl

pub longer : (p : Quoting) (b : ℕ) (xs : List ℕ) (c : ℕ) (ys : List ℕ) → Some (c, ys) ≡ escaped p b xs → length xs ≡ length ys + 1
unfolding escaped
longer p b [] c ys e = absurd cc
longer p b (d ∷ xs) c ys e =
    let h = some_chosen (eqb b 92 && is_escapable p d) (d, xs) (c, ys) (sym e) in
    let k : xs ≡ ys = ap (λ (x : ℕ × List ℕ). x.1) h.1 in
    omega (arith, ap length k)

pub goes_escaped : (words : List (List ℕ)) (word : List ℕ) (p : Quoting) (at : ℕ) (left : List ℕ) (b : ℕ) (xs : List ℕ) (c : ℕ) (ys word' : List ℕ) (total : Result (List (List ℕ)) LexError)
    → left ≡ b ∷ xs → Some (c, ys) ≡ escaped p b xs → word' ≡ word ++ c ∷ [] → with_words_before words word (words_from p at left) ≡ total → with_words_before words word' (words_from (after_backslash p) (at + 2) ys) ≡ total
goes_escaped words word p at left b xs c ys word' total e h k so_far =
    let step : with_words_before words word (words_from p at left) ≡ with_words_before words word (words_from (after_backslash p) (at + 2) ys >>= λ ws. Ok (onto_word (c ∷ []) ws)) = ap (λ r. with_words_before words word r) (ap (words_from p at) e ∙ with_escape p at b xs c ys (sym h)) in
    ap (λ w. with_words_before words w (words_from (after_backslash p) (at + 2) ys)) k ∙ sym (joined_put words word c (words_from (after_backslash p) (at + 2) ys)) ∙ sym step ∙ so_far

-- the next byte, not escaped
one : (words : List (List ℕ)) (word : List ℕ) (p : Quoting) (at : ℕ) (left : List ℕ) (b : ℕ) (xs : List ℕ) (m : Move) → left ≡ b ∷ xs → None ≡ escaped p b xs → m ≡ move_of p at b
    → with_words_before words word (words_from p at left) ≡ with_words_before words word (after_move b m (λ q. words_from q (at + 1) xs))
one words word p at left b xs m e h k = ap (λ r. with_words_before words word r) (ap (words_from p at) e ∙ plain p at b xs (sym h) ∙ ap (λ n. after_move b n (λ q. words_from q (at + 1) xs)) (sym k))

pub stops : (words : List (List ℕ)) (word : List ℕ) (p : Quoting) (at : ℕ) (left : List ℕ) (b : ℕ) (xs : List ℕ) (total : Result (List (List ℕ)) LexError)
    → left ≡ b ∷ xs → None ≡ escaped p b xs → Stop ≡ move_of p at b → with_words_before words word (words_from p at left) ≡ total → total ≡ Ok words
stops words word p at left b xs total e h k so_far =
    sym so_far ∙ one words word p at left b xs Stop e h k ∙ rw append-nil refl

pub goes : (words : List (List ℕ)) (word : List ℕ) (p : Quoting) (at : ℕ) (left : List ℕ) (b : ℕ) (xs : List ℕ) (q : Quoting) (total : Result (List (List ℕ)) LexError)
    → left ≡ b ∷ xs → None ≡ escaped p b xs → Go q ≡ move_of p at b → with_words_before words word (words_from p at left) ≡ total → with_words_before words word (words_from q (at + 1) xs) ≡ total
goes words word p at left b xs q total e h k so_far = sym (one words word p at left b xs (Go q) e h k) ∙ so_far

pub puts : (words : List (List ℕ)) (word : List ℕ) (p : Quoting) (at : ℕ) (left : List ℕ) (b : ℕ) (xs : List ℕ) (q : Quoting) (total : Result (List (List ℕ)) LexError)
    → left ≡ b ∷ xs → None ≡ escaped p b xs → Put q ≡ move_of p at b → with_words_before words word (words_from p at left) ≡ total → with_words_before words (word ++ b ∷ []) (words_from q (at + 1) xs) ≡ total
puts words word p at left b xs q total e h k so_far = sym (joined_put words word b (words_from q (at + 1) xs)) ∙ sym (one words word p at left b xs (Put q) e h k) ∙ so_far

pub ends : (words : List (List ℕ)) (word : List ℕ) (p : Quoting) (at : ℕ) (left : List ℕ) (b : ℕ) (xs : List ℕ) (total : Result (List (List ℕ)) LexError)
    → left ≡ b ∷ xs → None ≡ escaped p b xs → End ≡ move_of p at b → with_words_before words word (words_from p at left) ≡ total → with_words_before (words ++ word ∷ []) [] (words_from Between (at + 1) xs) ≡ total
ends words word p at left b xs total e h k so_far = sym (joined_end words word (words_from Between (at + 1) xs)) ∙ sym (one words word p at left b xs End e h k) ∙ so_far

-- where no byte is left
pub done_between : (words : List (List ℕ)) (word : List ℕ) (p : Quoting) (at : ℕ) (left : List ℕ) (total : Result (List (List ℕ)) LexError) → left ≡ [] → p ≡ Between → with_words_before words word (words_from p at left) ≡ total → total ≡ Ok words
unfolding words_from
done_between words word p at left total e k so_far = sym so_far ∙ (rw (e, k) (rw append-nil refl))

pub done_bare : (words : List (List ℕ)) (word : List ℕ) (p : Quoting) (at : ℕ) (left : List ℕ) (total : Result (List (List ℕ)) LexError) → left ≡ [] → p ≡ Bare → with_words_before words word (words_from p at left) ≡ total → total ≡ Ok (words ++ word ∷ [])
unfolding words_from
done_bare words word p at left total e k so_far = sym so_far ∙ (rw (e, k) (rw append-nil refl))

pub done_quoted : (words : List (List ℕ)) (word : List ℕ) (p : Quoting) (at : ℕ) (left : List ℕ) (q o : ℕ) (total : Result (List (List ℕ)) LexError) → left ≡ [] → p ≡ Quoted q o → with_words_before words word (words_from p at left) ≡ total → total ≡ Err (OpenQuote o)
unfolding words_from
done_quoted words word p at left q o total e k so_far = sym so_far ∙ (rw (e, k) refl)
