-- One word of all.
use Rattle.std.proofs.Common.{◌≡◌, ℕ, ◌+◌, ◌<◌, ◌≤◌, List, [], ◌∷◌, ◌++◌, length, get_or, drop, refl, sym, ap, ◌∙◌, append_assoc}
use Rattle.std.proofs.Math.ListN.{drop_of_length-le}
use Rattle.conf_rules.specs.Texts.{Bytes}
use Rattle.conf_rules.specs.Options.{WordStep, NextWord, Free, Ended, ValueOf}
use Rattle.conf_rules.specs.CommandLine.{steps_from}
use Rattle.conf_command.specs.Words.{word_steps, end_steps}
use Rattle.conf_command.proofs.Loops.{split}

-- ---- all words

word-first : (at : ℕ) (next : NextWord) (w : Bytes) (ws : List Bytes) → steps_from at next (w ∷ ws) ≡ (word_steps at next w).steps ++ steps_from (at + 1) (word_steps at next w).next ws
unfolding steps_from
word-first at Free w ws = refl
word-first at Ended w ws = refl
word-first at (ValueOf here takes) w ws = refl

pub one_word : (words : List Bytes) (i at : ℕ) (w : Bytes) (next after : NextWord) (before now total : List WordStep) → i < length words → w ≡ get_or words i w → at ≡ i + 1
    → now ≡ before ++ (word_steps at next w).steps → after ≡ (word_steps at next w).next
    → before ++ steps_from (i + 1) next (drop i words) ≡ total → now ++ steps_from (i + 1 + 1) after (drop (i + 1) words) ≡ total
one_word words i at w next after before now total h e place more then so_far =
    let here : steps_from (i + 1) next (drop i words) ≡ (word_steps at next w).steps ++ steps_from (i + 1 + 1) after (drop (i + 1) words) =
    ap (steps_from (i + 1) next) (split words i w h e) ∙ (word-first (i + 1) next w (drop (i + 1) words)
    ∙ (ap (λ a. (word_steps a next w).steps ++ steps_from (i + 1 + 1) (word_steps a next w).next (drop (i + 1) words)) (sym place)
    ∙ ap (λ n. (word_steps at next w).steps ++ steps_from (i + 1 + 1) n (drop (i + 1) words)) (sym then))) in
    ap (λ l. l ++ steps_from (i + 1 + 1) after (drop (i + 1) words)) more
    ∙ (append_assoc before (word_steps at next w).steps (steps_from (i + 1 + 1) after (drop (i + 1) words)) ∙ (ap (λ l. before ++ l) (sym here) ∙ so_far))

end-first : (at : ℕ) (next : NextWord) → steps_from at next [] ≡ end_steps next
unfolding steps_from
end-first at Free = refl
end-first at Ended = refl
end-first at (ValueOf here takes) = refl

pub no_word : (words : List Bytes) (i at : ℕ) (next : NextWord) (before now total : List WordStep) → length words ≤ i → now ≡ before ++ end_steps next → before ++ steps_from at next (drop i words) ≡ total → now ≡ total
no_word words i at next before now total h more so_far = more ∙ (ap (λ l. before ++ l) (sym (ap (steps_from at next) (drop_of_length-le words h) ∙ end-first at next)) ∙ so_far)
