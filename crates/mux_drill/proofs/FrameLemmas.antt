-- Frames that are written one after the other.
use Rattle.std.proofs.Common.{◌≡◌, ◌∙◌, sym, ap, ℕ, List, ◌++◌, append_assoc}

-- three parts after a text
pub three_parts : (text first second third one two : List ℕ) → one ≡ text ++ first → two ≡ one ++ second
    → two ++ third ≡ text ++ ((first ++ second) ++ third)
three_parts text first second third one two first_is second_is =
    ap (λ t. t ++ third) (second_is ∙ ap (λ t. t ++ second) first_is)
    ∙ append_assoc (text ++ first) second third
    ∙ append_assoc text first (second ++ third)
    ∙ ap (λ t. text ++ t) (sym (append_assoc first second third))
