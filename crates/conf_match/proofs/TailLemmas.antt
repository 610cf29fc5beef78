-- A pattern whose last bytes have no closing bracket, and what is left of it.
use Rattle.std.proofs.Common.{◌≡◌, ℕ, zero, suc, ◌+◌, ◌-◌, ◌≤◌, Bool, true, false, eqb, ◌||◌, [], ◌∷◌, length, drop, drop-drop, None, refl, sym, ap, ◌∙◌, subst, arith}
use Rattle.std.proofs.lemmas.List.{length-drop}
use Rattle.conf_rules.specs.Texts.{Bytes, has, split_at_first, with_front}
use Rattle.conf_rules.specs.Globs.{class_of}
use Rattle.conf_match.specs.declared.pieces.Syntax.{Syntax}
use Rattle.conf_match.specs.declared.pieces.Syntax.TheVariants.{Pattern, Glob}
use Rattle.conf_match.specs.Pieces.{NoneInLast, PatternFits}

or_left : (a b : Bool) → (a || b) ≡ false → a ≡ false
or_left true b e = e
or_left false b e = refl

or_right : (a b : Bool) → (a || b) ≡ false → b ≡ false
or_right true b e = absurd cc
or_right false b e = e

-- what is left has none either
none_further : (j : ℕ) (xs : Bytes) → has 93 xs ≡ false → has 93 (drop j xs) ≡ false
none_further zero xs e = e
none_further (suc j) [] e = refl
none_further (suc j) (x ∷ xs) e = none_further j xs (or_right (eqb x 93) (has 93 xs) e)

pub none_behind : (i : ℕ) (pattern : Bytes) → i ≤ length pattern → has 93 (drop i pattern) ≡ false → NoneInLast (length pattern - i) pattern
none_behind i pattern within none = λ k far.
    let past : i + (k - i) ≡ k = omega (arith, within, far) in
    ap (λ n. has 93 (drop n pattern)) (sym past) ∙ ap (has 93) (sym (drop-drop (k - i) i pattern)) ∙ none_further (k - i) (drop i pattern) none

pub none_anywhere : (i : ℕ) (pattern : Bytes) → i ≤ 0 → has 93 (drop i pattern) ≡ false → NoneInLast (length pattern) pattern
none_anywhere i pattern first none = λ k far.
    let start : i ≡ 0 = omega (arith, first) in
    none_further k pattern (sym (ap (λ n. has 93 (drop n pattern)) start) ∙ none)

-- what is left of a pattern keeps its last bytes
pub none_left : (more tail : ℕ) (pattern : Bytes) → NoneInLast tail pattern → NoneInLast tail (drop more pattern)
none_left more tail pattern none = λ k far.
    ap (has 93) (drop-drop k more pattern) ∙ none (more + k) (omega (arith, far, length-drop more pattern))

none_next : (tail b : ℕ) (pattern bs : Bytes) → pattern ≡ b ∷ bs → NoneInLast tail pattern → NoneInLast tail bs
none_next tail b pattern bs e none = subst (λ xs. NoneInLast tail (drop 1 xs)) e (none_left 1 tail pattern none)

-- what is left of a pattern is as its syntax says
pub fits_next : (syntax : Syntax) (b : ℕ) (pattern bs : Bytes) → pattern ≡ b ∷ bs → PatternFits syntax pattern → PatternFits syntax bs
fits_next Pattern b pattern bs e fits = tt
fits_next (Glob tail) b pattern bs e fits = none_next tail b pattern bs e fits

pub fits_further : (syntax : Syntax) (more : ℕ) (pattern : Bytes) → PatternFits syntax pattern → PatternFits syntax (drop more pattern)
fits_further Pattern more pattern fits = tt
fits_further (Glob tail) more pattern fits = none_left more tail pattern fits

-- a class that isn't closed
unsplit : (bs : Bytes) → has 93 bs ≡ false → split_at_first 93 bs ≡ None
unsplit [] e = refl
unsplit (b ∷ bs) e = rw (or_left (eqb b 93) (has 93 bs) e) (ap (with_front b) (unsplit bs (or_right (eqb b 93) (has 93 bs) e)))

unclosed : (bytes : Bytes) → has 93 bytes ≡ false → class_of bytes ≡ None
unclosed [] e = refl
unclosed (b ∷ bs) e = rw (unsplit bs (or_right (eqb b 93) (has 93 bs) e), class_of) refl

pub none_closed : (tail : ℕ) (bytes : Bytes) → NoneInLast tail bytes → length bytes ≤ tail → None ≡ class_of bytes
none_closed tail bytes none short = sym (unclosed bytes (none 0 (omega (arith, short))))
