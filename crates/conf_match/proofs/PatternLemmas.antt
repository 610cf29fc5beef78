-- Patterns are those whose pieces have no classes.
use Rattle.std.proofs.Common.{◌≡◌, ℕ, Bool, true, false, eqb, [], ◌∷◌, refl}
use Rattle.std.specs.Prelude.{map}
use Rattle.conf_rules.specs.Texts.{Bytes}
use Rattle.conf_rules.specs.Patterns.{some_suffix, first_taken, matches}
use Rattle.conf_rules.specs.Globs.{One, Same, piece_takes, pieces_take}
use Rattle.conf_match.specs.Pieces.{plain_piece}

some-same : (f g : Bytes → Bool) → ((t : Bytes) → f t ≡ g t) → (t : Bytes) → some_suffix f t ≡ some_suffix g t
some-same f g same [] = same []
some-same f g same (x ∷ xs) = rw (same (x ∷ xs), some-same f g same xs) refl

first-same : (p q : ℕ → Bool) (f g : Bytes → Bool) → ((x : ℕ) → p x ≡ q x) → ((t : Bytes) → f t ≡ g t) → (t : Bytes) → first_taken p f t ≡ first_taken q g t
first-same p q f g byte same [] = refl
first-same p q f g byte same (x ∷ xs) = rw (byte x, same xs) refl

one-more : (c : ℕ) (pattern text : Bytes) (star one : Bool) → eqb c 42 ≡ star → eqb c 63 ≡ one → ((t : Bytes) → matches pattern t ≡ pieces_take (map plain_piece pattern) t) → matches (c ∷ pattern) text ≡ pieces_take (map plain_piece (c ∷ pattern)) text
unfolding matches pieces_take
one-more c pattern text true one s o same = rw s (some-same (matches pattern) (pieces_take (map plain_piece pattern)) same text)
one-more c pattern text false true s o same = rw (s, o) (first-same (λ t. true) (piece_takes One) (matches pattern) (pieces_take (map plain_piece pattern)) (λ x. refl) same text)
one-more c pattern text false false s o same = rw (s, o) (first-same (eqb c) (piece_takes (Same c)) (matches pattern) (pieces_take (map plain_piece pattern)) (λ x. refl) same text)

pub by-pieces : (pattern text : Bytes) → matches pattern text ≡ pieces_take (map plain_piece pattern) text
unfolding matches pieces_take
by-pieces [] text = refl
by-pieces (c ∷ pattern) text = one-more c pattern text (eqb c 42) (eqb c 63) refl refl (by-pieces pattern)
