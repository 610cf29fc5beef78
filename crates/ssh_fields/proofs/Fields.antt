-- What is spelled reads back, what reads was spelled so, and bytes after a field change nothing in
-- it.
use Rattle.std.proofs.Common.{◌≡◌, ℕ, zero, suc, ◌+◌, ◌/◌, ◌%◌, ◌^◌, ◌<◌, ◌≤◌, List, [], ◌∷◌, ◌++◌, length, get_or, take, drop, Option, Some, None, Bool, true, false, refl, sym, ◌∙◌, ap, subst, arith, append_assoc, length-append, length-take, length-drop}
use Rattle.std.specs.Prelude.{nat_le}
use Rattle.std.proofs.lemmas.Nat.{from_be_bytes-to_be_bytes_4, be_bytes_4}
use Rattle.std.proofs.lemmas.List.{take_at, drop_at, take-append-drop}
use Rattle.ssh_fields.specs.Fields.{AreBytes, u32, str, of_four, take_u32, split_at, take_str, u32_at, with_u32}

-- the parts of what a reader gives
pub value_and_rest : {A : Type 0} (p q : A × List ℕ) → Some p ≡ Some q → (p.0 ≡ q.0) × (p.1 ≡ q.1)
value_and_rest {A} p q e =
    let pair : p ≡ q = cc in
    (ap (λ (p : A × List ℕ). p.0) pair, ap (λ (p : A × List ℕ). p.1) pair)

-- ---- bytes

pub AreBytes-of : (bytes : List ℕ) → ((i : ℕ) → i < length bytes → get_or bytes i 0 < 256) → AreBytes bytes
AreBytes-of [] h = tt
AreBytes-of (b ∷ bytes) h = (h 0 (omega arith), AreBytes-of bytes (λ i lt. h (suc i) (omega arith)))

pub AreBytes-append : (a b : List ℕ) → AreBytes a → AreBytes b → AreBytes (a ++ b)
AreBytes-append [] b x y = y
AreBytes-append (c ∷ a) b x y = (x.0, AreBytes-append a b x.1 y)

pub AreBytes-front : (a b : List ℕ) → AreBytes (a ++ b) → AreBytes a
AreBytes-front [] b h = tt
AreBytes-front (c ∷ a) b h = (h.0, AreBytes-front a b h.1)

pub AreBytes-behind : (a b : List ℕ) → AreBytes (a ++ b) → AreBytes b
AreBytes-behind [] b h = h
AreBytes-behind (c ∷ a) b h = AreBytes-behind a b h.1

pub AreBytes-take : (n : ℕ) (bytes : List ℕ) → AreBytes bytes → AreBytes (take n bytes)
AreBytes-take n bytes h = AreBytes-front (take n bytes) (drop n bytes) (rw take-append-drop h)

pub AreBytes-drop : (n : ℕ) (bytes : List ℕ) → AreBytes bytes → AreBytes (drop n bytes)
AreBytes-drop n bytes h = AreBytes-behind (take n bytes) (drop n bytes) (rw take-append-drop h)

-- ---- numbers

pub of_four-u32 : (n : ℕ) → n < 2 ^ 32 → of_four ((n / 16777216) % 256) ((n / 65536) % 256) ((n / 256) % 256) (n % 256) ≡ n
of_four-u32 n fits = from_be_bytes-to_be_bytes_4 n fits

pub u32-of_four : (a b c d : ℕ) → a < 256 → b < 256 → c < 256 → d < 256 → u32 (of_four a b c d) ≡ a ∷ b ∷ c ∷ d ∷ []
u32-of_four a b c d a' b' c' d' = be_bytes_4 (a ∷ b ∷ c ∷ d ∷ []) (of_four a b c d) refl below refl
  where
    below : (i : ℕ) → get_or (a ∷ b ∷ c ∷ d ∷ []) i 0 < 256
    below zero = a'
    below (suc zero) = b'
    below (suc (suc zero)) = c'
    below (suc (suc (suc zero))) = d'
    below (suc (suc (suc (suc i)))) = omega arith

pub of_four-fits : (a b c d : ℕ) → a < 256 → b < 256 → c < 256 → d < 256 → of_four a b c d < 2 ^ 32
of_four-fits a b c d a' b' c' d' = omega arith

pub take_u32-u32 : (n : ℕ) (rest : List ℕ) → n < 2 ^ 32 → take_u32 (u32 n ++ rest) ≡ Some (n, rest)
take_u32-u32 n rest fits = ap (λ m. Some (m, rest)) (of_four-u32 n fits)

pub take_u32-is : (bytes : List ℕ) (n : ℕ) (rest : List ℕ) → AreBytes bytes → take_u32 bytes ≡ Some (n, rest) → (bytes ≡ u32 n ++ rest) × (n < 2 ^ 32)
take_u32-is [] n rest h e = absurd cc
take_u32-is (a ∷ []) n rest h e = absurd cc
take_u32-is (a ∷ b ∷ []) n rest h e = absurd cc
take_u32-is (a ∷ b ∷ c ∷ []) n rest h e = absurd cc
take_u32-is (a ∷ b ∷ c ∷ d ∷ more) n rest h e =
    let number : of_four a b c d ≡ n = (value_and_rest (of_four a b c d, more) (n, rest) e).0 in
    let behind : more ≡ rest = (value_and_rest (of_four a b c d, more) (n, rest) e).1 in
    let spelled : u32 (of_four a b c d) ≡ a ∷ b ∷ c ∷ d ∷ [] = u32-of_four a b c d h.0 h.1.0 h.1.1.0 h.1.1.1.0 in
    (sym (ap (λ m. u32 m ++ rest) (sym number) ∙ (ap (λ x. x ++ rest) spelled ∙ ap (λ x. a ∷ b ∷ c ∷ d ∷ x) (sym behind))), subst (λ m. m < 2 ^ 32) number (of_four-fits a b c d h.0 h.1.0 h.1.1.0 h.1.1.1.0))

-- ---- strings

pub split_at-append : (s rest : List ℕ) → split_at (length s) (s ++ rest) ≡ Some (s, rest)
split_at-append s rest =
    let long : nat_le (length s) (length (s ++ rest)) ≡ true = grind (arith, length-append s rest) in
    ap (λ t. elim t as (λ _. Option (List ℕ × List ℕ)) [ true ↦ Some (take (length s) (s ++ rest), drop (length s) (s ++ rest)) | false ↦ None ]) long
    ∙ rw (take_at s rest (length s) refl, drop_at s rest (length s) refl) refl

pub split_at-is : (n : ℕ) (bytes s rest : List ℕ) → split_at n bytes ≡ Some (s, rest) → (bytes ≡ s ++ rest) × (length s ≡ n)
split_at-is n bytes s rest e = by_case (nat_le n (length bytes)) refl e
  where
    by_case : (t : Bool) → nat_le n (length bytes) ≡ t → (elim t as (λ _. Option (List ℕ × List ℕ)) [ true ↦ Some (take n bytes, drop n bytes) | false ↦ None ]) ≡ Some (s, rest) → (bytes ≡ s ++ rest) × (length s ≡ n)
    by_case true l e =
        let le : n ≤ length bytes = grind arith in
        let front : take n bytes ≡ s = (value_and_rest (take n bytes, drop n bytes) (s, rest) e).0 in
        let behind : drop n bytes ≡ rest = (value_and_rest (take n bytes, drop n bytes) (s, rest) e).1 in
        let size : length (take n bytes) ≡ n = omega (arith, length-take n bytes) in
        (rw (← front, ← behind) (sym (take-append-drop n bytes)), rw (← front) size)
    by_case false l e = absurd cc

pub take_str-str : (s rest : List ℕ) → length s < 2 ^ 32 → take_str (str s ++ rest) ≡ Some (s, rest)
take_str-str s rest fits = ap (λ m. split_at m (s ++ rest)) (of_four-u32 (length s) fits) ∙ split_at-append s rest

pub take_str-is : (bytes s rest : List ℕ) → AreBytes bytes → take_str bytes ≡ Some (s, rest) → (bytes ≡ str s ++ rest) × (length s < 2 ^ 32)
take_str-is bytes s rest h e = by_case (take_u32 bytes) refl e
  where
    by_case : (o : Option (ℕ × List ℕ)) → take_u32 bytes ≡ o → (elim o as (λ _. Option (List ℕ × List ℕ)) [ None ↦ None | Some p ↦ split_at p.0 p.1 ]) ≡ Some (s, rest) → (bytes ≡ str s ++ rest) × (length s < 2 ^ 32)
    by_case None t e = absurd cc
    by_case (Some p) t e =
        let number : (bytes ≡ u32 p.0 ++ p.1) × (p.0 < 2 ^ 32) = take_u32-is bytes p.0 p.1 h t in
        let text : (p.1 ≡ s ++ rest) × (length s ≡ p.0) = split_at-is p.0 p.1 s rest e in
        (number.0 ∙ (ap (λ x. u32 p.0 ++ x) text.0 ∙ ap (λ n. u32 n ++ (s ++ rest)) (sym text.1)), omega (arith, number.1, text.1))

-- ---- numbers in place

pub length-with_u32 : (bytes : List ℕ) (at n : ℕ) → at + 4 ≤ length bytes → length (with_u32 bytes at n) ≡ length bytes
length-with_u32 bytes at n fits = omega (arith, length-append (take at bytes) (u32 n ++ drop (at + 4) bytes), length-take at bytes, length-drop (at + 4) bytes)

pub drop-with_u32 : (bytes : List ℕ) (at n : ℕ) → at + 4 ≤ length bytes → drop at (with_u32 bytes at n) ≡ u32 n ++ drop (at + 4) bytes
drop-with_u32 bytes at n fits = drop_at (take at bytes) (u32 n ++ drop (at + 4) bytes) at (omega (arith, length-take at bytes))

pub u32_at-with_u32 : (bytes : List ℕ) (at n : ℕ) → at + 4 ≤ length bytes → n < 2 ^ 32 → u32_at at (with_u32 bytes at n) ≡ n
u32_at-with_u32 bytes at n fits small = ap (λ b. elim (take_u32 b) as (λ _. ℕ) [ None ↦ 0 | Some p ↦ p.0 ]) (drop-with_u32 bytes at n fits) ∙ of_four-u32 n small

pub take-with_u32 : (bytes : List ℕ) (at n : ℕ) → at + 4 ≤ length bytes → take at (with_u32 bytes at n) ≡ take at bytes
take-with_u32 bytes at n fits = take_at (take at bytes) (u32 n ++ drop (at + 4) bytes) at (omega (arith, length-take at bytes))

pub drop-behind-with_u32 : (bytes : List ℕ) (at n : ℕ) → at + 4 ≤ length bytes → drop (at + 4) (with_u32 bytes at n) ≡ drop (at + 4) bytes
drop-behind-with_u32 bytes at n fits =
    ap (drop (at + 4)) (sym (append_assoc (take at bytes) (u32 n) (drop (at + 4) bytes)))
    ∙ drop_at (take at bytes ++ u32 n) (drop (at + 4) bytes) (at + 4) (omega (arith, length-append (take at bytes) (u32 n), length-take at bytes))
