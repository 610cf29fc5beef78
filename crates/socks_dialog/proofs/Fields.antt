-- Fields at the front of bytes, whatever bytes follow them.
use Rattle.std.proofs.Common.{◌≡◌, ◌⊎◌, inl, inr, ◌∙◌, refl, sym, ap, arith, ℕ, ◌+◌, ◌-◌, ◌*◌, ◌<◌, ◌≤◌, min, List, [], ◌∷◌, ◌++◌, length, get_or, drop, take, Option, Some, None, Bool, true, false, length-append, length-take}
use Rattle.std.specs.Prelude.{nat_le, nat_lt, ◌==◌, position}
use Rattle.std.specs.List.{position_or_len}
use Rattle.std.proofs.Math.Seq.{take-append_seam, drop-append_seam}
use Rattle.std.proofs.lemmas.Bool.{leb-true, le-leb, lt-ltb}
use Rattle.std.proofs.lemmas.Bool.Decides.{nat_tests}
use Rattle.std.proofs.lemmas.Grind.{common_steps}
use Rattle.std.proofs.lemmas.List.{take-append-drop, take-append-le, get_or_append_left, get_or-take, take_min, take_rest}
use Rattle.std.proofs.lemmas.List.Sums.{position_or_len_is}
use Rattle.std.proofs.lemmas.List.Quantifiers.{position-Some}
use Rattle.ssh_fields.specs.Fields.{take_u8, split_at}
use Rattle.socks_dialog.specs.Socks.{take_port, zero_in, text_to, take_text}

-- a field stands at the front of some bytes, of so many bytes at most
pub record Stands (X : Type 0) (g : List ℕ → Option (X × List ℕ)) (n : ℕ) (a : List ℕ) : Type 0 where
  pub x : X
  pub front : List ℕ
  pub rest : List ℕ
  pub whole : a ≡ front ++ rest
  pub reads : (more : List ℕ) → g (front ++ more) ≡ Some (x, more)
  pub fits : length front ≤ n

-- or there are fewer bytes
abbrev pub IsField : (X : Type 0) → (List ℕ → Option (X × List ℕ)) → ℕ → Type 0
IsField X g n = (a : List ℕ) → ((g a ≡ None) × (length a < n)) ⊎ Stands X g n a

pub u8-field : IsField ℕ take_u8 1
u8-field [] = inl (refl, omega arith)
u8-field (b ∷ rest) = inr (record {
  x = b;
  front = b ∷ [];
  rest = rest;
  whole = refl;
  reads = λ more. refl;
  fits = omega arith;
})

pub port-field : IsField ℕ take_port 2
port-field [] = inl (refl, omega arith)
port-field (a ∷ []) = inl (refl, omega arith)
port-field (a ∷ b ∷ rest) = inr (record {
  x = a * 256 + b;
  front = a ∷ b ∷ [];
  rest = rest;
  whole = refl;
  reads = λ more. refl;
  fits = omega arith;
})

-- ---- so many bytes

pub split_front : (n : ℕ) (front more : List ℕ) → length front ≡ n
    → split_at n (front ++ more) ≡ Some (front, more)
split_front n front more e =
    let there : nat_le n (length (front ++ more)) ≡ true =
    le-leb n (length (front ++ more)) (omega (arith, length-append front more)) in
    let first : take n (front ++ more) ≡ front = ap (λ k. take k (front ++ more)) (sym e) ∙ take-append_seam front more in
    let last : drop n (front ++ more) ≡ more = ap (λ k. drop k (front ++ more)) (sym e) ∙ drop-append_seam front more in
    rw (split_at, there, first, last) refl

pub bytes-field : (n : ℕ) → IsField (List ℕ) (split_at n) n
bytes-field n a = by_case (nat_le n (length a)) refl
  where
    by_case : (b : Bool) → nat_le n (length a) ≡ b
        → ((split_at n a ≡ None) × (length a < n)) ⊎ Stands (List ℕ) (split_at n) n a
    by_case true e =
        let fits : length (take n a) ≡ n = grind (arith, length-take n a, leb-true n (length a) e) in
        inr (record {
          x = take n a;
          front = take n a;
          rest = drop n a;
          whole = sym (take-append-drop n a);
          reads = λ more. split_front n (take n a) more fits;
          fits = omega arith;
        })
    by_case false e = inl (rw (split_at, e) refl, grind (arith, nat_tests, e))

-- ---- texts

-- the first place stays, whatever follows it
same_place : (p : ℕ → Bool) (xs ys : List ℕ) (n : ℕ) → position p xs ≡ Some n → n < length ys
    → ((k : ℕ) → k ≤ n → get_or ys k 0 ≡ get_or xs k 0) → position p ys ≡ Some n
same_place p xs ys n e l same =
    let at = position-Some p xs n 0 e in
    let place : position_or_len p ys ≡ n =
    position_or_len_is p ys n 0 (omega arith)
    (λ k lt. ap p (same k (omega arith)) ∙ at.2 k lt)
    (λ lt. ap p (same n (omega arith)) ∙ at.1) in
    let there : nat_lt n (length ys) ≡ true = lt-ltb n (length ys) l in
    rw (place, there) refl

pub zero_stays : (a more : List ℕ) (n : ℕ) → zero_in (take 256 a) ≡ Some n
    → zero_in (take 256 (take (n + 1) a ++ more)) ≡ Some n
zero_stays a more n e =
    let at = position-Some (λ (byte : ℕ). byte == 0) (take 256 a) n 0 e in
    let inside : n < length (take 256 a) = at.0 in
    let short : n < 256 = omega (arith, length-take 256 a) in
    let within : n < length a = omega (arith, length-take 256 a) in
    let size : length (take (n + 1) a) ≡ n + 1 = grind (arith, length-take (n + 1) a) in
    let sizes : length (take (n + 1) a ++ more) ≡ (n + 1) + length more = length-append (take (n + 1) a) more ∙ ap (λ k. k + length more) size in
    let room : n < length (take 256 (take (n + 1) a ++ more)) = omega (arith, length-take 256 (take (n + 1) a ++ more)) in
    same_place (λ (byte : ℕ). byte == 0) (take 256 a) (take 256 (take (n + 1) a ++ more)) n e room
    (λ k le.
    get_or-take 256 (take (n + 1) a ++ more) k 0 (omega arith)
    ∙ get_or_append_left (take (n + 1) a) more 0 k (omega arith)
    ∙ get_or-take (n + 1) a k 0 (omega arith)
    ∙ sym (get_or-take 256 a k 0 (omega arith)))

-- the text before a zero byte, whatever follows that
whole_text : (front more : List ℕ) (n : ℕ) → length front ≡ n + 1
    → text_to (Some n) (front ++ more) ≡ Some (Some (take n front), more)
whole_text front more n size =
    let before : take n (front ++ more) ≡ take n front = take-append-le n front more (omega arith) in
    let after : drop (n + 1) (front ++ more) ≡ more = ap (λ k. drop k (front ++ more)) (sym size) ∙ drop-append_seam front more in
    rw (before, after) refl

take_shorter : (n : ℕ) (a : List ℕ) → take n (take (n + 1) a) ≡ take n a
take_shorter n a = grind (arith, common_steps)

-- 256 bytes without a zero byte, whatever follows them
long_text : (front more : List ℕ) → length front ≡ 256 → zero_in front ≡ None
    → take_text (front ++ more) ≡ Some (None, more)
long_text front more size none =
    let first : take 256 (front ++ more) ≡ front = ap (λ k. take k (front ++ more)) (sym size) ∙ take-append_seam front more in
    let after : drop 256 (front ++ more) ≡ more = ap (λ k. drop k (front ++ more)) (sym size) ∙ drop-append_seam front more in
    let there : nat_le 256 (length (front ++ more)) ≡ true = le-leb 256 (length (front ++ more)) (omega (arith, length-append front more)) in
    rw (take_text, first, none) (rw (text_to, there, after) refl)

pub text-field : IsField (Option (List ℕ)) take_text 256
text-field a = by_case (zero_in (take 256 a)) refl (nat_le 256 (length a)) refl
  where
    by_case : (o : Option ℕ) → zero_in (take 256 a) ≡ o → (b : Bool) → nat_le 256 (length a) ≡ b
        → ((take_text a ≡ None) × (length a < 256)) ⊎ Stands (Option (List ℕ)) take_text 256 a
    by_case (Some n) e b there =
        let at = position-Some (λ (byte : ℕ). byte == 0) (take 256 a) n 0 e in
        let lt : n < length (take 256 a) = at.0 in
        let short : n < 256 = omega (arith, length-take 256 a) in
        let within : n < length a = omega (arith, length-take 256 a) in
        let size : length (take (n + 1) a) ≡ n + 1 = grind (arith, length-take (n + 1) a) in
        inr (record {
          x = Some (take n a);
          front = take (n + 1) a;
          rest = drop (n + 1) a;
          whole = sym (take-append-drop (n + 1) a);
          reads = λ more. ap (λ o. text_to o (take (n + 1) a ++ more)) (zero_stays a more n e)
              ∙ whole_text (take (n + 1) a) more n size
              ∙ ap (λ t. Some (Some t, more)) (take_shorter n a);
          fits = omega arith;
        })
    by_case None e true there =
        let long : 256 ≤ length a = leb-true 256 (length a) there in
        let size : length (take 256 a) ≡ 256 = grind (arith, length-take 256 a) in
        inr (record {
          x = None;
          front = take 256 a;
          rest = drop 256 a;
          whole = sym (take-append-drop 256 a);
          reads = λ more. long_text (take 256 a) more size e;
          fits = omega arith;
        })
    by_case None e false there = inl (rw (take_text, e) (rw (text_to, there) refl), grind (arith, nat_tests, there))

-- ---- as the code finds a text

-- in the front of the bytes, where it is shorter than the longest text
pub zero_found : (bytes : List ℕ) (size : ℕ) (o : Option ℕ) → size ≡ min 256 (length bytes)
    → o ≡ zero_in (take size bytes) → take_text bytes ≡ text_to o bytes
zero_found bytes size o least e =
    let same : take size bytes ≡ take 256 bytes = ap (λ n. take n bytes) least ∙ take_min 256 bytes in
    ap (λ o. text_to o bytes) (ap zero_in (sym same) ∙ sym e)

pub text_found : (bytes : List ℕ) (n : ℕ)
    → text_to (Some n) bytes ≡ Some (Some (take n bytes), take (length bytes - (n + 1)) (drop (n + 1) bytes))
text_found bytes n = ap (λ rest. Some (Some (take n bytes), rest)) (sym (take_rest bytes (n + 1)))

pub text_open : (bytes : List ℕ) → length bytes < 256 → text_to None bytes ≡ None
text_open bytes l =
    let short : nat_le 256 (length bytes) ≡ false = grind (arith, nat_tests) in rw (text_to, short) refl

pub text_too_long : (bytes : List ℕ) → 256 ≤ length bytes
    → text_to None bytes ≡ Some (None, take (length bytes - 256) (drop 256 bytes))
text_too_long bytes l =
    let long : nat_le 256 (length bytes) ≡ true = le-leb 256 (length bytes) l in
    rw (text_to, long) (ap (λ (rest : List ℕ). Some (None, rest)) (sym (take_rest bytes 256)))

pub text_short : (bytes : List ℕ) (size n : ℕ) → size ≡ min 256 (length bytes)
    → Some n ≡ zero_in (take size bytes) → length (take n bytes) < 256
text_short bytes size n least e =
    let inside : n < length (take size bytes) = (position-Some (λ (byte : ℕ). byte == 0) (take size bytes) n 0 (sym e)).0 in
    omega (arith, length-take size bytes, length-take n bytes)
