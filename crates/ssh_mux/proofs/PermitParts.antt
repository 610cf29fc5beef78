-- Numbers, ports and parted texts, as words have them and as a list reads them.
use Rattle.std.proofs.Common.{◌≡◌, ℕ, ◌+◌, ◌-◌, ◌*◌, ◌<◌, Bool, true, false, [], ◌∷◌, ◌++◌, Option, Some, None, refl, sym, ap, ◌∙◌, subst, arith}
use Rattle.std.specs.Prelude.{not, ◌&&◌, ◌||◌, ◌==◌, if◌then◌else◌, nat_le, bytes_eq, codes, is_some, is_none}
use Rattle.std.specs.Char.{is_ascii_digit}
use Rattle.std.specs.List.{list_all}
use Rattle.std.proofs.lemmas.Bool.Decides.{nat_tests}
use Rattle.std.proofs.lemmas.Slice.Eq.{bytes_eq-Decides}
use Rattle.std.proofs.Math.Dec.{leb-zero}
use Rattle.conf_rules.specs.Texts.{Bytes, split_at_last, split_last}
use Rattle.conf_rules.specs.Numbers.{digits_from, number_within}
use Rattle.conf_rules.specs.Forwardings.{before_bracket}
use Rattle.conf_rules.specs.Permissions.{is_entry_port}
use Rattle.mux_history.specs.Policy.{digits, read_number, read_port, before_last}
use Rattle.mux_history.proofs.Bools.{same-number, self}
use Rattle.mux_history.proofs.Sends.{and-left, and-right}

-- ---- numbers

-- a digit in front, by whether it is one
one-digit : (t all low : Bool) (number : Option ℕ) (n : ℕ) → number ≡ (if all && low then Some n else None)
    → (elim t as (λ _. Option ℕ) [ true ↦ number | false ↦ None ]) ≡ (if (t && all) && low then Some n else None)
one-digit true all low number n same = same
one-digit false all low number n same = refl

-- a number, by whether it is in the range
in-range : (t : Bool) (n : ℕ) → (elim t as (λ _. Option ℕ) [ true ↦ Some n | false ↦ None ]) ≡ (if t then Some n else None)
in-range true n = refl
in-range false n = refl

-- the digits after a number
digits-same : (n : ℕ) (ds : Bytes) → digits n ds ≡ (if list_all is_ascii_digit ds && nat_le (digits_from n ds) 65535 then Some (digits_from n ds) else None)
digits-same n [] = in-range (nat_le n 65535) n
digits-same n (d ∷ ds) = one-digit (nat_le 48 d && nat_le d 57) (list_all is_ascii_digit ds) (nat_le (digits_from (n * 10 + (d - 48)) ds) 65535) (digits (n * 10 + (d - 48)) ds) (digits_from (n * 10 + (d - 48)) ds) (digits-same (n * 10 + (d - 48)) ds)

-- a number is read alike
number-same : (text : Bytes) → read_number text ≡ number_within 0 65535 text
number-same [] = refl
number-same (d ∷ ds) = digits-same 0 (d ∷ ds)
    ∙ ap (λ low. if list_all is_ascii_digit (d ∷ ds) && (low && nat_le (digits_from 0 (d ∷ ds)) 65535) then Some (digits_from 0 (d ∷ ds)) else None) (sym (leb-zero (digits_from 0 (d ∷ ds))))

-- a port, by whether it is a star
port-by : (star : Bool) (number : Option ℕ) → (star || not (is_none number)) ≡ is_some (elim star as (λ _. Option (Option ℕ)) [ true ↦ Some None | false ↦ elim number [ None ↦ None | Some n ↦ Some (Some n) ] ])
port-by true number = refl
port-by false None = refl
port-by false (Some n) = refl

-- a port is read where a word may have it
pub port-same : (text : Bytes) → is_entry_port text ≡ is_some (read_port text)
port-same text = ap (λ n. bytes_eq text (codes "*") || not (is_none n)) (sym (number-same text)) ∙ port-by (bytes_eq text (codes "*")) (read_number text)

-- ---- the last byte of a kind

last-by : (t : Bool) (b : ℕ) (bs : Bytes) (rest : Option (Bytes × Bytes)) →
    (elim rest as (λ _. Option (Bytes × Bytes)) [ Some p ↦ Some (b ∷ p.0, p.1) | None ↦ if t then Some ([], bs) else None ])
    ≡ (elim rest as (λ _. Option (Bytes × Bytes)) [ Some p ↦ Some (b ∷ p.0, p.1) | None ↦ elim t [ true ↦ Some ([], bs) | false ↦ None ] ])
last-by t b bs (Some p) = refl
last-by true b bs None = refl
last-by false b bs None = refl

-- a text is parted alike
pub last-same : (c : ℕ) (text : Bytes) → split_at_last c text ≡ before_last c text
last-same c [] = refl
last-same c (b ∷ bs) = last-by (b == c) b bs (split_at_last c bs)
    ∙ ap (λ rest. elim rest as (λ _. Option (Bytes × Bytes)) [ Some p ↦ Some (b ∷ p.0, p.1) | None ↦ elim (b == c) [ true ↦ Some ([], bs) | false ↦ None ] ]) (last-same c bs)

-- the parts make the text
pub parts-make : (c : ℕ) (text : Bytes) (p : Bytes × Bytes) → before_last c text ≡ Some p → text ≡ p.0 ++ c ∷ p.1
parts-make c [] p e = absurd cc
parts-make c (b ∷ bs) p e = by_case (parts-make c bs) (before_last c bs) refl (b == c) refl e
  where
    by_case : ((q : Bytes × Bytes) → before_last c bs ≡ Some q → bs ≡ q.0 ++ c ∷ q.1) → (o : Option (Bytes × Bytes)) → before_last c bs ≡ o → (t : Bool) → (b == c) ≡ t
        → (elim o as (λ _. Option (Bytes × Bytes)) [ Some q ↦ Some (b ∷ q.0, q.1) | None ↦ elim t [ true ↦ Some ([], bs) | false ↦ None ] ]) ≡ Some p → b ∷ bs ≡ p.0 ++ c ∷ p.1
    by_case ih (Some q) parts t here e = let same : (b ∷ q.0, q.1) ≡ p = cc in subst (λ r. b ∷ bs ≡ r.0 ++ c ∷ r.1) same (ap (λ l. b ∷ l) (ih q parts))
    by_case ih None parts true here e = let same : ([], bs) ≡ p = cc in subst (λ r. b ∷ bs ≡ r.0 ++ c ∷ r.1) same (ap (λ x. x ∷ bs) (same-number b c here))
    by_case ih None parts false here e = absurd cc

-- a byte after which there is none more parts the text
pub parts-here : (c : ℕ) (xs rest : Bytes) → before_last c rest ≡ None → before_last c (xs ++ c ∷ rest) ≡ Some (xs, rest)
parts-here c [] rest none = rw (none, self c) refl
parts-here c (x ∷ xs) rest none = rw (parts-here c xs rest none) refl

-- a digit is below
not-digit : (b c : ℕ) → 57 < c → is_ascii_digit b ≡ true → (b == c) ≡ false
not-digit b c above digit = let small = and-right (nat_le 48 b) (nat_le b 57) digit in grind (arith, nat_tests)

none-of-digits : (c : ℕ) → 57 < c → (text : Bytes) → list_all is_ascii_digit text ≡ true → before_last c text ≡ None
none-of-digits c above [] all = refl
none-of-digits c above (b ∷ bs) all =
    let other = not-digit b c above (and-left (is_ascii_digit b) (list_all is_ascii_digit bs) all) in
    rw (none-of-digits c above bs (and-right (is_ascii_digit b) (list_all is_ascii_digit bs) all), other) refl

number-digits : (text : Bytes) → not (is_none (number_within 0 65535 text)) ≡ true → list_all is_ascii_digit text ≡ true
number-digits [] some = refl
number-digits (d ∷ ds) some = by_case (list_all is_ascii_digit (d ∷ ds)) some
  where
    by_case : (all : Bool) → not (is_none (if all && (nat_le 0 (digits_from 0 (d ∷ ds)) && nat_le (digits_from 0 (d ∷ ds)) 65535) then Some (digits_from 0 (d ∷ ds)) else None)) ≡ true → all ≡ true
    by_case true some = refl
    by_case false some = absurd cc

star-none : (c : ℕ) → 57 < c → before_last c (42 ∷ []) ≡ None
star-none c above = let other : (42 == c) ≡ false = grind (arith, nat_tests) in rw (other, before_last) refl

-- no port has a byte above the digits
pub port-none : (c : ℕ) → 57 < c → (text : Bytes) → is_entry_port text ≡ true → before_last c text ≡ None
port-none c above text port = by_case (bytes_eq text (codes "*")) refl port
  where
    by_case : (star : Bool) → bytes_eq text (codes "*") ≡ star → (star || not (is_none (number_within 0 65535 text))) ≡ true → before_last c text ≡ None
    by_case true e port = ap (before_last c) ((bytes_eq-Decides text (codes "*")).0 e) ∙ star-none c above
    by_case false e port = none-of-digits c above text (number-digits text port)

-- ---- the closing bracket

-- the last byte stands after the others
last-is : (text : Bytes) (p : Bytes × ℕ) → split_last text ≡ Some p → text ≡ p.0 ++ p.1 ∷ []
last-is [] p e = absurd cc
last-is (b ∷ bs) p e = by_case (last-is bs) (split_last bs) refl e
  where
    empty : (xs : Bytes) → split_last xs ≡ None → xs ≡ []
    empty [] none = refl
    empty (x ∷ xs) none = absurd (found (split_last xs) none)
      where
        found : (o : Option (Bytes × ℕ)) → (elim o as (λ _. Option (Bytes × ℕ)) [ Some q ↦ Some (x ∷ q.0, q.1) | None ↦ Some ([], x) ]) ≡ None → ⊥
        found (Some q) e = cc
        found None e = cc

    by_case : ((q : Bytes × ℕ) → split_last bs ≡ Some q → bs ≡ q.0 ++ q.1 ∷ []) → (o : Option (Bytes × ℕ)) → split_last bs ≡ o
        → (elim o as (λ _. Option (Bytes × ℕ)) [ Some q ↦ Some (b ∷ q.0, q.1) | None ↦ Some ([], b) ]) ≡ Some p → b ∷ bs ≡ p.0 ++ p.1 ∷ []
    by_case ih (Some q) last e = let same : (b ∷ q.0, q.1) ≡ p = cc in subst (λ r. b ∷ bs ≡ r.0 ++ r.1 ∷ []) same (ap (λ l. b ∷ l) (ih q last))
    by_case ih None last e = let same : ([], b) ≡ p = cc in subst (λ r. b ∷ bs ≡ r.0 ++ r.1 ∷ []) same (ap (λ l. b ∷ l) (empty bs last))

pub last-here : (xs : Bytes) (b : ℕ) → split_last (xs ++ b ∷ []) ≡ Some (xs, b)
last-here [] b = refl
last-here (x ∷ xs) b = rw (last-here xs b) refl

-- what stands before a closing bracket
pub closed-is : (text host : Bytes) → before_bracket (split_last text) ≡ Some host → text ≡ host ++ 93 ∷ []
closed-is text host e = by_case (split_last text) refl e
  where
    by_end : (p : Bytes × ℕ) → split_last text ≡ Some p → (t : Bool) → (p.1 == 93) ≡ t → (if t then Some p.0 else None) ≡ Some host → text ≡ host ++ 93 ∷ []
    by_end p last true here e =
        let same : p.0 ≡ host = cc in
        last-is text p last ∙ (ap (λ b. p.0 ++ b ∷ []) (same-number p.1 93 here) ∙ ap (λ h. h ++ 93 ∷ []) same)
    by_end p last false here e = absurd cc

    by_case : (o : Option (Bytes × ℕ)) → split_last text ≡ o → before_bracket o ≡ Some host → text ≡ host ++ 93 ∷ []
    by_case None last e = absurd cc
    by_case (Some p) last e = by_end p last (p.1 == 93) refl e
