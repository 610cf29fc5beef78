-- Each request of a client for a forwarding that has no reply has a forwarding of its own: so there
-- are no more of them than forwardings.
use Rattle.std.proofs.Common.{◌≡◌, ℕ, ◌+◌, ◌<◌, ◌≤◌, List, [], ◌∷◌, length, true, false, Bool, refl, ◌∙◌, ap, arith, sym, subst, Option, Some, None}
use Rattle.std.specs.Prelude.{◌==◌, ◌&&◌, ◌||◌, not, is_none}
use Rattle.std.proofs.lemmas.Bool.Decides.{nat_tests}
use Rattle.ssh_grammar.specs.Messages.{Cancel, Forward, Global}
use Rattle.mux_history.specs.Channels.{is_number}
use Rattle.mux_history.specs.Forwardings.{Forwarding, is_request}
use Rattle.mux_history.specs.Requests.{Ask}
use Rattle.mux_history.specs.Rows.{any_of}
use Rattle.mux_history.proofs.Finds.{filter-no, filter-yes}
use Rattle.mux_history.proofs.Sends.{and-left, and-right}
use Rattle.mux_bounds.proofs.Counts.{count, is_on}
use Rattle.mux_bounds.proofs.Weights.{EachOf}

abbrev pub add_if : Bool → ℕ → ℕ
add_if b n = elim b [ true ↦ n + 1 | false ↦ n ]

-- a request for a forwarding, or for its end
abbrev pub is_forward : Global → Bool
is_forward (Forward key) = true
is_forward (Cancel key) = true
is_forward what = false

abbrev pub forwards_in : List Ask → ℕ
forwards_in [] = 0
forwards_in (a ∷ us) = add_if (is_forward a.what) (forwards_in us)

-- the forwarding waits for the reply at this place
abbrev pub covers : ℕ → Forwarding → Bool
covers i f = not f.over && (is_request f i || is_number f.cancel i)

abbrev pub covered : ℕ → List Forwarding → Bool
covered i fs = any_of (covers i) fs

-- each of the requests from this place on that is for a forwarding has one that waits
abbrev pub CoverFrom : ℕ → List Ask → List Forwarding → Type 0
CoverFrom i [] fs = Unit {0}
CoverFrom i (a ∷ us) fs = (is_forward a.what ≡ true → covered i fs ≡ true) × CoverFrom (i + 1) us fs

-- one that is asked has no cancel
abbrev pub Sound : Forwarding → Type 0
Sound f = is_none f.live ≡ true → is_none f.cancel ≡ true

-- ---- it waits for one reply alone

number-of : (o : Option ℕ) (i j : ℕ) → is_number o i ≡ true → is_number o j ≡ true → i ≡ j
number-of None i j a b = cc
number-of (Some m) i j a b = grind (arith, nat_tests)

pub none-number : (o : Option ℕ) (i : ℕ) → is_none o ≡ true → is_number o i ≡ false
none-number None i e = refl
none-number (Some m) i e = cc

same-test : (a i j : ℕ) → (a == i) ≡ true → (a == j) ≡ true → i ≡ j
same-test a i j e f = grind (arith, nat_tests)

pub covers-once : (f : Forwarding) (i j : ℕ) → Sound f → covers i f ≡ true → covers j f ≡ true → i ≡ j
covers-once f i j sound a b = by_case (is_none f.live) refl (is_request f i) refl (is_request f j) refl (is_number f.cancel i) refl (is_number f.cancel j) refl (and-right (not f.over) (is_request f i || is_number f.cancel i) a) (and-right (not f.over) (is_request f j || is_number f.cancel j) b)
  where
    by_case : (l : Bool) → is_none f.live ≡ l → (p : Bool) → is_request f i ≡ p → (q : Bool) → is_request f j ≡ q → (r : Bool) → is_number f.cancel i ≡ r → (s : Bool) → is_number f.cancel j ≡ s → (p || r) ≡ true → (q || s) ≡ true → i ≡ j
    by_case l le true pe true qe r re s se x y = same-test f.request i j (and-left (f.request == i) (is_none f.live) pe) (and-left (f.request == j) (is_none f.live) qe)
    by_case l le false pe false qe true re true se x y = number-of f.cancel i j re se
    by_case l le true pe false qe r re true se x y =
        let none = none-number f.cancel j (sound (and-right (f.request == i) (is_none f.live) pe)) in
        let bad : true ≡ false = sym se ∙ none in absurd (let h = bad in cc)
    by_case l le false pe true qe true re s se x y =
        let none = none-number f.cancel i (sound (and-right (f.request == j) (is_none f.live) qe)) in
        let bad : true ≡ false = sym re ∙ none in absurd (let h = bad in cc)
    by_case l le false pe q qe false re s se x y = cc
    by_case l le p pe false qe r re false se x y = cc

-- ---- so there are no more than forwardings

abbrev hits : ℕ → List Ask → List Forwarding → ℕ
hits i [] fs = 0
hits i (a ∷ us) fs = add_if (covered i fs) (hits (i + 1) us fs)

abbrev one_of : Bool → ℕ
one_of true = 1
one_of false = 0

add-le : (a b : Bool) (m n : ℕ) → (a ≡ true → b ≡ true) → m ≤ n → add_if a m ≤ add_if b n
add-le true true m n implied le = omega (arith, le)
add-le true false m n implied le = let bad = implied refl in absurd (let h = bad in cc)
add-le false true m n implied le = omega (arith, le)
add-le false false m n implied le = le

forwards-hit : (i : ℕ) (us : List Ask) (fs : List Forwarding) → CoverFrom i us fs → forwards_in us ≤ hits i us fs
forwards-hit i [] fs cover = omega arith
forwards-hit i (a ∷ us) fs cover = add-le (is_forward a.what) (covered i fs) (forwards_in us) (hits (i + 1) us fs) cover.0 (forwards-hit (i + 1) us fs cover.1)

hits-or : (a b : Bool) (x y z : ℕ) → x ≤ y + z → add_if (a || b) x ≤ add_if (a || false) y + add_if b z
hits-or true true x y z le = omega (arith, le)
hits-or true false x y z le = omega (arith, le)
hits-or false true x y z le = omega (arith, le)
hits-or false false x y z le = le

hits-split : (i : ℕ) (us : List Ask) (f : Forwarding) (fs : List Forwarding) → hits i us (f ∷ fs) ≤ hits i us (f ∷ []) + hits i us fs
hits-split i [] f fs = omega arith
hits-split i (a ∷ us) f fs = hits-or (covers i f) (covered i fs) (hits (i + 1) us (f ∷ fs)) (hits (i + 1) us (f ∷ [])) (hits (i + 1) us fs) (hits-split (i + 1) us f fs)

-- past its place a forwarding waits for nothing
hits-past : (f : Forwarding) (i j : ℕ) (us : List Ask) → Sound f → covers i f ≡ true → i < j → hits j us (f ∷ []) ≡ 0
hits-past f i j [] sound here lt = refl
hits-past f i j (a ∷ us) sound here lt = by_case (hits-past f i (j + 1) us sound here (omega (arith, lt))) (covers j f) refl
  where
    by_case : hits (j + 1) us (f ∷ []) ≡ 0 → (b : Bool) → covers j f ≡ b → add_if (covers j f || false) (hits (j + 1) us (f ∷ [])) ≡ 0
    by_case ih true e = let same : i ≡ j = covers-once f i j sound here e in absurd (omega (arith, same, lt))
    by_case ih false e = ap (λ b. add_if (b || false) (hits (j + 1) us (f ∷ []))) e ∙ ih

hits-one : (f : Forwarding) (i : ℕ) (us : List Ask) → Sound f → hits i us (f ∷ []) ≤ one_of (is_on f)
hits-one f i [] sound = by_case (is_on f)
  where
    by_case : (b : Bool) → 0 ≤ one_of b
    by_case true = omega arith
    by_case false = omega arith
hits-one f i (a ∷ us) sound = by_case (hits-one f (i + 1) us sound) (covers i f) refl
  where
    by_case : hits (i + 1) us (f ∷ []) ≤ one_of (is_on f) → (b : Bool) → covers i f ≡ b → add_if (covers i f || false) (hits (i + 1) us (f ∷ [])) ≤ one_of (is_on f)
    by_case ih true e =
        let on : one_of (is_on f) ≡ 1 = ap one_of (and-left (not f.over) (is_request f i || is_number f.cancel i) e) in
        let past : hits (i + 1) us (f ∷ []) ≡ 0 = hits-past f i (i + 1) us sound e (omega arith) in
        let one : add_if (covers i f || false) (hits (i + 1) us (f ∷ [])) ≡ hits (i + 1) us (f ∷ []) + 1 = ap (λ b. add_if (b || false) (hits (i + 1) us (f ∷ []))) e in
        omega (arith, on, past, one)
    by_case ih false e = subst (λ b. add_if (b || false) (hits (i + 1) us (f ∷ [])) ≤ one_of (is_on f)) (sym e) ih

hits-none : (i : ℕ) (us : List Ask) → hits i us [] ≡ 0
hits-none i [] = refl
hits-none i (a ∷ us) = hits-none (i + 1) us

hits-few : (i : ℕ) (us : List Ask) (fs : List Forwarding) → EachOf Sound fs → hits i us fs ≤ count fs
hits-few i us [] sound = let e = hits-none i us in omega arith
hits-few i us (f ∷ fs) sound =
    let a = hits-split i us f fs in
    let b = hits-one f i us sound.0 in
    let c = hits-few i us fs sound.1 in
    by_case (is_on f) refl a b c
  where
    by_case : (b : Bool) → is_on f ≡ b → hits i us (f ∷ fs) ≤ hits i us (f ∷ []) + hits i us fs → hits i us (f ∷ []) ≤ one_of (is_on f) → hits i us fs ≤ count fs → hits i us (f ∷ fs) ≤ count (f ∷ fs)
    by_case true e x y z = let l = ap length (filter-yes is_on f fs e) in let o = ap one_of e in omega (arith, x, y, z)
    by_case false e x y z = let l = ap length (filter-no is_on f fs e) in let o = ap one_of e in omega (arith, x, y, z)

pub forwards-few : (i : ℕ) (us : List Ask) (fs : List Forwarding) → CoverFrom i us fs → EachOf Sound fs → forwards_in us ≤ count fs
forwards-few i us fs cover sound = let a = forwards-hit i us fs cover in let b = hits-few i us fs sound in omega (arith, a, b)
