-- The serials of the forwardings rise.
use Rattle.std.proofs.Common.{◌≡◌, ◌∙◌, refl, ap, ℕ, zero, suc, ◌+◌, ◌<◌, ◌≤◌, Bool, true, false, cond, List, [], ◌∷◌, ◌++◌, length, get_or, set, map, filter, Some, arith}
use Rattle.std.specs.Prelude.{◌==◌, nat_le, if◌then◌else◌}
use Rattle.std.specs.List.{position, remove}
use Rattle.std.proofs.lemmas.Bool.{and_parts, and_from, leb-true, le-leb}
use Rattle.std.proofs.lemmas.List.Quantifiers.{position-Some}
use Rattle.house_forward.specs.Forwardings.{is_numbered, forwarding_changed}
use Rattle.house_forward.specs.declared.forwarding.Change.{Change}
use Rattle.house_forward.specs.declared.forwarding.Forwarding.{Forwarding}

abbrev IsNumbered : ℕ → List Forwarding → ℕ → Type 0
IsNumbered low [] high = low ≤ high
IsNumbered low (f ∷ fs) high = (low ≤ f.serial) × IsNumbered (f.serial + 1) fs high

known : (fs : List Forwarding) (low high : ℕ) → is_numbered low fs high ≡ true → IsNumbered low fs high
known [] low high h = leb-true low high h
known (f ∷ fs) low high h =
    let both = and_parts (nat_le low f.serial) (is_numbered (f.serial + 1) fs high) h in
    (leb-true low f.serial both.0, known fs (f.serial + 1) high both.1)

shown : (fs : List Forwarding) (low high : ℕ) → IsNumbered low fs high → is_numbered low fs high ≡ true
shown [] low high h = le-leb low high h
shown (f ∷ fs) low high h = and_from _ _ (le-leb low f.serial h.0) (shown fs (f.serial + 1) high h.1)

weaken : (fs : List Forwarding) (low least high : ℕ) → least ≤ low → IsNumbered low fs high → IsNumbered least fs high
weaken [] low least high l h = omega (arith, l, h)
weaken (f ∷ fs) low least high l h = let one = h.0 in (omega (arith, l, one), h.1)

-- ---- one more has the next serial

more : (fs : List Forwarding) (f : Forwarding) (low high : ℕ) → f.serial ≡ high → IsNumbered low fs high
    → IsNumbered low (fs ++ f ∷ []) (high + 1)
more [] f low high e h = (omega (arith, e, h), omega (arith, e))
more (g ∷ fs) f low high e h = (h.0, more fs f (g.serial + 1) high e h.1)

pub numbered_more : (fs : List Forwarding) (f : Forwarding) (high : ℕ) → f.serial ≡ high → is_numbered 0 fs high ≡ true
    → is_numbered 0 (fs ++ f ∷ []) (high + 1) ≡ true
numbered_more fs f high e h = shown (fs ++ f ∷ []) 0 (high + 1) (more fs f 0 high e (known fs 0 high h))

-- ---- some are gone

removed : (fs : List Forwarding) (i low high : ℕ) → IsNumbered low fs high → IsNumbered low (remove fs i) high
removed [] zero low high h = h
removed [] (suc i) low high h = h
removed (f ∷ fs) zero low high h = let one = h.0 in weaken fs (f.serial + 1) low high (omega (arith, one)) h.1
removed (f ∷ fs) (suc i) low high h = (h.0, removed fs i (f.serial + 1) high h.1)

pub numbered-remove : (fs : List Forwarding) (i high : ℕ) → is_numbered 0 fs high ≡ true → is_numbered 0 (remove fs i) high ≡ true
numbered-remove fs i high h = shown (remove fs i) 0 high (removed fs i 0 high (known fs 0 high h))

kept-if : (b : Bool) (f : Forwarding) (fs : List Forwarding) (low high : ℕ) → low ≤ f.serial
    → IsNumbered (f.serial + 1) fs high → IsNumbered low (cond b (f ∷ fs) fs) high
kept-if true f fs low high l h = (l, h)
kept-if false f fs low high l h = weaken fs (f.serial + 1) low high (omega (arith, l)) h

kept : (p : Forwarding → Bool) (fs : List Forwarding) (low high : ℕ) → IsNumbered low fs high
    → IsNumbered low (filter p fs) high
kept p [] low high h = h
kept p (f ∷ fs) low high h =
    kept-if (p f) f (filter p fs) low high h.0 (kept p fs (f.serial + 1) high h.1)

pub numbered-filter : (p : Forwarding → Bool) (fs : List Forwarding) (high : ℕ) → is_numbered 0 fs high ≡ true
    → is_numbered 0 (filter p fs) high ≡ true
numbered-filter p fs high h = shown (filter p fs) 0 high (kept p fs 0 high (known fs 0 high h))

-- ---- one changes, and not its serial

written : (fs : List Forwarding) (i : ℕ) (g d : Forwarding) (low high : ℕ) → i < length fs
    → g.serial ≡ (get_or fs i d).serial → IsNumbered low fs high → IsNumbered low (set fs i g) high
written [] i g d low high l e h = absurd (omega arith)
written (f ∷ fs) zero g d low high l e h = rw e h
written (f ∷ fs) (suc i) g d low high l e h = (h.0, written fs i g d (f.serial + 1) high (omega arith) e h.1)

pub numbered-first : (p : Forwarding → Bool) (fs : List Forwarding) (i : ℕ) (g x : Forwarding) (high : ℕ) → position p fs ≡ Some i
    → x ≡ get_or fs i x → g.serial ≡ x.serial → is_numbered 0 fs high ≡ true → is_numbered 0 (set fs i g) high ≡ true
numbered-first p fs i g x high e at same h =
    let first = position-Some p fs i x e in
    shown (set fs i g) 0 high (written fs i g x 0 high first.0 (same ∙ ap (λ (f : Forwarding). f.serial) at) (known fs 0 high h))

serial-if : (b : Bool) (f g : Forwarding) → g.serial ≡ f.serial → (if b then g else f).serial ≡ f.serial
serial-if true f g e = e
serial-if false f g e = refl

serial-same : (c : Change) (serial : ℕ) (f : Forwarding) → (forwarding_changed c serial f).serial ≡ f.serial
serial-same c serial f = serial-if (f.serial == serial) f _ refl

changes : (c : Change) (serial : ℕ) (fs : List Forwarding) (low high : ℕ) → IsNumbered low fs high
    → IsNumbered low (map (forwarding_changed c serial) fs) high
changes c serial [] low high h = h
changes c serial (f ∷ fs) low high h =
    rw (serial-same c serial f) (h.0, changes c serial fs (f.serial + 1) high h.1)

pub numbered-changed : (c : Change) (serial : ℕ) (fs : List Forwarding) (high : ℕ) → is_numbered 0 fs high ≡ true
    → is_numbered 0 (map (forwarding_changed c serial) fs) high ≡ true
numbered-changed c serial fs high h = shown (map (forwarding_changed c serial) fs) 0 high (changes c serial fs 0 high (known fs 0 high h))
