-- Where an offered value changes what is kept.
use Rattle.std.proofs.Common.{◌≡◌, ◌≢◌, ℕ, zero, suc, ◌+◌, ◌<◌, Bool, true, false, not, cond, eqb, subst, ◌&&◌, ◌||◌, Option, None, List, [], ◌∷◌, ◌++◌, length, get_or, take, drop, set, Some, refl, sym, ap, ◌∙◌, arith, append-nil, append_assoc, length-append}
use Rattle.std.specs.Prelude.{◌↔◌, bytes_eq, filter, is_some, Result, Ok, Err, IfOk, OnOk, IsTrue}
use Rattle.std.specs.List.{list_all, list_any, slice_get}
use Rattle.std.proofs.lemmas.Bool.{eqb-true}
use Rattle.std.proofs.lemmas.Slice.Eq.{bytes_eq-Decides}
use Rattle.conf_rules.specs.declared.key.Key.{Key}
use Rattle.conf_rules.specs.declared.value.Value.{Value}
use Rattle.conf_rules.specs.declared.value.Value.TheVariants.{Names}
use Rattle.conf_rules.specs.declared.key.Key.TheVariants.{SendEnv}
use Rattle.conf_rules.specs.Texts.{Bytes, rest_after_prefix}
use Rattle.conf_rules.specs.Patterns.{matches}
use Rattle.conf_rules.specs.Keys.{same_key, key_place}
use Rattle.conf_rules.specs.Kinds.{Patterns, keeping, keeps_every}
use Rattle.conf_rules.specs.Rows.{values_among, with_pattern, with_patterns, patterns_in}
use Rattle.conf_rules.specs.Fits.{fits}
use Rattle.conf_options.specs.Kept.{Given, StandsAt, fits_single, removes, replaced, with_more, same_texts}
use Rattle.conf_rules.proofs.SameKeys.{same-key, same-key-refl, same-place}

both : (a b : Bool) → (a && b) ≡ true → (a ≡ true) × (b ≡ true)
both true b e = (refl, e)
both false b e = absurd cc

pub same_texts-length : (a b : List Bytes) → same_texts a b ≡ true → length a ≡ length b
same_texts-length [] [] e = refl
same_texts-length [] (y ∷ ys) e = absurd cc
same_texts-length (x ∷ xs) [] e = absurd cc
same_texts-length (x ∷ xs) (y ∷ ys) e = ap suc (same_texts-length xs ys (both (bytes_eq x y) (same_texts xs ys) e).1)

pub other-lengths : (a b : List Bytes) → length a ≢ length b → false ≡ same_texts a b
other-lengths a b n = on (same_texts a b) refl
  where
    on : (t : Bool) → same_texts a b ≡ t → false ≡ t
    on true e = absurd (n (same_texts-length a b e))
    on false e = refl

pub same_texts-true : (a b : List Bytes) → same_texts a b ≡ true → a ≡ b
same_texts-true [] [] e = refl
same_texts-true [] (y ∷ ys) e = absurd cc
same_texts-true (x ∷ xs) [] e = absurd cc
same_texts-true (x ∷ xs) (y ∷ ys) e = let h = both (bytes_eq x y) (same_texts xs ys) e in let first : x ≡ y = (bytes_eq-Decides x y).0 h.0 in let rest : xs ≡ ys = same_texts-true xs ys h.1 in ap (λ l. l ∷ xs) first ∙ ap (λ l. y ∷ l) rest

pub same_texts-refl : (a : List Bytes) → same_texts a a ≡ true
same_texts-refl [] = refl
same_texts-refl (x ∷ xs) = rw ((bytes_eq-Decides x x).1 refl) (same_texts-refl xs)

pub other-texts : (a b : List Bytes) → same_texts a b ≡ false → b ≢ a
other-texts a b s e = let t : same_texts a b ≡ true = rw e (same_texts-refl a) in absurd cc

-- ---- patterns of which none begins with a dash

neither : (a b : Bool) → (a || b) ≡ false → (a ≡ false) × (b ≡ false)
neither true b e = absurd cc
neither false b e = (refl, e)

one-plain : (before : List Bytes) (pattern : Bytes) → removes pattern ≡ false → with_pattern before pattern ≡ before ++ pattern ∷ []
one-plain before pattern e = on (rest_after_prefix (45 ∷ []) pattern) e
  where
    on : (o : Option Bytes) → is_some o ≡ false → (elim o [ Some removing ↦ filter (λ k. not (matches removing k)) before | None ↦ before ++ pattern ∷ [] ]) ≡ before ++ pattern ∷ []
    on None e = refl
    on (Some removing) e = absurd cc

pub all-plain : (before patterns : List Bytes) → list_any removes patterns ≡ false → with_patterns before patterns ≡ before ++ patterns
all-plain before [] e = sym (append-nil before)
all-plain before (pattern ∷ patterns) e =
    let h = neither (removes pattern) (list_any removes patterns) e in
    ap (λ l. with_patterns l patterns) (one-plain before pattern h.0) ∙ (all-plain (before ++ pattern ∷ []) patterns h.1 ∙ append_assoc before (pattern ∷ []) patterns)

pub some-more : (before : List Bytes) (pattern : Bytes) (patterns : List Bytes) → before ++ pattern ∷ patterns ≢ before
some-more before pattern patterns e = let n : length before + suc (length patterns) ≡ length before = sym (length-append before (pattern ∷ patterns)) ∙ ap length e in absurd (omega (arith, n))

pub more-texts : (before patterns new : List Bytes) (empty : Bool) → new ≡ before ++ patterns → empty ≡ eqb (length patterns) 0 → IsTrue (not empty) ↔ (new ≢ before)
more-texts before [] new empty e h = let k : not empty ≡ false = ap not h in (λ t f. let g : not empty ≡ true = t in absurd cc, λ n. absurd (n (e ∙ append-nil before)))
more-texts before (p ∷ ps) new empty e h = on (eqb (suc (length ps)) 0) refl
  where
    on : (t : Bool) → eqb (suc (length ps)) 0 ≡ t → IsTrue (not empty) ↔ (new ≢ before)
    on true k = let n : suc (length ps) ≡ 0 = eqb-true (suc (length ps)) 0 k in absurd (omega (arith, n))
    on false k = (λ t f. some-more before p ps (sym e ∙ f), λ n. ap not (h ∙ k))

-- what is kept of patterns changed exactly where their value did
pub names-changed : {E : Type 0} (r : Result Bool E) (new old : List Bytes) (v : Value) → v ≡ Names old → IfOk r (λ changed. IsTrue changed ↔ (new ≢ old)) → IfOk r (λ changed. IsTrue changed ↔ (Names new ≢ v))
names-changed (Ok b) new old v is h = (λ t e. h.0 t (let k : Names new ≡ Names old = e ∙ is in cc), λ n. h.1 (λ e. n (ap (λ l. Names l) e ∙ sym is)))
names-changed (Err e) new old v is h = tt

-- ---- the place of a key

at : (all : List Given) (i : ℕ) (g : Given) → i < length all → get_or all i g ≡ g → slice_get all i ≡ Some g
at [] i g low e = absurd (omega (arith, low))
at (x ∷ xs) zero g low e = ap (λ y. Some y) e
at (x ∷ xs) (suc i) g low e = at xs i g (omega (arith, low)) e

pub stands : (all : List Given) (i : ℕ) (key : Key) (g : Given) → i < length all → get_or all i g ≡ g → key_place key ≡ key_place g.0 → values_among key (take i all) ≡ [] → StandsAt key all i
stands all i key g low e p before = record { value = g.1; is = at all i g low e ∙ ap (λ k. Some (k, g.1)) (sym (same-place key g.0 p)); before = before }

pub more-before : (all : List Given) (i : ℕ) (key : Key) (g : Given) → i < length all → get_or all i g ≡ g → key_place key ≢ key_place g.0 → values_among key (take i all) ≡ [] → values_among key (take (i + 1) all) ≡ []
more-before [] i key g low e n before = absurd (omega (arith, low))
more-before (x ∷ xs) zero key g low e n before = on (same_key key x.0) refl
  where
    on : (t : Bool) → same_key key x.0 ≡ t → cond t (x.1 ∷ []) [] ≡ []
    on true s = absurd (n (ap key_place (same-key key x.0 s) ∙ ap (λ (y : Given). key_place y.0) e))
    on false s = refl
more-before (x ∷ xs) (suc i) key g low e n before =
    let more : suc i + 1 ≡ suc (i + 1) = omega arith in
    rw more (on (same_key key x.0) before (more-before xs i key g (omega (arith, low)) e n))
  where
    on : (t : Bool) → cond t (x.1 ∷ values_among key (take i xs)) (values_among key (take i xs)) ≡ []
        → (values_among key (take i xs) ≡ [] → values_among key (take (i + 1) xs) ≡ [])
        → cond t (x.1 ∷ values_among key (take (i + 1) xs)) (values_among key (take (i + 1) xs)) ≡ []
    on true b later = absurd cc
    on false b later = later b

pub stands-values : (all : List Given) (key_place : ℕ) (key : Key) (v : Value) → slice_get all key_place ≡ Some (key, v) → values_among key (take key_place all) ≡ [] → values_among key all ≡ v ∷ values_among key (drop (suc key_place) all)
stands-values [] key_place key v e n = absurd cc
stands-values (g ∷ gs) zero key v e n = let is : g ≡ (key, v) = cc in rw (is, same-key-refl key) refl
stands-values (g ∷ gs) (suc key_place) key v e n = on (same_key key g.0) n (stands-values gs key_place key v e)
  where
    on : (t : Bool) → cond t (g.1 ∷ values_among key (take key_place gs)) (values_among key (take key_place gs)) ≡ []
        → (values_among key (take key_place gs) ≡ [] → values_among key gs ≡ v ∷ values_among key (drop (suc key_place) gs))
        → cond t (g.1 ∷ values_among key gs) (values_among key gs) ≡ v ∷ values_among key (drop (suc key_place) gs)
    on true n later = absurd cc
    on false n later = later n

pub stands-replaced : (all : List Given) (key_place : ℕ) (key : Key) (v w : Value) → slice_get all key_place ≡ Some (key, v) → values_among key (take key_place all) ≡ [] → replaced key w all ≡ set all key_place (key, w)
stands-replaced [] key_place key v w e n = absurd cc
stands-replaced (g ∷ gs) zero key v w e n = let is : g ≡ (key, v) = cc in rw (is, same-key-refl key) refl
stands-replaced (g ∷ gs) (suc key_place) key v w e n = on (same_key key g.0) n (stands-replaced gs key_place key v w e)
  where
    on : (t : Bool) → cond t (g.1 ∷ values_among key (take key_place gs)) (values_among key (take key_place gs)) ≡ []
        → (values_among key (take key_place gs) ≡ [] → replaced key w gs ≡ set gs key_place (key, w))
        → cond t ((key, w) ∷ gs) (g ∷ replaced key w gs) ≡ g ∷ set gs key_place (key, w)
    on true n later = absurd cc
    on false n later = ap (λ l. g ∷ l) (later n)

-- a value of a key of patterns is one of several names
pub names-of : (key : Key) (v : Value) → keeping key ≡ Patterns → fits key v ≡ true → Names (patterns_in v) ≡ v
unfolding fits
names-of SendEnv (Names names) e f = refl
names-of SendEnv v e f = absurd cc
names-of key v e f = absurd cc

-- ---- patterns that are changed where they stand

fits-at : (all : List Given) (key_place : ℕ) (x : Given) → list_all fits_single all ≡ true → slice_get all key_place ≡ Some x → fits_single x ≡ true
fits-at [] key_place x h e = absurd cc
fits-at (y ∷ ys) zero x h e = let k : y ≡ x = cc in ap fits_single (sym k) ∙ (both (fits_single y) (list_all fits_single ys) h).0
fits-at (y ∷ ys) (suc key_place) x h e = fits-at ys key_place x (both (fits_single y) (list_all fits_single ys) h).1 e

pub names-at : (all : List Given) (key_place : ℕ) (key : Key) (g : Given) (s : StandsAt key all key_place) → g ≡ (key, s.value) → keeping key ≡ Patterns → list_all fits_single all ≡ true → Names (patterns_in g.1) ≡ g.1
names-at all key_place key g s e how h =
    let f = (both (not (keeps_every key)) (fits key s.value) (fits-at all key_place (key, s.value) h s.is)).1 in
    subst (λ (x : Given). Names (patterns_in x.1) ≡ x.1) (sym e) (names-of key s.value how f)

pub more-becomes : {A E : Type 0} (r : Result A E) (all : List Given) (key_place : ℕ) (key : Key) (value : Value) (g : Given) (new : Value) (names : List Bytes) (s : StandsAt key all key_place) → g ≡ (key, s.value) → names ≡ patterns_in value
    → OnOk r (new ≡ Names (with_patterns (patterns_in g.1) names)) → OnOk r (set all key_place (g.0, new) ≡ with_more (values_among key all) key value all)
more-becomes (Ok x) all key_place key value g new names s e n ok =
    let is : new ≡ Names (with_patterns (patterns_in s.value) (patterns_in value)) = ok ∙ (ap (λ (y : Given). Names (with_patterns (patterns_in y.1) names)) e ∙ ap (λ l. Names (with_patterns (patterns_in s.value) l)) n) in
    ap (λ (y : Given). set all key_place (y.0, new)) e
    ∙ (ap (λ v. set all key_place (key, v)) is
    ∙ (sym (stands-replaced all key_place key s.value (Names (with_patterns (patterns_in s.value) (patterns_in value))) s.is s.before)
    ∙ sym (ap (λ vs. with_more vs key value all) (stands-values all key_place key s.value s.is s.before))))
more-becomes (Err y) all key_place key value g new names s e n ok = tt

set-at : (all : List Given) (key_place : ℕ) (x y : Given) → slice_get all key_place ≡ Some y → slice_get (set all key_place x) key_place ≡ Some x
set-at [] key_place x y e = absurd cc
set-at (z ∷ zs) zero x y e = refl
set-at (z ∷ zs) (suc key_place) x y e = set-at zs key_place x y e

set-same : (all : List Given) (key_place : ℕ) (x : Given) → slice_get all key_place ≡ Some x → set all key_place x ≡ all
set-same [] key_place x e = absurd cc
set-same (z ∷ zs) zero x e = let k : x ≡ z = cc in ap (λ y. y ∷ zs) k
set-same (z ∷ zs) (suc key_place) x e = ap (λ l. z ∷ l) (set-same zs key_place x e)

pub more-changed : {E : Type 0} (r : Result Bool E) (all : List Given) (key_place : ℕ) (key : Key) (g : Given) (new : Value) (s : StandsAt key all key_place) → g ≡ (key, s.value)
    → IfOk r (λ changed. IsTrue changed ↔ (new ≢ g.1)) → IfOk r (λ changed. IsTrue changed ↔ (set all key_place (g.0, new) ≢ all))
more-changed (Ok b) all key_place key g new s e h = (
  λ t f. h.0 t (ap (λ (y : Given). y.1) (some-same (g.0, new) g (sym (set-at all key_place (g.0, new) (key, s.value) s.is) ∙ (ap (λ l. slice_get l key_place) f ∙ here)))),
  λ n. h.1 (λ f. n (ap (λ v. set all key_place (g.0, v)) f ∙ set-same all key_place g here)),
)
  where
    here : slice_get all key_place ≡ Some g
    here = s.is ∙ ap (λ y. Some y) (sym e)

    some-same : (x y : Given) → Some x ≡ Some y → x ≡ y
    some-same x y k = cc
more-changed (Err y) all key_place key g new s e h = tt
