-- Lists of streams, and the streams that are open.
use Rattle.std.proofs.Common.{◌≡◌, ◌≢◌, ◌<◌, ◌+◌, ℕ, zero, suc, Bool, true, false, not, ◌||◌, ◌&&◌, List, [], ◌∷◌, ◌++◌, length, get_or, take, drop, refl, sym, ap, ◌∙◌, inl, inr, cond, arith, drop-cons, take-suc}
use Rattle.std.specs.Prelude.{◌==◌, ◌⊎◌, filter}
use Rattle.std.proofs.lemmas.Bool.{eq-eqb}
use Rattle.std.proofs.lemmas.Bool.Decides.{eqb_tells}
use Rattle.std.proofs.lemmas.List.Folds.{list_any-append}
use Rattle.mux_outside.specs.OwnStreams.{is_own}
use Rattle.mux_outside.specs.Streams.{among, without}
use Rattle.mux_history.specs.declared.limits.TheConstants.{HOUSE}
use Rattle.mux_history.specs.Journal.{is_own_stream}
use Rattle.mux_history.specs.Promises.{not_own}
use Rattle.mux_peers.specs.State.{ClientState}
use Rattle.mux_peers.specs.Among.{is_present}
use Rattle.mux_state.specs.State.{EngineState, in_client, is_here, numbers}
use Rattle.mux_state.specs.Events.{here}
use Rattle.mux_engine.specs.Serving.{is_stream_open}

pub true-false : {A : Type 0} → true ≡ false → A
true-false e = absurd (cc)

pub test-other : (a b : ℕ) → a ≢ b → (a == b) ≡ false
test-other a b ne = elim (eqb_tells a b) [ inl p ↦ absurd (ne p.1) | inr p ↦ p.0 ]

pub test-same : (i : ℕ) → (i == i) ≡ true
test-same i = elim (eqb_tells i i) [ inl q ↦ q.0 | inr q ↦ absurd (q.1 refl) ]

test-swap : (a b : ℕ) → (a == b) ≡ (b == a)
test-swap a b = elim (eqb_tells a b) [ inl t ↦ t.0 ∙ sym (eq-eqb b a (sym t.1)) | inr t ↦ t.0 ∙ sym (test-other b a (λ e. t.1 (sym e))) ]

pub or-true : (b : Bool) → (b || true) ≡ true
or-true true = refl
or-true false = refl

pub or-none : (a : Bool) → (a || (false || false)) ≡ a
or-none true = refl
or-none false = refl

pub or-last : (a : Bool) → (a || (true || false)) ≡ true
or-last true = refl
or-last false = refl

-- ---- a list without a stream, and with one more

pub among-last : (k t : ℕ) (xs : List ℕ) → among t (xs ++ k ∷ []) ≡ (among t xs || ((k == t) || false))
among-last k t xs = list_any-append (λ (i : ℕ). i == t) xs (k ∷ [])

pub among-other-last : (k t : ℕ) (xs : List ℕ) → k ≢ t → among t (xs ++ k ∷ []) ≡ among t xs
among-other-last k t xs ne = among-last k t xs ∙ (ap (λ b. among t xs || (b || false)) (test-other k t ne) ∙ or-none (among t xs))

pub without-other : (k t : ℕ) (xs : List ℕ) → k ≢ t → among t (without k xs) ≡ among t xs
without-other k t [] ne = refl
without-other k t (j ∷ xs) ne = elim (eqb_tells j k) [
  | inl q ↦ ap (λ b. among t (cond (not b) (j ∷ without k xs) (without k xs))) q.0 ∙ (without-other k t xs ne ∙ sym (ap (λ b. b || among t xs) (test-other j t (λ e. ne (sym q.1 ∙ e)))))
  | inr q ↦ ap (λ b. among t (cond (not b) (j ∷ without k xs) (without k xs))) q.0 ∙ ap (λ b. (j == t) || b) (without-other k t xs ne)
]

pub none-without : (k : ℕ) (xs : List ℕ) → among k (without k xs) ≡ false
none-without k [] = refl
none-without k (j ∷ xs) = elim (eqb_tells j k) [
  | inl q ↦ ap (λ b. among k (cond (not b) (j ∷ without k xs) (without k xs))) q.0 ∙ none-without k xs
  | inr q ↦ ap (λ b. among k (cond (not b) (j ∷ without k xs) (without k xs))) q.0 ∙ (ap (λ b. b || among k (without k xs)) q.0 ∙ none-without k xs)
]

pub among-less : (k t : ℕ) (xs : List ℕ) → among t xs ≡ false → among t (without k xs) ≡ false
among-less k t xs a = elim (eqb_tells k t) [
  | inl q ↦ ap (λ i. among i (without k xs)) (sym q.1) ∙ none-without k xs
  | inr q ↦ without-other k t xs q.1 ∙ a
]

-- whoever isn't in a list is not its head, nor in the rest
pub apart-or-left : (k t : ℕ) (xs : List ℕ) → among t (k ∷ xs) ≡ false → (k ≢ t) × (among t xs ≡ false)
apart-or-left k t xs a = elim (eqb_tells k t) [
  | inl q ↦ true-false (sym (ap (λ b. b || among t xs) q.0) ∙ a)
  | inr q ↦ (q.1, sym (ap (λ b. b || among t xs) q.0) ∙ a)
]

pub element-among : (i : ℕ) (xs : List ℕ) → i < length xs → among (get_or xs i 0) xs ≡ true
element-among i [] lt = absurd (omega arith)
element-among zero (x ∷ xs) lt = ap (λ b. b || among x xs) (eq-eqb x x refl)
element-among (suc i) (x ∷ xs) lt = ap (λ b. (x == get_or xs i 0) || b) (element-among i xs (omega arith)) ∙ or-true (x == get_or xs i 0)

pub among-next : (i t : ℕ) (xs : List ℕ) → i < length xs → among t (take (i + 1) xs) ≡ true → (among t (take i xs) ≡ true) ⊎ (get_or xs i 0 ≡ t)
among-next i t xs lt h =
    let k : ℕ = get_or xs i 0 in
    let e : suc i ≡ i + 1 = omega arith in
    let last : take (i + 1) xs ≡ take i xs ++ k ∷ [] = ap (λ m. take m xs) (sym e) ∙ take-suc xs i 0 lt in
    elim (eqb_tells k t) [
      | inl q ↦ inr q.1
      | inr q ↦ inl (sym (ap (among t) last ∙ among-other-last k t (take i xs) q.1) ∙ h)
    ]

pub drop-next : (i : ℕ) (xs : List ℕ) → i < length xs → drop i xs ≡ get_or xs i 0 ∷ drop (i + 1) xs
drop-next i xs lt = let e : suc i ≡ i + 1 = omega arith in drop-cons xs i 0 lt ∙ ap (λ m. get_or xs i 0 ∷ drop m xs) e

-- ---- lists without the master's own

pub and-first : (a b : Bool) → (a && b) ≡ true → a ≡ true
and-first true b e = refl
and-first false b e = e

pub and-second : (a b : Bool) → (a && b) ≡ true → b ≡ true
and-second true b e = e
and-second false b e = true-false (sym e)

-- what is in a list that was filtered
pub among-filter : (P : ℕ → Bool) (t : ℕ) (xs : List ℕ) → among t (filter P xs) ≡ (P t && among t xs)
among-filter P t [] = sym (and-false (P t))
  where
    and-false : (b : Bool) → (b && false) ≡ false
    and-false true = refl
    and-false false = refl
among-filter P t (x ∷ xs) = by_head (among-filter P t xs) (x == t) refl (P x) refl
  where
    same : (x == t) ≡ true → x ≡ t
    same e = elim (eqb_tells x t) [ inl q ↦ q.1 | inr q ↦ true-false (sym e ∙ q.0) ]

    or-right : (b : Bool) → (b || true) ≡ true
    or-right true = refl
    or-right false = refl

    no-and : (b c : Bool) → b ≡ false → (b && c) ≡ false
    no-and b c e = ap (λ x. x && c) e

    by_head : among t (filter P xs) ≡ (P t && among t xs) → (b : Bool) → (x == t) ≡ b → (c : Bool) → P x ≡ c → among t (cond c (x ∷ filter P xs) (filter P xs)) ≡ (P t && ((x == t) || among t xs))
    by_head ih true e true f = ap (λ b. b || among t (filter P xs)) e ∙ sym (ap (λ b. P t && (b || among t xs)) e ∙ (ap (λ b. b && true) (ap P (sym (same e)) ∙ f)))
    by_head ih true e false f = ih ∙ (no-and (P t) (among t xs) (ap P (sym (same e)) ∙ f) ∙ sym (no-and (P t) ((x == t) || among t xs) (ap P (sym (same e)) ∙ f)))
    by_head ih false e true f = ap (λ b. b || among t (filter P xs)) e ∙ (ih ∙ sym (ap (λ b. P t && (b || among t xs)) e))
    by_head ih false e false f = ih ∙ sym (ap (λ b. P t && (b || among t xs)) e)

pub among-not-own : (t : ℕ) (xs : List ℕ) → is_own t ≡ false → among t (not_own xs) ≡ among t xs
among-not-own t xs e = among-filter (λ (i : ℕ). not (is_own i)) t xs ∙ ap (λ b. not b && among t xs) e

-- a number of the master's own is that of one of its streams, or of the forwarder
pub own-or-house : (t : ℕ) → is_own_stream t ≡ false → t ≢ HOUSE → is_own t ≡ false
own-or-house t e ne = by_own (is_own t) refl
  where
    by_own : (b : Bool) → is_own t ≡ b → is_own t ≡ false
    by_own false f = f
    by_own true f = true-false (sym (ap (λ b. b && not (t == HOUSE)) f ∙ ap not (test-other t HOUSE ne)) ∙ e)

pub own-stream : (t : ℕ) → is_own t ≡ true → t ≢ HOUSE → is_own_stream t ≡ true
own-stream t e ne = ap (λ b. b && not (t == HOUSE)) e ∙ ap not (test-other t HOUSE ne)

pub not-own-stream : (t : ℕ) → is_own t ≡ false → is_own_stream t ≡ false
not-own-stream t e = ap (λ b. b && not (t == HOUSE)) e

-- ---- the streams that are open

-- the head of a list is there, or else one after it
abbrev pub either : Bool → Bool → Bool
either b rest = elim b as (λ _. Bool) [ true ↦ true | false ↦ rest ]

pub among-numbers : (k : ℕ) (cs : List ClientState) → among k (numbers cs) ≡ is_present cs k
among-numbers k [] = refl
among-numbers k (c ∷ cs) = ap (λ b. (c.peer.number == k) || b) (among-numbers k cs) ∙ or-cond (c.peer.number == k) (is_present cs k)
  where
    or-cond : (a b : Bool) → (a || b) ≡ either a b
    or-cond true b = refl
    or-cond false b = refl

pub among-here : (s : EngineState) (t : ℕ) → among t (here s) ≡ is_here s t
among-here s t = list_any-append (λ (i : ℕ). i == t) (numbers s.clients) s.refused ∙ ap (λ b. b || among t s.refused) (among-numbers t s.clients)

pub among-open : (s : EngineState) (t : ℕ) → among t (0 ∷ here s) ≡ is_stream_open s t
among-open s t = ap (λ b. b || among t (here s)) (test-swap 0 t) ∙ ap (λ b. (t == 0) || b) (among-here s t)

-- the same streams are open where the same clients are here
pub same-open : (s s' : EngineState) (t : ℕ) → here s' ≡ here s → is_stream_open s' t ≡ is_stream_open s t
same-open s s' t e = sym (among-open s' t) ∙ (ap (λ l. among t (0 ∷ l)) e ∙ among-open s t)

-- an open stream but the server's is of a client that is here
pub open-here : (s : EngineState) (k : ℕ) → is_stream_open s k ≡ true → k ≢ 0 → is_here s k ≡ true
open-here s k opened nz = sym (ap (λ b. b || is_here s k) (test-other k 0 nz)) ∙ opened

pub here-open : (s : EngineState) (k : ℕ) → is_here s k ≡ true → is_stream_open s k ≡ true
here-open s k h = ap (λ b. (k == 0) || b) h ∙ or-true (k == 0)

pub look-none : {A : Type 0} (none : A) (look : ClientState → A) (k : ℕ) (cs : List ClientState) → is_present cs k ≡ false → in_client none look cs k ≡ none
look-none none look k [] p = refl
look-none none look k (c ∷ cs) p = by_head (look-none none look k cs) (c.peer.number == k) p
  where
    by_head : (is_present cs k ≡ false → in_client none look cs k ≡ none) → (b : Bool) → either b (is_present cs k) ≡ false → cond b (look c) (in_client none look cs k) ≡ none
    by_head ih true q = true-false q
    by_head ih false q = ih q
