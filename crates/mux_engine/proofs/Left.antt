-- How many of the master's own streams did not fail, and which are offered something.
use Rattle.std.proofs.Common.{◌≡◌, ◌≢◌, ◌≤◌, ◌<◌, ◌+◌, ℕ, Bool, true, false, not, ◌||◌, List, [], ◌∷◌, ◌++◌, length, length-append, sym, ap, ◌∙◌, subst, inl, inr, ◌⊎◌, cond, arith}
use Rattle.std.specs.Prelude.{◌==◌, filter, IsTrue}
use Rattle.std.proofs.lemmas.Bool.Decides.{eqb_tells}
use Rattle.mux_outside.specs.House.{Known}
use Rattle.mux_outside.specs.OwnStreams.{is_one}
use Rattle.mux_outside.specs.Seen.{Seen}
use Rattle.mux_outside.specs.Streams.{among}
use Rattle.mux_engine.specs.Owned.{streams_left_of}
use Rattle.mux_engine.specs.Sides.{Housed}
use Rattle.mux_engine.proofs.Lists.{among-last, test-other, true-false}
use Rattle.mux_engine.proofs.Owns.{among-one}

after-push : (k x : ℕ) (failed : List ℕ) → among x (failed ++ k ∷ []) ≡ (among x failed || ((k == x) || false))
after-push k x failed = among-last k x failed

-- one more that failed leaves no more
left-le : (k : ℕ) (failed own : List ℕ) → streams_left_of (failed ++ k ∷ []) own ≤ streams_left_of failed own
left-le k failed [] = omega arith
left-le k failed (x ∷ own) = subst (λ (b : Bool). length (cond (not b) (x ∷ filter (λ t. not (among t (failed ++ k ∷ []))) own) (filter (λ t. not (among t (failed ++ k ∷ []))) own)) ≤ streams_left_of failed (x ∷ own)) (sym (after-push k x failed)) (by_old (among x failed) (k == x) (left-le k failed own))
  where
    by_old : (b c : Bool) → streams_left_of (failed ++ k ∷ []) own ≤ streams_left_of failed own → length (cond (not (b || (c || false))) (x ∷ filter (λ t. not (among t (failed ++ k ∷ []))) own) (filter (λ t. not (among t (failed ++ k ∷ []))) own)) ≤ length (cond (not b) (x ∷ filter (λ t. not (among t failed)) own) (filter (λ t. not (among t failed)) own))
    by_old true c ih = ih
    by_old false true ih = omega (arith, ih)
    by_old false false ih = omega (arith, ih)

-- and one less where it is one of them that did not fail before
left-less : (k : ℕ) (failed own : List ℕ) → among k own ≡ true → among k failed ≡ false → streams_left_of (failed ++ k ∷ []) own < streams_left_of failed own
left-less k failed [] a n = true-false (sym a)
left-less k failed (x ∷ own) a n = subst (λ (b : Bool). length (cond (not b) (x ∷ filter (λ t. not (among t (failed ++ k ∷ []))) own) (filter (λ t. not (among t (failed ++ k ∷ []))) own)) < streams_left_of failed (x ∷ own)) (sym (after-push k x failed)) (by_same (eqb_tells k x) (λ r. left-less k failed own r n))
  where
    rest : k ≢ x → among k own ≡ true
    rest ne = sym (ap (λ b. b || among k own) (test-other x k (λ e. ne (sym e)))) ∙ a

    gone : k ≡ x → (k == x) ≡ true → length (cond (not (among x failed || ((k == x) || false))) (x ∷ filter (λ t. not (among t (failed ++ k ∷ []))) own) (filter (λ t. not (among t (failed ++ k ∷ []))) own)) < streams_left_of failed (x ∷ own)
    gone e t =
        let old : among x failed ≡ false = ap (λ i. among i failed) (sym e) ∙ n in
        let le : streams_left_of (failed ++ k ∷ []) own ≤ streams_left_of failed own = left-le k failed own in
        subst (λ (b : Bool). length (cond (not (b || ((k == x) || false))) (x ∷ filter (λ t. not (among t (failed ++ k ∷ []))) own) (filter (λ t. not (among t (failed ++ k ∷ []))) own)) < length (cond (not b) (x ∷ filter (λ t. not (among t failed)) own) (filter (λ t. not (among t failed)) own))) (sym old)
        (subst (λ (c : Bool). length (cond (not (c || false)) (x ∷ filter (λ t. not (among t (failed ++ k ∷ []))) own) (filter (λ t. not (among t (failed ++ k ∷ []))) own)) < length (x ∷ filter (λ t. not (among t failed)) own)) (sym t) (omega (arith, le)))

    kept : (b : Bool) → streams_left_of (failed ++ k ∷ []) own < streams_left_of failed own → length (cond (not (b || (false || false))) (x ∷ filter (λ t. not (among t (failed ++ k ∷ []))) own) (filter (λ t. not (among t (failed ++ k ∷ []))) own)) < length (cond (not b) (x ∷ filter (λ t. not (among t failed)) own) (filter (λ t. not (among t failed)) own))
    kept true ih = ih
    kept false ih = omega (arith, ih)

    by_same : (((k == x) ≡ true) × (k ≡ x)) ⊎ (((k == x) ≡ false) × (k ≢ x)) → (among k own ≡ true → streams_left_of (failed ++ k ∷ []) own < streams_left_of failed own) → length (cond (not (among x failed || ((k == x) || false))) (x ∷ filter (λ t. not (among t (failed ++ k ∷ []))) own) (filter (λ t. not (among t (failed ++ k ∷ []))) own)) < streams_left_of failed (x ∷ own)
    by_same (inl q) ih = gone q.1 q.0
    by_same (inr q) ih = subst (λ (c : Bool). length (cond (not (among x failed || (c || false))) (x ∷ filter (λ t. not (among t (failed ++ k ∷ []))) own) (filter (λ t. not (among t (failed ++ k ∷ []))) own)) < streams_left_of failed (x ∷ own)) (sym q.0) (kept (among x failed) (ih (rest q.1)))

pub fewer-left : (k : ℕ) (failed failed' own : List ℕ) → failed' ≡ failed ++ k ∷ [] → among k own ≡ true → among k failed ≡ false → streams_left_of failed' own + length failed' ≤ streams_left_of failed own + length failed
fewer-left k failed failed' own e a n =
    subst (λ (l : List ℕ). streams_left_of l own + length l ≤ streams_left_of failed own + length failed) (sym e)
    (let less : streams_left_of (failed ++ k ∷ []) own < streams_left_of failed own = left-less k failed own a n in let l : length (failed ++ k ∷ []) ≡ length failed + 1 = length-append failed (k ∷ []) in omega (arith, less, l))

-- ---- the streams of a forwarder

pub own-one : (known : Known) (seen : Seen) (own : List ℕ) → Housed known seen own → (t : ℕ) → among t own ≡ true → IsTrue (is_one t seen.own)
own-one known seen own h t a = sym (among-one t seen.own) ∙ (ap (among t) (sym h.own_is) ∙ a)

pub own-known : (known : Known) (seen : Seen) (own : List ℕ) → Housed known seen own → (t : ℕ) → among t own ≡ true → IsTrue (is_one t known.streams)
own-known known seen own h t a = ap (is_one t) h.streams ∙ own-one known seen own h t a
