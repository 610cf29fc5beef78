-- The pairs of a hello, one after the other.
use Rattle.std.proofs.Common.{◌≡◌, ◌≢◌, ℕ, zero, suc, ◌+◌, ◌<◌, ◌≤◌, List, [], ◌∷◌, ◌++◌, length, Option, Some, None, Result, Ok, Err, refl, sym, ◌∙◌, ap, arith, length-append}
use Rattle.ssh_fields.specs.Fields.{take_u32, split_at, take_str}
use Rattle.ssh_fields.proofs.Fields.{value_and_rest, split_at-is}
use Rattle.ssh_grammar.specs.declared.fault.BadControl.TheVariants as bad
use Rattle.ssh_grammar.specs.Control.{Control, Hello}
use Rattle.ssh_grammar.specs.ReadControl.{on_pairs, read_hello}
use Rattle.mux_messages.specs.Control.{ArePairs, AreNoPairs}

length-take_u32 : (bytes : List ℕ) (n : ℕ) (rest : List ℕ) → take_u32 bytes ≡ Some (n, rest) → length bytes ≡ 4 + length rest
length-take_u32 [] n rest e = absurd cc
length-take_u32 (a ∷ []) n rest e = absurd cc
length-take_u32 (a ∷ b ∷ []) n rest e = absurd cc
length-take_u32 (a ∷ b ∷ c ∷ []) n rest e = absurd cc
length-take_u32 (a ∷ b ∷ c ∷ d ∷ more) n rest e =
    let behind : more ≡ rest = (value_and_rest (_, more) (n, rest) e).1 in
    let same : length more ≡ length rest = ap length behind in
    omega arith

-- a string and its length are the front
pub length-take_str : (bytes s rest : List ℕ) → take_str bytes ≡ Some (s, rest) → length bytes ≡ 4 + length s + length rest
length-take_str bytes s rest e = by_case (take_u32 bytes) refl e
  where
    by_case : (o : Option (ℕ × List ℕ)) → take_u32 bytes ≡ o → (elim o as (λ _. Option (List ℕ × List ℕ)) [ None ↦ None | Some p ↦ split_at p.0 p.1 ]) ≡ Some (s, rest) → length bytes ≡ 4 + length s + length rest
    by_case None t e = absurd cc
    by_case (Some p) t e =
        let parts : (p.1 ≡ s ++ rest) × (length s ≡ p.0) = split_at-is p.0 p.1 s rest e in
        omega (arith, length-take_u32 bytes p.0 p.1 t, ap length parts.0, length-append s rest)

-- reading pairs has come from some bytes to others: the pairs that follow are given on with those
-- before them
pub record Skipping (first : List ℕ) (first_at : ℕ) (rest : List ℕ) (at : ℕ) : Type 0 where
  pub left : ℕ
  pub enough : length rest ≤ left
  pub grown : List (List ℕ × List ℕ) → List (List ℕ × List ℕ)
  pub same : (next : List (List ℕ × List ℕ) → Control) → on_pairs (length first) first first_at next ≡ on_pairs left rest at (λ pairs. next (grown pairs))

pub begins : (first : List ℕ) (at : ℕ) → Skipping first at first at
begins first at = record { left = length first; enough = omega arith; grown = λ pairs. pairs; same = λ next. refl }

some_step : {A B E : Type 0} (o : Option A) (e : E) (next : A → Result B E) (p : A) → o ≡ Some p → (elim o as (λ _. Result B E) [ None ↦ Err e | Some p ↦ next p ]) ≡ next p
some_step {A} {B} {E} o e next p is = ap (λ o. elim o as (λ _. Result B E) [ None ↦ Err e | Some p ↦ next p ]) is

none_step : {A B E : Type 0} (o : Option A) (e : E) (next : A → Result B E) → o ≡ None → (elim o as (λ _. Result B E) [ None ↦ Err e | Some p ↦ next p ]) ≡ Err e
none_step {A} {B} {E} o e next is = ap (λ o. elim o as (λ _. Result B E) [ None ↦ Err e | Some p ↦ next p ]) is

-- one pair more
pair_step : (left : ℕ) (rest : List ℕ) (at : ℕ) (next : List (List ℕ × List ℕ) → Control) (name r0 value r1 : List ℕ) → take_str rest ≡ Some (name, r0) → take_str r0 ≡ Some (value, r1)
    → on_pairs (suc left) rest at next ≡ on_pairs left r1 (at + 4 + length name + 4 + length value) (λ pairs. next ((name, value) ∷ pairs))
pair_step left [] at next name r0 value r1 e0 e1 = absurd cc
pair_step left (b ∷ rest) at next name r0 value r1 e0 e1 = some_step (take_str (b ∷ rest)) _ _ (name, r0) e0 ∙ some_step (take_str r0) _ _ (value, r1) e1

no_name_step : (left : ℕ) (rest : List ℕ) (at : ℕ) (next : List (List ℕ × List ℕ) → Control) → rest ≢ [] → take_str rest ≡ None → on_pairs (suc left) rest at next ≡ Err (bad.Short at)
no_name_step left [] at next some e = absurd (some refl)
no_name_step left (b ∷ rest) at next some e = none_step (take_str (b ∷ rest)) _ _ e

no_value_step : (left : ℕ) (rest : List ℕ) (at : ℕ) (next : List (List ℕ × List ℕ) → Control) (name r0 : List ℕ) → take_str rest ≡ Some (name, r0) → take_str r0 ≡ None → on_pairs (suc left) rest at next ≡ Err (bad.Short (at + 4 + length name))
no_value_step left [] at next name r0 e0 e1 = absurd cc
no_value_step left (b ∷ rest) at next name r0 e0 e1 = some_step (take_str (b ∷ rest)) _ _ (name, r0) e0 ∙ none_step (take_str r0) _ _ e1

end_step : (left at : ℕ) (next : List (List ℕ × List ℕ) → Control) → on_pairs left [] at next ≡ Ok (next [])
end_step zero at next = refl
end_step (suc left) at next = refl

-- there is fuel where there is a byte
fuel : {first : List ℕ} {first_at : ℕ} {rest : List ℕ} {at : ℕ} (s : Skipping first first_at rest at) → 0 < length rest → (left : ℕ) × (s.left ≡ suc left)
fuel {rest = rest} s some = by_left s.left s.enough
  where
    by_left : (left : ℕ) → length rest ≤ left → (k : ℕ) × (left ≡ suc k)
    by_left zero le = absurd (omega arith)
    by_left (suc k) le = (k, refl)

pub grows : (first : List ℕ) (first_at : ℕ) (rest : List ℕ) (at : ℕ) (name r0 value r1 : List ℕ) (at0 at1 : ℕ) → Skipping first first_at rest at → take_str rest ≡ Some (name, r0) → take_str r0 ≡ Some (value, r1)
    → at0 ≡ at + 4 + length name → at1 ≡ at0 + 4 + length value → Skipping first first_at r1 at1
grows first first_at rest at name r0 value r1 at0 at1 s e0 e1 p0 p1 =
    let longer = length-take_str rest name r0 e0 in
    let more : (left : ℕ) × (s.left ≡ suc left) = fuel s (omega (arith, longer)) in
    record {
      left = more.0;
      enough = omega (arith, longer, length-take_str r0 value r1 e1, s.enough, more.1);
      grown = λ pairs. s.grown ((name, value) ∷ pairs);
      same = λ next. s.same next ∙ (ap (λ n. on_pairs n rest at (λ pairs. next (s.grown pairs))) more.1 ∙ (pair_step more.0 rest at (λ pairs. next (s.grown pairs)) name r0 value r1 e0 e1
          ∙ ap (λ at. on_pairs more.0 r1 at (λ pairs. next (s.grown ((name, value) ∷ pairs)))) (omega (arith, p0, p1))));
    }

pub ended : (first : List ℕ) (first_at : ℕ) (rest : List ℕ) (at : ℕ) → Skipping first first_at rest at → rest ≡ [] → ArePairs first first_at
ended first first_at rest at s e = (s.grown [], λ next. s.same next ∙ (ap (λ x. on_pairs s.left x at (λ pairs. next (s.grown pairs))) e ∙ end_step s.left at (λ pairs. next (s.grown pairs))))

pub no_name : (first : List ℕ) (first_at : ℕ) (rest : List ℕ) (at : ℕ) → Skipping first first_at rest at → rest ≢ [] → take_str rest ≡ None → AreNoPairs first first_at (bad.Short at)
no_name first first_at [] at s some e next = absurd (some refl)
no_name first first_at (b ∷ rest) at s some e next =
    let more : (left : ℕ) × (s.left ≡ suc left) = fuel s (omega arith) in
    s.same next ∙ (ap (λ n. on_pairs n (b ∷ rest) at (λ pairs. next (s.grown pairs))) more.1 ∙ no_name_step more.0 (b ∷ rest) at (λ pairs. next (s.grown pairs)) some e)

pub no_value : (first : List ℕ) (first_at : ℕ) (rest : List ℕ) (at : ℕ) (name r0 : List ℕ) (at0 : ℕ) → Skipping first first_at rest at → take_str rest ≡ Some (name, r0) → take_str r0 ≡ None → at0 ≡ at + 4 + length name → AreNoPairs first first_at (bad.Short at0)
no_value first first_at rest at name r0 at0 s e0 e1 place next =
    let more : (left : ℕ) × (s.left ≡ suc left) = fuel s (omega (arith, length-take_str rest name r0 e0)) in
    s.same next ∙ (ap (λ n. on_pairs n rest at (λ pairs. next (s.grown pairs))) more.1 ∙ (no_value_step more.0 rest at (λ pairs. next (s.grown pairs)) name r0 e0 e1 ∙ ap (λ at. Err (bad.Short at)) (sym place)))

-- a hello, whose extensions are the pairs
pub hello_reads : (bytes : List ℕ) (version : ℕ) (rest : List ℕ) (at : ℕ) → take_u32 bytes ≡ Some (version, rest) → at ≡ 4 + 4 → (pairs : ArePairs rest at) → read_hello bytes ≡ Ok (Hello version pairs.0)
hello_reads bytes version rest at e place pairs =
    some_step (take_u32 bytes) _ _ (version, rest) e ∙ (ap (λ at. on_pairs (length rest) rest at (Hello version)) (sym place) ∙ pairs.1 (Hello version))
