-- One field of a reader: what holds of all that is read after it, and what is read where the field
-- is spelled.
use Rattle.std.proofs.Common.{◌≡◌, ℕ, ◌<◌, ◌^◌, List, [], ◌∷◌, ◌++◌, length, Bool, Option, Some, None, Result, Err, IfOk, refl, subst, ap, ◌∙◌}
use Rattle.ssh_fields.specs.Fields.{AreBytes, u32, str, is_true, take_bool, take_u32, take_str}
use Rattle.ssh_fields.proofs.Fields.{take_u32-is, take_str-is, take_u32-u32, take_str-str, AreBytes-behind}

pub u32_step : {B E : Type 0} (Q : B → Type 0) (e : E) (next : ℕ × List ℕ → Result B E) (bytes : List ℕ) → AreBytes bytes
    → ((n : ℕ) (rest : List ℕ) → n < 2 ^ 32 → bytes ≡ u32 n ++ rest → AreBytes rest → IfOk (next (n, rest)) Q)
    → IfOk (elim (take_u32 bytes) as (λ _. Result B E) [ None ↦ Err e | Some p ↦ next p ]) Q
u32_step {B} {E} Q e next bytes h go = by_case (take_u32 bytes) refl
  where
    by_case : (o : Option (ℕ × List ℕ)) → take_u32 bytes ≡ o → IfOk (elim o as (λ _. Result B E) [ None ↦ Err e | Some p ↦ next p ]) Q
    by_case None t = tt
    by_case (Some p) t =
        let is : (bytes ≡ u32 p.0 ++ p.1) × (p.0 < 2 ^ 32) = take_u32-is bytes p.0 p.1 h t in
        go p.0 p.1 is.1 is.0 (AreBytes-behind (u32 p.0) p.1 (subst AreBytes is.0 h))

pub str_step : {B E : Type 0} (Q : B → Type 0) (e : E) (next : List ℕ × List ℕ → Result B E) (bytes : List ℕ) → AreBytes bytes
    → ((s rest : List ℕ) → length s < 2 ^ 32 → bytes ≡ str s ++ rest → AreBytes rest → IfOk (next (s, rest)) Q)
    → IfOk (elim (take_str bytes) as (λ _. Result B E) [ None ↦ Err e | Some p ↦ next p ]) Q
str_step {B} {E} Q e next bytes h go = by_case (take_str bytes) refl
  where
    by_case : (o : Option (List ℕ × List ℕ)) → take_str bytes ≡ o → IfOk (elim o as (λ _. Result B E) [ None ↦ Err e | Some p ↦ next p ]) Q
    by_case None t = tt
    by_case (Some p) t =
        let is : (bytes ≡ str p.0 ++ p.1) × (length p.0 < 2 ^ 32) = take_str-is bytes p.0 p.1 h t in
        go p.0 p.1 is.1 is.0 (AreBytes-behind (str p.0) p.1 (subst AreBytes is.0 h))

pub bool_step : {B E : Type 0} (Q : B → Type 0) (e : E) (next : Bool × List ℕ → Result B E) (bytes : List ℕ) → AreBytes bytes
    → ((flag : ℕ) (rest : List ℕ) → bytes ≡ flag ∷ rest → AreBytes rest → IfOk (next (is_true flag, rest)) Q)
    → IfOk (elim (take_bool bytes) as (λ _. Result B E) [ None ↦ Err e | Some p ↦ next p ]) Q
bool_step Q e next [] h go = tt
bool_step Q e next (flag ∷ rest) h go = go flag rest refl h.1

pub u32_read : {B E : Type 0} (e : E) (next : ℕ × List ℕ → Result B E) (x : Result B E) (bytes : List ℕ) (n : ℕ) (tail : List ℕ) → n < 2 ^ 32 → bytes ≡ u32 n ++ tail
    → ((rest : List ℕ) → rest ≡ tail → next (n, rest) ≡ x)
    → (elim (take_u32 bytes) as (λ _. Result B E) [ None ↦ Err e | Some p ↦ next p ]) ≡ x
u32_read {B} {E} e next x bytes n tail fits is go =
    ap (λ o. elim o as (λ _. Result B E) [ None ↦ Err e | Some p ↦ next p ]) (ap take_u32 is ∙ take_u32-u32 n tail fits) ∙ go tail refl

pub str_read : {B E : Type 0} (e : E) (next : List ℕ × List ℕ → Result B E) (x : Result B E) (bytes s tail : List ℕ) → length s < 2 ^ 32 → bytes ≡ str s ++ tail
    → ((rest : List ℕ) → rest ≡ tail → next (s, rest) ≡ x)
    → (elim (take_str bytes) as (λ _. Result B E) [ None ↦ Err e | Some p ↦ next p ]) ≡ x
str_read {B} {E} e next x bytes s tail fits is go =
    ap (λ o. elim o as (λ _. Result B E) [ None ↦ Err e | Some p ↦ next p ]) (ap take_str is ∙ take_str-str s tail fits) ∙ go tail refl

pub bool_read : {B E : Type 0} (e : E) (next : Bool × List ℕ → Result B E) (x : Result B E) (bytes : List ℕ) (flag : ℕ) (b : Bool) (tail : List ℕ) → is_true flag ≡ b → bytes ≡ flag ∷ tail
    → ((rest : List ℕ) → rest ≡ tail → next (b, rest) ≡ x)
    → (elim (take_bool bytes) as (λ _. Result B E) [ None ↦ Err e | Some p ↦ next p ]) ≡ x
bool_read {B} {E} e next x bytes flag b tail same is go =
    ap (λ o. elim o as (λ _. Result B E) [ None ↦ Err e | Some p ↦ next p ]) (ap take_bool is ∙ ap (λ (b : Bool). Some (b, tail)) same) ∙ go tail refl
