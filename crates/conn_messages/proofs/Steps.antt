-- An open whose fields are read one after the other.
use Rattle.std.proofs.Common.{◌≡◌, ℕ, ◌+◌, List, length, Option, Some, None, Result, Err, ap, ◌∙◌, sym}
use Rattle.ssh_fields.specs.Fields.{take_u32, take_str}
use Rattle.ssh_grammar.specs.Messages.{Opens, Open, Plain}
use Rattle.ssh_grammar.specs.declared.fault.Bad.{Bad}
use Rattle.ssh_grammar.specs.ReadMessage.{with_reading, read_opens, read_open}

some_step : {A B E : Type 0} (o : Option A) (e : E) (next : A → Result B E) (p : A) → o ≡ Some p → (elim o as (λ _. Result B E) [ None ↦ Err e | Some p ↦ next p ]) ≡ next p
some_step {A} {B} {E} o e next p is = ap (λ o. elim o as (λ _. Result B E) [ None ↦ Err e | Some p ↦ next p ]) is

pub open_reads : (bytes : List ℕ) {kind r0 : List ℕ} {sender : ℕ} {r1 : List ℕ} {window : ℕ} {r2 : List ℕ} {maximum : ℕ} {r3 rest : List ℕ} {at : ℕ} {reading : Result Opens Bad}
    → take_str bytes ≡ Some (kind, r0) → take_u32 r0 ≡ Some (sender, r1) → take_u32 r1 ≡ Some (window, r2) → take_u32 r2 ≡ Some (maximum, r3)
    → rest ≡ r3 → at ≡ 1 + 4 + length kind + 4 + 4 + 4 → read_opens kind r3 at ≡ reading
    → with_reading (read_open bytes) Plain ≡ with_reading (with_reading reading (Open kind sender window maximum rest)) Plain
open_reads bytes {kind} {r0} {sender} {r1} {window} {r2} {maximum} {r3} {rest} {at} {reading} e0 e1 e2 e3 same place reads =
    ap (λ r. with_reading r Plain)
    (some_step (take_str bytes) _ _ (kind, r0) e0
    ∙ (some_step (take_u32 r0) _ _ (sender, r1) e1
    ∙ (some_step (take_u32 r1) _ _ (window, r2) e2
    ∙ (some_step (take_u32 r2) _ _ (maximum, r3) e3
    ∙ (ap (λ at. with_reading (read_opens kind r3 at) (Open kind sender window maximum r3)) (sym place)
    ∙ (ap (λ r. with_reading r (Open kind sender window maximum r3)) reads
    ∙ ap (λ r. with_reading reading (Open kind sender window maximum r)) (sym same)))))))
