-- What is spelled as an answer reads as it.
use Rattle.std.proofs.Common.{◌≡◌, ℕ, ◌<◌, ◌^◌, List, [], ◌∷◌, ◌++◌, length, Option, Some, None, refl, sym, ◌∙◌, ap}
use Rattle.std.proofs.lemmas.List.{append-nil}
use Rattle.ssh_fields.specs.Fields.{u32, str, take_u32, take_str}
use Rattle.ssh_fields.proofs.Fields.{take_u32-u32, take_str-str}
use Rattle.ssh_grammar.specs.declared.framing.Framing.TheVariants as framing
use Rattle.ssh_grammar.specs.Control.{Answer, Greets, Okay, PermissionDenied, Failed, Alive, RemotePort, Proxies}
use Rattle.ssh_grammar.specs.SpellControl.{spell_answer}
use Rattle.ssh_grammar.specs.ReadAnswer.{answer_on_end, read_one, read_two, read_reason, read_answer, IsAnswer}
use Rattle.ssh_grammar.specs.Frames.{frame_answer, cut}
use Rattle.ssh_grammar.specs.IsFrame.{IsContent}
use Rattle.ssh_grammar.proofs.Frames.{cut-frame}

u32_read : (next : ℕ × List ℕ → Option Answer) (x : Option Answer) (bytes : List ℕ) (n : ℕ) (tail : List ℕ) → n < 2 ^ 32 → bytes ≡ u32 n ++ tail
    → ((rest : List ℕ) → rest ≡ tail → next (n, rest) ≡ x) → (elim (take_u32 bytes) as (λ _. Option Answer) [ None ↦ None | Some p ↦ next p ]) ≡ x
u32_read next x bytes n tail fits is go =
    ap (λ o. elim o as (λ _. Option Answer) [ None ↦ None | Some p ↦ next p ]) (ap take_u32 is ∙ take_u32-u32 n tail fits) ∙ go tail refl

str_read : (next : List ℕ × List ℕ → Option Answer) (x : Option Answer) (bytes s tail : List ℕ) → length s < 2 ^ 32 → bytes ≡ str s ++ tail
    → ((rest : List ℕ) → rest ≡ tail → next (s, rest) ≡ x) → (elim (take_str bytes) as (λ _. Option Answer) [ None ↦ None | Some p ↦ next p ]) ≡ x
str_read next x bytes s tail fits is go =
    ap (λ o. elim o as (λ _. Option Answer) [ None ↦ None | Some p ↦ next p ]) (ap take_str is ∙ take_str-str s tail fits) ∙ go tail refl

end_read : (bytes : List ℕ) (a : Answer) → bytes ≡ [] → answer_on_end bytes a ≡ Some a
end_read bytes a e = ap (λ x. answer_on_end x a) e

one_read : (answer : ℕ → Answer) (rest : List ℕ) (n : ℕ) → n < 2 ^ 32 → rest ≡ u32 n → read_one answer rest ≡ Some (answer n)
one_read answer rest n fits e = u32_read _ _ rest n [] fits e (λ r e0. end_read r (answer n) e0)

two_read : (answer : ℕ → ℕ → Answer) (rest : List ℕ) (id n : ℕ) → id < 2 ^ 32 → n < 2 ^ 32 → rest ≡ u32 id ++ u32 n → read_two answer rest ≡ Some (answer id n)
two_read answer rest id n fits fits1 e = u32_read _ _ rest id (u32 n) fits e (λ r0 e0. u32_read _ _ r0 n [] fits1 e0 (λ r1 e1. end_read r1 (answer id n) e1))

reason_read : (answer : ℕ → List ℕ → Answer) (rest : List ℕ) (id : ℕ) (reason : List ℕ) → id < 2 ^ 32 → length reason < 2 ^ 32 → rest ≡ u32 id ++ str reason → read_reason answer rest ≡ Some (answer id reason)
reason_read answer rest id reason fits fits1 e = u32_read _ _ rest id (str reason) fits e (λ r0 e0. str_read _ _ r0 reason [] fits1 (e0 ∙ sym (append-nil (str reason))) (λ r1 e1. end_read r1 (answer id reason) e1))

pub answer_reads : (a : Answer) → IsAnswer a → read_answer (spell_answer a) ≡ Some a
answer_reads (Greets version) is = one_read Greets (u32 version) version is refl
answer_reads (Okay id) is = one_read Okay (u32 id) id is refl
answer_reads (PermissionDenied id reason) is = reason_read PermissionDenied (u32 id ++ str reason) id reason is.0 is.1 refl
answer_reads (Failed id reason) is = reason_read Failed (u32 id ++ str reason) id reason is.0 is.1 refl
answer_reads (Alive id pid) is = two_read Alive (u32 id ++ u32 pid) id pid is.0 is.1 refl
answer_reads (RemotePort id port) is = two_read RemotePort (u32 id ++ u32 port) id port is.0 is.1 refl
answer_reads (Proxies id) is = one_read Proxies (u32 id) id is refl

-- no body is written for two answers
pub no_body_for_two : (a b : Answer) → IsAnswer a → IsAnswer b → spell_answer a ≡ spell_answer b → a ≡ b
no_body_for_two a b is_a is_b e =
    let both : Some a ≡ Some b = sym (answer_reads a is_a) ∙ (ap read_answer e ∙ answer_reads b is_b) in
    cc

-- an answer's frame is cut whole
pub answer_cut : (a : Answer) → IsContent framing.Control (spell_answer a) → cut framing.Control (frame_answer a) ≡ record { frames = spell_answer a ∷ []; rest = []; fault = None }
answer_cut a is = ap (cut framing.Control) (sym (append-nil (frame_answer a))) ∙ cut-frame framing.Control (spell_answer a) [] is
