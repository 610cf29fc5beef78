-- The front of bytes, by what their first four say.
use Rattle.std.proofs.Common.{◌≡◌, ℕ, ◌-◌, ◌≤◌, List, [], ◌∷◌, length, drop, true, false, sym, ◌∙◌, ap, subst, arith, Some, None}
use Rattle.std.specs.Prelude.{nat_lt, nat_eq}
use Rattle.std.proofs.lemmas.List.{drop-drop}
use Rattle.ssh_fields.specs.Fields.{take_u8, take_u32}
use Rattle.ssh_fields.proofs.Fields.{value_and_rest}
use Rattle.ssh_grammar.specs.declared.fault.BadFrame.TheVariants as bad
use Rattle.ssh_grammar.specs.declared.framing.Framing.{Framing}
use Rattle.ssh_grammar.specs.declared.framing.Framing.TheVariants.{Control, Proxy}
use Rattle.ssh_grammar.specs.declared.numbers.TheConstants.{LONGEST_FRAME}
use Rattle.ssh_grammar.specs.Frames.{Front, More, Faulty, cut_content, cut_length, cut_rest, shortest, first_frame}
use Rattle.proxy_frames.specs.declared.next.Front.{Front as Found}
use Rattle.proxy_frames.specs.Fronts.{IsFrameFront}

-- the bytes after the length field
pub behind-length : (bytes : List ℕ) (n : ℕ) (rest : List ℕ) → take_u32 bytes ≡ Some (n, rest) → (4 ≤ length bytes) × (rest ≡ drop 4 bytes)
behind-length [] n rest e = absurd (cc)
behind-length (a ∷ []) n rest e = absurd (cc)
behind-length (a ∷ b ∷ []) n rest e = absurd (cc)
behind-length (a ∷ b ∷ c ∷ []) n rest e = absurd (cc)
behind-length (a ∷ b ∷ c ∷ d ∷ bytes) n rest e = (omega arith, sym (value_and_rest _ _ e).1)

-- a length in range
pub front-in_range : (framing : Framing) (bytes : List ℕ) (n : ℕ) (rest : List ℕ) → take_u32 bytes ≡ Some (n, rest) → shortest framing ≤ n → n ≤ LONGEST_FRAME → first_frame framing bytes ≡ cut_rest framing n rest
front-in_range framing bytes n rest e low high =
    let not_short : nat_lt n (shortest framing) ≡ false = grind arith in
    let not_long : nat_lt LONGEST_FRAME n ≡ false = grind arith in
    ap (λ o. elim o as (λ _. Front) [ None ↦ More | Some p ↦ cut_length framing p.0 p.1 ]) e
    ∙ (ap (λ t. elim t as (λ _. Front) [ true ↦ Faulty (bad.Short n) | false ↦ elim (nat_lt LONGEST_FRAME n) as (λ _. Front) [ true ↦ Faulty (bad.Long n) | false ↦ cut_rest framing n rest ] ]) not_short
    ∙ ap (λ t. elim t as (λ _. Front) [ true ↦ Faulty (bad.Long n) | false ↦ cut_rest framing n rest ]) not_long)

-- a control message's body stands after its length
pub front-control : (framing : Framing) (bytes : List ℕ) (n : ℕ) (rest : List ℕ) (p : Found) → take_u32 bytes ≡ Some (n, rest) → framing ≡ Control → shortest framing ≤ n → n ≤ LONGEST_FRAME
    → IsFrameFront bytes p (cut_content n (drop 4 bytes)) → IsFrameFront bytes p (first_frame framing bytes)
front-control framing bytes n rest p e is low high h =
    let front : first_frame framing bytes ≡ cut_content n (drop 4 bytes) =
    front-in_range framing bytes n rest e low high ∙ (ap (λ k. cut_rest k n rest) is ∙ ap (cut_content n) (behind-length bytes n rest e).1) in
    subst (IsFrameFront bytes p) (sym front) h

-- a payload stands after its length and the padding length
pub front-proxy : (framing : Framing) (bytes : List ℕ) (n : ℕ) (rest : List ℕ) (b : ℕ) (after : List ℕ) (p : Found) → take_u32 bytes ≡ Some (n, rest) → framing ≡ Proxy → shortest framing ≤ n → n ≤ LONGEST_FRAME
    → take_u8 rest ≡ Some (b, after) → b ≡ 0 → IsFrameFront bytes p (cut_content (n - 1) (drop 5 bytes)) → IsFrameFront bytes p (first_frame framing bytes)
front-proxy framing bytes n [] b after p e is low high u zero_padding h = absurd (cc)
front-proxy framing bytes n (x ∷ rest) b after p e is low high u zero_padding h =
    let same : (x ≡ b) × (rest ≡ after) = value_and_rest _ _ u in
    let no_padding : nat_eq x 0 ≡ true = grind (arith, same.0, zero_padding) in
    let behind : rest ≡ drop 5 bytes = ap (drop 1) (behind-length bytes n (x ∷ rest) e).1 ∙ drop-drop 1 4 bytes in
    let front : first_frame framing bytes ≡ cut_content (n - 1) (drop 5 bytes) =
    front-in_range framing bytes n (x ∷ rest) e low high ∙ (ap (λ k. cut_rest k n (x ∷ rest)) is
    ∙ (ap (λ t. elim t as (λ _. Front) [ true ↦ cut_content (n - 1) rest | false ↦ Faulty (bad.Padding x) ]) no_padding ∙ ap (cut_content (n - 1)) behind)) in
    subst (IsFrameFront bytes p) (sym front) h
