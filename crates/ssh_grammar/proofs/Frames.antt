-- The bytes of frames: what is cut is spelled so, and what is spelled is cut.
use Rattle.std.proofs.Common.{◌≡◌, ℕ, zero, suc, ◌-◌, ◌+◌, ◌≤◌, List, [], ◌∷◌, ◌++◌, length, true, false, Bool, refl, sym, ◌∙◌, ap, subst, arith, Option, Some, None, take, drop, length-take, length-append, append_assoc}
use Rattle.std.specs.Prelude.{nat_le, nat_lt, nat_eq}
use Rattle.std.proofs.lemmas.List.{take-append-drop, take_at, drop_at}
use Rattle.std.proofs.lemmas.Bool.{eqb-true}
use Rattle.ssh_fields.specs.Fields.{AreBytes, u32, take_u32}
use Rattle.ssh_fields.proofs.Fields.{take_u32-is, of_four-u32, AreBytes-behind}
use Rattle.ssh_grammar.specs.declared.fault.BadFrame.{BadFrame}
use Rattle.ssh_grammar.specs.declared.fault.BadFrame.TheVariants as bad
use Rattle.ssh_grammar.specs.declared.framing.Framing.{Framing}
use Rattle.ssh_grammar.specs.declared.framing.Framing.TheVariants.{Control, Proxy}
use Rattle.ssh_grammar.specs.declared.numbers.TheConstants.{LONGEST_FRAME}
use Rattle.ssh_grammar.specs.Frames.{frame, Front, Frame, More, Faulty, cut_content, shortest, cut_rest, cut_length, first_frame, with_frame, cut}
use Rattle.ssh_grammar.specs.IsFrame.{IsContent, bytes_of_frames, Cuts}
use Rattle.ssh_grammar.proofs.Cuts.{IsShorter, first-shorter, cut-at}

-- ---- what is cut is spelled so

abbrev pub IsFirst : Framing → List ℕ → Front → Type 0
IsFirst framing bytes (Frame content rest) = IsContent framing content × (bytes ≡ frame framing content ++ rest)
IsFirst framing bytes More = Unit {0}
IsFirst framing bytes (Faulty f) = Unit {0}

-- so many bytes, of which the front says what is to be shown
content-is : (framing : Framing) (bytes : List ℕ) (n : ℕ) (rest : List ℕ) → ((content tail : List ℕ) → length content ≡ n → rest ≡ content ++ tail → IsFirst framing bytes (Frame content tail)) → IsFirst framing bytes (cut_content n rest)
content-is framing bytes n rest go = by_case (nat_le n (length rest)) refl
  where
    by_case : (t : Bool) → nat_le n (length rest) ≡ t → IsFirst framing bytes (elim t as (λ _. Front) [ true ↦ Frame (take n rest) (drop n rest) | false ↦ More ])
    by_case true e = let le : n ≤ length rest = grind arith in go (take n rest) (drop n rest) (omega (arith, length-take n rest)) (sym (take-append-drop n rest))
    by_case false e = tt

rest-is : (framing : Framing) (n : ℕ) (rest : List ℕ) → shortest framing ≤ n → n ≤ LONGEST_FRAME → IsFirst framing (u32 n ++ rest) (cut_rest framing n rest)
rest-is Control n rest low high = content-is Control (u32 n ++ rest) n rest (λ content tail len is.
    ((omega (arith, len), omega (arith, len)), ap (λ x. u32 n ++ x) is ∙ ap (λ m. u32 m ++ (content ++ tail)) (sym len)))
rest-is Proxy n [] low high = tt
rest-is Proxy n (b ∷ rest) low high = by_case (nat_eq b 0) refl
  where
    by_case : (t : Bool) → nat_eq b 0 ≡ t → IsFirst Proxy (u32 n ++ (b ∷ rest)) (elim t as (λ _. Front) [ true ↦ cut_content (n - 1) rest | false ↦ Faulty (bad.Padding b) ])
    by_case true e = content-is Proxy (u32 n ++ (b ∷ rest)) (n - 1) rest (λ content tail len is.
        let zero_padding : b ≡ 0 = eqb-true b 0 e in
        let size : n ≡ length content + 1 = omega (arith, len) in
        ((omega (arith, len), omega (arith, len)), ap (λ x. u32 n ++ (b ∷ x)) is ∙ (ap (λ c. u32 n ++ (c ∷ (content ++ tail))) zero_padding ∙ ap (λ m. u32 m ++ (0 ∷ (content ++ tail))) size)))
    by_case false e = tt

length-is : (framing : Framing) (n : ℕ) (rest : List ℕ) → IsFirst framing (u32 n ++ rest) (cut_length framing n rest)
length-is framing n rest = by_case (nat_lt n (shortest framing)) (nat_lt LONGEST_FRAME n) refl refl
  where
    by_case : (s t : Bool) → nat_lt n (shortest framing) ≡ s → nat_lt LONGEST_FRAME n ≡ t → IsFirst framing (u32 n ++ rest) (elim s as (λ _. Front) [ true ↦ Faulty (bad.Short n) | false ↦ elim t as (λ _. Front) [ true ↦ Faulty (bad.Long n) | false ↦ cut_rest framing n rest ] ])
    by_case true t i j = tt
    by_case false true i j = tt
    by_case false false i j = rest-is framing n rest (grind arith) (grind arith)

pub first-is : (framing : Framing) (bytes : List ℕ) → AreBytes bytes → IsFirst framing bytes (first_frame framing bytes)
first-is framing bytes h = by_case (take_u32 bytes) refl
  where
    by_case : (o : Option (ℕ × List ℕ)) → take_u32 bytes ≡ o → IsFirst framing bytes (elim o as (λ _. Front) [ None ↦ More | Some p ↦ cut_length framing p.0 p.1 ])
    by_case None e = tt
    by_case (Some p) e = subst (λ x. IsFirst framing x (cut_length framing p.0 p.1)) (sym (take_u32-is bytes p.0 p.1 h e).0) (length-is framing p.0 p.1)

-- ---- what is spelled is cut

content-cut : (content rest : List ℕ) (n : ℕ) → n ≡ length content → cut_content n (content ++ rest) ≡ Frame content rest
content-cut content rest n len =
    let long : nat_le n (length (content ++ rest)) ≡ true = grind (arith, length-append content rest, len) in
    ap (λ t. elim t as (λ _. Front) [ true ↦ Frame (take n (content ++ rest)) (drop n (content ++ rest)) | false ↦ More ]) long
    ∙ (ap (λ x. Frame x (drop n (content ++ rest))) (take_at content rest n (sym len)) ∙ ap (Frame content) (drop_at content rest n (sym len)))

length-cut : (framing : Framing) (n : ℕ) (rest : List ℕ) → shortest framing ≤ n → n ≤ LONGEST_FRAME → cut_length framing n rest ≡ cut_rest framing n rest
length-cut framing n rest low high =
    let not_short : nat_lt n (shortest framing) ≡ false = grind arith in
    let not_long : nat_lt LONGEST_FRAME n ≡ false = grind arith in
    ap (λ s. elim s as (λ _. Front) [ true ↦ Faulty (bad.Short n) | false ↦ elim (nat_lt LONGEST_FRAME n) as (λ _. Front) [ true ↦ Faulty (bad.Long n) | false ↦ cut_rest framing n rest ] ]) not_short
    ∙ ap (λ t. elim t as (λ _. Front) [ true ↦ Faulty (bad.Long n) | false ↦ cut_rest framing n rest ]) not_long

pub first-frame : (framing : Framing) (content rest : List ℕ) → IsContent framing content → first_frame framing (frame framing content ++ rest) ≡ Frame content rest
first-frame Control content rest is =
    ap (λ n. cut_length Control n (content ++ rest)) (of_four-u32 (length content) (omega (arith, is.1)))
    ∙ (length-cut Control (length content) (content ++ rest) is.0 is.1 ∙ content-cut content rest (length content) refl)
first-frame Proxy content rest is =
    ap (λ n. cut_length Proxy n (0 ∷ (content ++ rest))) (of_four-u32 (length content + 1) (omega (arith, is.1)))
    ∙ (length-cut Proxy (length content + 1) (0 ∷ (content ++ rest)) (omega (arith, is.0)) is.1 ∙ content-cut content rest (length content + 1 - 1) (omega arith))

pub cut-frame : (framing : Framing) (content rest : List ℕ) → IsContent framing content → cut framing (frame framing content ++ rest) ≡ with_frame content (cut framing rest)
cut-frame framing content rest is = cut-at framing (frame framing content ++ rest) (Frame content rest) (first-frame framing content rest is)

-- ---- all frames

cut-is-at : (framing : Framing) (bytes : List ℕ) (f : Front) → first_frame framing bytes ≡ f → IsFirst framing bytes f → ((content rest : List ℕ) → f ≡ Frame content rest → Cuts framing rest (cut framing rest)) → Cuts framing bytes (cut framing bytes)
cut-is-at framing bytes (Frame content rest) e is ih =
    let tail = ih content rest refl in
    subst (Cuts framing bytes) (sym (cut-at framing bytes (Frame content rest) e)) (record {
      valid = (is.0, tail.valid);
      filled = is.1 ∙ (ap (λ x. frame framing content ++ x) tail.filled ∙ sym (append_assoc (frame framing content) (bytes_of_frames framing (cut framing rest).frames) (cut framing rest).rest));
      longest = tail.longest;
    })
cut-is-at framing bytes More e is ih = subst (Cuts framing bytes) (sym (cut-at framing bytes More e)) (record { valid = tt; filled = refl; longest = e })
cut-is-at framing bytes (Faulty f) e is ih = subst (Cuts framing bytes) (sym (cut-at framing bytes (Faulty f) e)) (record { valid = tt; filled = refl; longest = e })

cut-is-by : (n : ℕ) (framing : Framing) (bytes : List ℕ) → length bytes ≤ n → AreBytes bytes → Cuts framing bytes (cut framing bytes)
cut-is-by n framing [] le h = record { valid = tt; filled = refl; longest = refl }
cut-is-by zero framing (b ∷ bytes) le h = absurd (omega arith)
cut-is-by (suc n) framing (b ∷ bytes) le h = cut-is-at framing (b ∷ bytes) (first_frame framing (b ∷ bytes)) refl (first-is framing (b ∷ bytes) h) (λ content rest e.
    let s : length rest ≤ length (b ∷ bytes) - 4 = subst (IsShorter (length (b ∷ bytes) - 4)) e (first-shorter framing (b ∷ bytes)) in
    let is : IsContent framing content × (b ∷ bytes ≡ frame framing content ++ rest) = subst (IsFirst framing (b ∷ bytes)) e (first-is framing (b ∷ bytes) h) in
    cut-is-by n framing rest (omega arith) (AreBytes-behind (frame framing content) rest (subst AreBytes is.1 h)))

-- the frames of a cut are valid, fill the bytes up to the rest, and are all
pub cut-is : (framing : Framing) (bytes : List ℕ) → AreBytes bytes → Cuts framing bytes (cut framing bytes)
cut-is framing bytes h = cut-is-by (length bytes) framing bytes (omega arith) h

-- and no other frames do that
pub cut-only : (framing : Framing) (bytes : List ℕ) (frames : List (List ℕ)) (rest : List ℕ) (fault : Option BadFrame) → Cuts framing bytes (record { frames = frames; rest = rest; fault = fault }) → cut framing bytes ≡ record { frames = frames; rest = rest; fault = fault }
cut-only framing bytes [] rest None is = ap (cut framing) is.filled ∙ cut-at framing rest More is.longest
cut-only framing bytes [] rest (Some fault) is = ap (cut framing) is.filled ∙ cut-at framing rest (Faulty fault) is.longest
cut-only framing bytes (content ∷ frames) rest fault is =
    let more : Cuts framing (bytes_of_frames framing frames ++ rest) (record { frames = frames; rest = rest; fault = fault }) = record { valid = is.valid.1; filled = refl; longest = is.longest } in
    ap (cut framing) (is.filled ∙ append_assoc (frame framing content) (bytes_of_frames framing frames) rest)
    ∙ (cut-frame framing content (bytes_of_frames framing frames ++ rest) is.valid.0 ∙ ap (with_frame content) (cut-only framing (bytes_of_frames framing frames ++ rest) frames rest fault more))
