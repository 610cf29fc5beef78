-- Where more is wanted a proper prefix of a frame stands.
use Rattle.std.proofs.Common.{arith, ◌≡◌, ℕ, zero, suc, ◌+◌, ◌-◌, ◌^◌, ◌<◌, ◌≤◌, List, [], ◌∷◌, ◌++◌, length, refl, sym, ◌∙◌, ap, Some, inl, inr, append_assoc, length-append}
use Rattle.std.specs.Prelude.{◌≢◌, replicate}
use Rattle.std.proofs.lemmas.List.{append-nil, length-replicate, nil_from_length}
use Rattle.ssh_fields.specs.Fields.{AreBytes, u32, of_four, take_u32}
use Rattle.ssh_fields.proofs.Fields.{take_u32-is, take_u32-u32, u32-of_four, of_four-fits, value_and_rest}
use Rattle.ssh_grammar.specs.declared.fault.BadFrame.{BadFrame}
use Rattle.ssh_grammar.specs.declared.framing.Framing.{Framing}
use Rattle.ssh_grammar.specs.declared.framing.Framing.TheVariants.{Control, Proxy}
use Rattle.ssh_grammar.specs.Frames.{frame, Front, Frame, More, Faulty, first_frame, shortest}
use Rattle.ssh_grammar.specs.IsFrame.{IsContent}
use Rattle.ssh_grammar.proofs.Frames.{IsFirst, first-is}
use Rattle.proxy_frames.specs.Fronts.{HasNoPadding, IsUnfinished, IsPartial, IsPrefix, IsFault}
use Rattle.proxy_frames.specs.Laws.{MoreIsPrefix}
use Rattle.proxy_frames.proofs.Records.{more-partial, fault-recorded}

-- ---- less than a whole frame goes on to one

-- bytes that could come
abbrev zeros : ℕ → List ℕ
zeros n = replicate n 0

zeros-fine : (framing : Framing) (n : ℕ) → HasNoPadding framing (zeros n)
zeros-fine Control n = tt
zeros-fine Proxy zero = tt
zeros-fine Proxy (suc n) = refl

more-fine : (framing : Framing) (behind : List ℕ) (n : ℕ) → HasNoPadding framing behind → HasNoPadding framing (behind ++ zeros n)
more-fine Control behind n fine = tt
more-fine Proxy [] n fine = zeros-fine Proxy n
more-fine Proxy (b ∷ behind) n fine = fine

-- a length field, no padding and so many bytes are a frame
goes-on : (framing : Framing) (bytes tail : List ℕ) (n : ℕ) (body : List ℕ) → bytes ++ tail ≡ u32 n ++ body → HasNoPadding framing body → length body ≡ n → 1 ≤ n → n < 2 ^ 32 → tail ≢ [] → IsPrefix framing bytes
goes-on Control bytes tail n body whole fine len least fits proper =
    record { content = body; tail = tail; fits = omega arith; whole = whole ∙ ap (λ k. u32 k ++ body) (sym len); proper = proper }
goes-on Proxy bytes tail n [] whole fine len least fits proper = absurd (omega arith)
goes-on Proxy bytes tail n (b ∷ body) whole fine len least fits proper =
    let size : n ≡ length body + 1 = omega arith in
    record { content = body; tail = tail; fits = omega arith; whole = whole ∙ (ap (λ k. u32 k ++ (b ∷ body)) size ∙ ap (λ k. u32 (length body + 1) ++ (k ∷ body)) fine); proper = proper }

-- three bytes of a length field, and a fourth
field-goes_on : (framing : Framing) (a b c : ℕ) (bytes tail : List ℕ) → a < 256 → b < 256 → c < 256 → bytes ++ tail ≡ a ∷ b ∷ c ∷ 1 ∷ zeros (of_four a b c 1) → tail ≢ [] → IsPrefix framing bytes
field-goes_on framing a b c bytes tail p q r whole proper =
    let n : ℕ = of_four a b c 1 in
    goes-on framing bytes tail n (zeros n) (whole ∙ ap (λ h. h ++ zeros n) (sym (u32-of_four a b c 1 p q r (omega arith)))) (zeros-fine framing n) (length-replicate n 0) (omega arith) (of_four-fits a b c 1 p q r (omega arith)) proper

short-goes_on : (framing : Framing) (bytes : List ℕ) → AreBytes bytes → length bytes < 4 → IsPrefix framing bytes
short-goes_on framing [] h short = field-goes_on framing 0 0 0 [] (0 ∷ 0 ∷ 0 ∷ 1 ∷ zeros (of_four 0 0 0 1)) (omega arith) (omega arith) (omega arith) refl (λ (e : 0 ∷ 0 ∷ 0 ∷ 1 ∷ zeros (of_four 0 0 0 1) ≡ []). cc)
short-goes_on framing (a ∷ []) h short = field-goes_on framing a 0 0 (a ∷ []) (0 ∷ 0 ∷ 1 ∷ zeros (of_four a 0 0 1)) h.0 (omega arith) (omega arith) refl (λ (e : 0 ∷ 0 ∷ 1 ∷ zeros (of_four a 0 0 1) ≡ []). cc)
short-goes_on framing (a ∷ b ∷ []) h short = field-goes_on framing a b 0 (a ∷ b ∷ []) (0 ∷ 1 ∷ zeros (of_four a b 0 1)) h.0 h.1.0 (omega arith) refl (λ (e : 0 ∷ 1 ∷ zeros (of_four a b 0 1) ≡ []). cc)
short-goes_on framing (a ∷ b ∷ c ∷ []) h short = field-goes_on framing a b c (a ∷ b ∷ c ∷ []) (1 ∷ zeros (of_four a b c 1)) h.0 h.1.0 h.1.1.0 refl (λ (e : 1 ∷ zeros (of_four a b c 1) ≡ []). cc)
short-goes_on framing (a ∷ b ∷ c ∷ d ∷ bytes) h short = absurd (omega arith)

wanted : (n m : ℕ) → m < n → zeros (n - m) ≢ []
wanted n m less e = let none : n - m ≡ 0 = sym (length-replicate (n - m) 0) ∙ ap length e in absurd (omega arith)

least-is : (framing : Framing) → 1 ≤ shortest framing
least-is Control = omega arith
least-is Proxy = omega arith

unfinished-goes_on : (framing : Framing) (bytes : List ℕ) (n : ℕ) (behind : List ℕ) → AreBytes bytes → IsUnfinished framing bytes n behind → IsPrefix framing bytes
unfinished-goes_on framing bytes n behind h is =
    let reads : (bytes ≡ u32 n ++ behind) × (n < 2 ^ 32) = take_u32-is bytes n behind h is.header.reads in
    let tail : List ℕ = zeros (n - length behind) in
    goes-on framing bytes tail n (behind ++ tail) (ap (λ b. b ++ tail) reads.0 ∙ append_assoc (u32 n) behind tail) (more-fine framing behind (n - length behind) is.padding)
    (omega (arith, length-append behind tail, length-replicate {A = ℕ} (n - length behind) 0, is.short)) (omega (arith, least-is framing, is.header.least)) reads.1 (wanted n (length behind) is.short)

partial-goes_on : (framing : Framing) (bytes : List ℕ) → AreBytes bytes → IsPartial framing bytes → IsPrefix framing bytes
partial-goes_on framing bytes h (inl short) = short-goes_on framing bytes h short
partial-goes_on framing bytes h (inr is) = unfinished-goes_on framing bytes is.0 is.1 h is.2

-- ---- a proper prefix of a frame has no whole one in front

-- the length field of a frame, and what follows it
abbrev field_of : Framing → List ℕ → ℕ
field_of Control content = length content
field_of Proxy content = length content + 1

abbrev body_of : Framing → List ℕ → List ℕ
body_of Control content = content
body_of Proxy content = 0 ∷ content

field-reads : (framing : Framing) (content rest : List ℕ) → field_of framing content < 2 ^ 32 → take_u32 (frame framing content ++ rest) ≡ Some (field_of framing content, body_of framing content ++ rest)
field-reads Control content rest fits = take_u32-u32 (length content) (content ++ rest) fits
field-reads Proxy content rest fits = take_u32-u32 (length content + 1) (0 ∷ (content ++ rest)) fits

valid-fits : (framing : Framing) (content : List ℕ) → IsContent framing content → field_of framing content < 2 ^ 32
valid-fits Control content is = omega (arith, is.1)
valid-fits Proxy content is = omega (arith, is.1)

frame-fits : (framing : Framing) (content : List ℕ) → length (frame framing content) < 2 ^ 32 + 4 → field_of framing content < 2 ^ 32
frame-fits Control content h = omega arith
frame-fits Proxy content h = omega arith

-- of one field and one length in all, nothing is left over
nothing-left : (framing : Framing) (content other more : List ℕ) → field_of framing content ≡ field_of framing other → body_of framing content ++ more ≡ body_of framing other ++ [] → length more ≡ 0
nothing-left Control content other more field whole = omega (arith, length-append content more, length-append other [], ap length whole)
nothing-left Proxy content other more field whole = omega (arith, length-append content more, length-append other [], ap length whole)

no-frame : (framing : Framing) (bytes content rest : List ℕ) → IsContent framing content → bytes ≡ frame framing content ++ rest → IsPrefix framing bytes → ⊥
no-frame framing bytes content rest valid is p =
    let whole : frame framing content ++ (rest ++ p.tail) ≡ frame framing p.content ++ [] =
    sym (append_assoc (frame framing content) rest p.tail) ∙ (ap (λ b. b ++ p.tail) (sym is) ∙ (p.whole ∙ sym (append-nil (frame framing p.content)))) in
    let same : (field_of framing content ≡ field_of framing p.content) × (body_of framing content ++ (rest ++ p.tail) ≡ body_of framing p.content ++ []) = value_and_rest _ _
    (sym (field-reads framing content (rest ++ p.tail) (valid-fits framing content valid)) ∙ (ap take_u32 whole ∙ field-reads framing p.content [] (frame-fits framing p.content p.fits))) in
    let none : length (rest ++ p.tail) ≡ 0 = nothing-left framing content p.content (rest ++ p.tail) same.0 same.1 in
    p.proper (nil_from_length p.tail (omega (arith, length-append rest p.tail, none)))

pub more-prefix : MoreIsPrefix
more-prefix framing bytes h = (
  λ (more : first_frame framing bytes ≡ More). (partial-goes_on framing bytes h ((more-partial framing bytes).0 more), λ fault is. let there : first_frame framing bytes ≡ Faulty fault = (fault-recorded framing bytes fault).1 is in cc),
  by_front (first_frame framing bytes) refl (first-is framing bytes h),
)
  where
    by_front : (front : Front) → first_frame framing bytes ≡ front → IsFirst framing bytes front → IsPrefix framing bytes × ((fault : BadFrame) → IsFault framing bytes fault → ⊥) → first_frame framing bytes ≡ More
    by_front (Frame content rest) e is p = absurd (no-frame framing bytes content rest is.0 is.1 p.0)
    by_front More e is p = e
    by_front (Faulty fault) e is p = absurd (p.1 fault ((fault-recorded framing bytes fault).0 e))
