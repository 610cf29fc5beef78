-- Frames: what a cut gives is spelled so, frames that are spelled are cut, and bytes that follow
-- change none.
use Rattle.std.proofs.Common.{◌≡◌, ℕ, zero, suc, ◌-◌, ◌≤◌, List, [], ◌∷◌, ◌++◌, length, true, false, Bool, refl, sym, ◌∙◌, ap, subst, arith, Some, None, take, drop, length-drop, length-append}
use Rattle.std.specs.Prelude.{nat_le, nat_lt, nat_eq}
use Rattle.std.proofs.lemmas.List.{take-append-le, drop-append-le}
use Rattle.ssh_grammar.specs.declared.fault.BadFrame.TheVariants as bad
use Rattle.ssh_grammar.specs.declared.framing.Framing.{Framing}
use Rattle.ssh_grammar.specs.declared.framing.Framing.TheVariants.{Control, Proxy}
use Rattle.ssh_grammar.specs.declared.numbers.TheConstants.{LONGEST_FRAME}
use Rattle.ssh_grammar.specs.Frames.{Front, Frame, More, Faulty, cut_content, cut_padding, shortest, cut_rest, cut_length, first_frame, Cut, with_frame, cut_by, cut}
use Rattle.ssh_grammar.specs.Laws.{cut_then}

-- ---- what is left after a frame is shorter by its header at least

abbrev pub IsShorter : ℕ → Front → Type 0
IsShorter n (Frame content rest) = length rest ≤ n
IsShorter n More = Unit {0}
IsShorter n (Faulty f) = Unit {0}

shorter-mono : (n m : ℕ) (f : Front) → n ≤ m → IsShorter n f → IsShorter m f
shorter-mono n m (Frame content rest) le h = omega arith
shorter-mono n m More le h = tt
shorter-mono n m (Faulty f) le h = tt

content-shorter : (n : ℕ) (rest : List ℕ) → IsShorter (length rest) (cut_content n rest)
content-shorter n rest = by_case (nat_le n (length rest))
  where
    by_case : (b : Bool) → IsShorter (length rest) (elim b as (λ _. Front) [ true ↦ Frame (take n rest) (drop n rest) | false ↦ More ])
    by_case true = omega (arith, length-drop n rest)
    by_case false = tt

padding-shorter : (n : ℕ) (rest : List ℕ) → IsShorter (length rest) (cut_padding n rest)
padding-shorter n [] = tt
padding-shorter n (b ∷ rest) = by_case (nat_eq b 0)
  where
    by_case : (t : Bool) → IsShorter (length (b ∷ rest)) (elim t as (λ _. Front) [ true ↦ cut_content (n - 1) rest | false ↦ Faulty (bad.Padding b) ])
    by_case true = shorter-mono (length rest) (length (b ∷ rest)) (cut_content (n - 1) rest) (omega arith) (content-shorter (n - 1) rest)
    by_case false = tt

rest-shorter : (framing : Framing) (n : ℕ) (rest : List ℕ) → IsShorter (length rest) (cut_rest framing n rest)
rest-shorter Control n rest = content-shorter n rest
rest-shorter Proxy n rest = padding-shorter n rest

length-shorter : (framing : Framing) (n : ℕ) (rest : List ℕ) → IsShorter (length rest) (cut_length framing n rest)
length-shorter framing n rest = by_case (nat_lt n (shortest framing)) (nat_lt LONGEST_FRAME n)
  where
    by_case : (b b' : Bool) → IsShorter (length rest) (elim b as (λ _. Front) [ true ↦ Faulty (bad.Short n) | false ↦ elim b' as (λ _. Front) [ true ↦ Faulty (bad.Long n) | false ↦ cut_rest framing n rest ] ])
    by_case true b' = tt
    by_case false true = tt
    by_case false false = rest-shorter framing n rest

pub first-shorter : (framing : Framing) (bytes : List ℕ) → IsShorter (length bytes - 4) (first_frame framing bytes)
first-shorter framing [] = tt
first-shorter framing (a ∷ []) = tt
first-shorter framing (a ∷ b ∷ []) = tt
first-shorter framing (a ∷ b ∷ c ∷ []) = tt
first-shorter framing (a ∷ b ∷ c ∷ d ∷ rest) = shorter-mono (length rest) (length (a ∷ b ∷ c ∷ d ∷ rest) - 4) (first_frame framing (a ∷ b ∷ c ∷ d ∷ rest)) (omega arith) (length-shorter framing _ rest)

-- ---- more fuel changes nothing

abbrev cut_front : (List ℕ → Cut) → List ℕ → Front → Cut
cut_front go bytes f = elim f as (λ _. Cut) [
  | Frame content rest ↦ with_frame content (go rest)
  | More ↦ record { frames = []; rest = bytes; fault = None }
  | Faulty fault ↦ record { frames = []; rest = bytes; fault = Some fault }
]

cut-nothing : (n : ℕ) (framing : Framing) → cut_by n framing [] ≡ record { frames = []; rest = []; fault = None }
cut-nothing zero framing = refl
cut-nothing (suc n) framing = refl

pub cut-fuel : (n m : ℕ) (framing : Framing) (bytes : List ℕ) → length bytes ≤ n → length bytes ≤ m → cut_by n framing bytes ≡ cut_by m framing bytes
cut-fuel zero m framing [] h k = sym (cut-nothing m framing)
cut-fuel zero m framing (b ∷ bytes) h k = absurd (omega arith)
cut-fuel (suc n) zero framing [] h k = cut-nothing (suc n) framing
cut-fuel (suc n) zero framing (b ∷ bytes) h k = absurd (omega arith)
cut-fuel (suc n) (suc m) framing bytes h k = by_case (first_frame framing bytes) (first-shorter framing bytes) (λ rest a b. cut-fuel n m framing rest a b)
  where
    by_case : (f : Front) → IsShorter (length bytes - 4) f → ((rest : List ℕ) → length rest ≤ n → length rest ≤ m → cut_by n framing rest ≡ cut_by m framing rest)
        → cut_front (cut_by n framing) bytes f ≡ cut_front (cut_by m framing) bytes f
    by_case (Frame content rest) s ih = ap (with_frame content) (ih rest (omega arith) (omega arith))
    by_case More s ih = refl
    by_case (Faulty f) s ih = refl

-- one step of a cut, with no fuel
pub cut-step : (framing : Framing) (bytes : List ℕ) → cut framing bytes ≡ cut_front (cut framing) bytes (first_frame framing bytes)
cut-step framing [] = refl
cut-step framing (x ∷ bytes) = by_case (first_frame framing (x ∷ bytes)) (first-shorter framing (x ∷ bytes))
  where
    by_case : (f : Front) → IsShorter (length (x ∷ bytes) - 4) f → cut_front (cut_by (length bytes) framing) (x ∷ bytes) f ≡ cut_front (cut framing) (x ∷ bytes) f
    by_case (Frame content rest) s = ap (with_frame content) (cut-fuel (length bytes) (length rest) framing rest (omega arith) (omega arith))
    by_case More s = refl
    by_case (Faulty f) s = refl

pub cut-at : (framing : Framing) (bytes : List ℕ) (f : Front) → first_frame framing bytes ≡ f → cut framing bytes ≡ cut_front (cut framing) bytes f
cut-at framing bytes f e = cut-step framing bytes ∙ ap (cut_front (cut framing) bytes) e

-- ---- what stands at the front stays when bytes follow

abbrev pub Extends : List ℕ → Front → Front → Type 0
Extends b (Frame content rest) g = g ≡ Frame content (rest ++ b)
Extends b More g = Unit {0}
Extends b (Faulty f) g = g ≡ Faulty f

content-extends : (n : ℕ) (rest b : List ℕ) → Extends b (cut_content n rest) (cut_content n (rest ++ b))
content-extends n rest b = by_case (nat_le n (length rest)) refl
  where
    by_case : (t : Bool) → nat_le n (length rest) ≡ t → Extends b (elim t as (λ _. Front) [ true ↦ Frame (take n rest) (drop n rest) | false ↦ More ]) (cut_content n (rest ++ b))
    by_case true e =
        let le : n ≤ length rest = grind arith in
        let more : nat_le n (length (rest ++ b)) ≡ true = grind (arith, length-append rest b) in
        ap (λ t. elim t as (λ _. Front) [ true ↦ Frame (take n (rest ++ b)) (drop n (rest ++ b)) | false ↦ More ]) more
        ∙ (ap (λ x. Frame x (drop n (rest ++ b))) (take-append-le n rest b le) ∙ ap (Frame (take n rest)) (drop-append-le n rest b le))
    by_case false e = tt

padding-extends : (n : ℕ) (rest b : List ℕ) → Extends b (cut_padding n rest) (cut_padding n (rest ++ b))
padding-extends n [] b = tt
padding-extends n (x ∷ rest) b = by_case (nat_eq x 0)
  where
    by_case : (t : Bool) → Extends b (elim t as (λ _. Front) [ true ↦ cut_content (n - 1) rest | false ↦ Faulty (bad.Padding x) ]) (elim t as (λ _. Front) [ true ↦ cut_content (n - 1) (rest ++ b) | false ↦ Faulty (bad.Padding x) ])
    by_case true = content-extends (n - 1) rest b
    by_case false = refl

rest-extends : (framing : Framing) (n : ℕ) (rest b : List ℕ) → Extends b (cut_rest framing n rest) (cut_rest framing n (rest ++ b))
rest-extends Control n rest b = content-extends n rest b
rest-extends Proxy n rest b = padding-extends n rest b

length-extends : (framing : Framing) (n : ℕ) (rest b : List ℕ) → Extends b (cut_length framing n rest) (cut_length framing n (rest ++ b))
length-extends framing n rest b = by_case (nat_lt n (shortest framing)) (nat_lt LONGEST_FRAME n)
  where
    by_case : (s t : Bool) → Extends b (elim s as (λ _. Front) [ true ↦ Faulty (bad.Short n) | false ↦ elim t as (λ _. Front) [ true ↦ Faulty (bad.Long n) | false ↦ cut_rest framing n rest ] ])
        (elim s as (λ _. Front) [ true ↦ Faulty (bad.Short n) | false ↦ elim t as (λ _. Front) [ true ↦ Faulty (bad.Long n) | false ↦ cut_rest framing n (rest ++ b) ] ])
    by_case true t = refl
    by_case false true = refl
    by_case false false = rest-extends framing n rest b

pub first-extends : (framing : Framing) (a b : List ℕ) → Extends b (first_frame framing a) (first_frame framing (a ++ b))
first-extends framing [] b = tt
first-extends framing (w ∷ []) b = tt
first-extends framing (w ∷ x ∷ []) b = tt
first-extends framing (w ∷ x ∷ y ∷ []) b = tt
first-extends framing (w ∷ x ∷ y ∷ z ∷ rest) b = length-extends framing _ rest b

-- ---- frames of joined pieces

abbrev JoinsTo : Framing → List ℕ → List ℕ → Type 0
JoinsTo framing a b = cut framing (a ++ b) ≡ cut_then (cut framing a) (cut framing ((cut framing a).rest ++ b))

joins-at : (framing : Framing) (a b : List ℕ) (f : Front) → first_frame framing a ≡ f → Extends b f (first_frame framing (a ++ b)) → ((content rest : List ℕ) → f ≡ Frame content rest → JoinsTo framing rest b) → JoinsTo framing a b
joins-at framing a b (Frame content rest) e x ih =
    cut-at framing (a ++ b) (Frame content (rest ++ b)) x
    ∙ (ap (with_frame content) (ih content rest refl)
    ∙ sym (ap (λ c. cut_then c (cut framing (c.rest ++ b))) (cut-at framing a (Frame content rest) e)))
joins-at framing a b More e x ih = sym (ap (λ c. cut_then c (cut framing (c.rest ++ b))) (cut-at framing a More e))
joins-at framing a b (Faulty f) e x ih = sym (ap (λ c. cut_then c (cut framing (c.rest ++ b))) (cut-at framing a (Faulty f) e))

joins-by : (n : ℕ) (framing : Framing) (a b : List ℕ) → length a ≤ n → JoinsTo framing a b
joins-by zero framing [] b h = refl
joins-by zero framing (x ∷ a) b h = absurd (omega arith)
joins-by (suc n) framing [] b h = refl
joins-by (suc n) framing (x ∷ a) b h = joins-at framing (x ∷ a) b (first_frame framing (x ∷ a)) refl (first-extends framing (x ∷ a) b) (λ content rest e.
    joins-by n framing rest b (let s : length rest ≤ length (x ∷ a) - 4 = subst (IsShorter (length (x ∷ a) - 4)) e (first-shorter framing (x ∷ a)) in omega arith))

-- what was cut stays, and what comes is cut after the rest
pub cut-append : (framing : Framing) (a b : List ℕ) → JoinsTo framing a b
cut-append framing a b = joins-by (length a) framing a b (omega arith)
