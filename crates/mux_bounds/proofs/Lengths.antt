-- How many bytes what is sent by new bytes holds.
use Rattle.std.proofs.Common.{◌≡◌, ℕ, zero, suc, ◌+◌, ◌-◌, ◌≤◌, List, [], ◌∷◌, ◌++◌, length, true, false, Bool, refl, ◌∙◌, ap, arith, sym, subst, take, drop, length-take, length-drop, length-append}
use Rattle.std.specs.Prelude.{nat_le, nat_lt, nat_eq}
use Rattle.std.proofs.lemmas.Bool.Decides.{nat_tests}
use Rattle.std.proofs.Math.Seq.{drop-append_seam}
use Rattle.ssh_grammar.specs.Frames.{Faulty, Frame, Front, More, cut_content, cut_length, cut_padding, cut_rest, first_frame, shortest}
use Rattle.ssh_grammar.specs.Said.{Body, InControl, InProxy, Mode, Parsed, Payload, Outgoing, Stopped, first_in, mode_after, parse, parse_by, parse_front, sending_in}
use Rattle.ssh_grammar.specs.declared.fault.BadFrame.TheVariants as bad_frame
use Rattle.ssh_grammar.specs.declared.framing.Framing.{Framing}
use Rattle.ssh_grammar.specs.declared.framing.Framing.TheVariants as framing
use Rattle.ssh_fields.specs.Fields.{of_four}
use Rattle.ssh_grammar.proofs.Cuts.{IsShorter}
use Rattle.ssh_grammar.proofs.Parses.{in-shorter, parse-append, parse-stopped}

not-longer : (n : ℕ) → nat_lt 262144 n ≡ false → n ≤ 262144
not-longer n e = grind (arith, nat_tests)

not-there : (n m : ℕ) → nat_le n m ≡ false → m + 1 ≤ n
not-there n m e = grind (arith, nat_tests)

-- ---- the payload of a frame, with its header

-- what is cut from so many bytes, after a header of so many more
abbrev Within : ℕ → ℕ → Front → Type 0
Within head total (Frame content rest) = length content + head + length rest ≤ total
Within head total More = Unit {0}
Within head total (Faulty fault) = Unit {0}

content-within : (n : ℕ) (rest : List ℕ) (head total : ℕ) → length rest + head ≤ total → Within head total (cut_content n rest)
content-within n rest head total le = by_case (nat_le n (length rest))
  where
    by_case : (b : Bool) → Within head total (elim b as (λ _. Front) [ true ↦ Frame (take n rest) (drop n rest) | false ↦ More ])
    by_case true = let a = length-take n rest in let b = length-drop n rest in omega (arith, le)
    by_case false = tt

padding-within : (n : ℕ) (rest : List ℕ) (total : ℕ) → length rest + 4 ≤ total → Within 5 total (cut_padding n rest)
padding-within n [] total le = tt
padding-within n (b ∷ rest) total le = by_case (nat_eq b 0)
  where
    by_case : (t : Bool) → Within 5 total (elim t as (λ _. Front) [ true ↦ cut_content (n - 1) rest | false ↦ Faulty (bad_frame.Padding b) ])
    by_case true = content-within (n - 1) rest 5 total (omega (arith, le))
    by_case false = tt

length-within : (n : ℕ) (rest : List ℕ) (total : ℕ) → length rest + 4 ≤ total → Within 5 total (cut_length framing.Proxy n rest)
length-within n rest total le = by_case (nat_lt n 2) (nat_lt 262144 n)
  where
    by_case : (s t : Bool) → Within 5 total (elim s as (λ _. Front) [ true ↦ Faulty (bad_frame.Short n) | false ↦ elim t as (λ _. Front) [ true ↦ Faulty (bad_frame.Long n) | false ↦ cut_padding n rest ] ])
    by_case true t = tt
    by_case false true = tt
    by_case false false = padding-within n rest total le

first-within : (bytes : List ℕ) → Within 5 (length bytes) (first_frame framing.Proxy bytes)
first-within [] = tt
first-within (w ∷ []) = tt
first-within (w ∷ x ∷ []) = tt
first-within (w ∷ x ∷ y ∷ []) = tt
first-within (w ∷ x ∷ y ∷ z ∷ rest) = length-within (of_four w x y z) rest (length (w ∷ x ∷ y ∷ z ∷ rest)) (omega arith)

-- ---- what is sent in payloads

-- the payloads as frames
abbrev pub payload_bytes : Outgoing → ℕ
payload_bytes (Payload p) = length p + 5
payload_bytes outgoing = 0

abbrev pub payloads_bytes : List Outgoing → ℕ
payloads_bytes [] = 0
payloads_bytes (s ∷ ss) = payload_bytes s + payloads_bytes ss

outgoing-within : (mode : Mode) (bytes content rest : List ℕ) → first_in mode bytes ≡ Frame content rest → payload_bytes (sending_in mode content) + length rest ≤ length bytes
outgoing-within InControl bytes content rest e = let s = subst (IsShorter (length bytes - 4)) e (in-shorter InControl bytes) in omega (arith, s)
outgoing-within InProxy bytes content rest e = let s = subst (Within 5 (length bytes)) e (first-within bytes) in omega (arith, s)
outgoing-within Stopped bytes content rest e = cc

parse-within : (n : ℕ) (mode : Mode) (bytes : List ℕ) → payloads_bytes (parse_by n mode bytes).says ≤ length bytes
parse-within zero mode bytes = omega arith
parse-within (suc n) mode bytes = by_front (first_in mode bytes) refl (λ mode rest. parse-within n mode rest)
  where
    by_front : (f : Front) → first_in mode bytes ≡ f → ((mode : Mode) (rest : List ℕ) → payloads_bytes (parse_by n mode rest).says ≤ length rest) → payloads_bytes (parse_front (parse_by n) mode bytes f).says ≤ length bytes
    by_front (Frame content rest) e ih = let a = outgoing-within mode bytes content rest e in let b = ih (mode_after mode content) rest in omega (arith, a, b)
    by_front More e ih = omega arith
    by_front (Faulty fault) e ih = omega arith

-- ---- the bytes that are not read yet

abbrev MoreWithin : ℕ → Front → Type 0
MoreWithin total More = total ≤ 262147
MoreWithin total (Frame content rest) = Unit {0}
MoreWithin total (Faulty fault) = Unit {0}

content-more : (n : ℕ) (rest : List ℕ) (total : ℕ) → total + n ≤ length rest + 262148 → MoreWithin total (cut_content n rest)
content-more n rest total le = by_case (nat_le n (length rest)) refl
  where
    by_case : (b : Bool) → nat_le n (length rest) ≡ b → MoreWithin total (elim b as (λ _. Front) [ true ↦ Frame (take n rest) (drop n rest) | false ↦ More ])
    by_case true e = tt
    by_case false e = let a = not-there n (length rest) e in omega (arith, le, a)

padding-more : (n : ℕ) (rest : List ℕ) → n ≤ 262144 → MoreWithin (length rest + 4) (cut_padding n rest)
padding-more n [] le = omega arith
padding-more n (b ∷ rest) le = by_case (nat_eq b 0)
  where
    by_case : (t : Bool) → MoreWithin (length (b ∷ rest) + 4) (elim t as (λ _. Front) [ true ↦ cut_content (n - 1) rest | false ↦ Faulty (bad_frame.Padding b) ])
    by_case true = content-more (n - 1) rest (length (b ∷ rest) + 4) (omega (arith, le))
    by_case false = tt

rest-more : (f : Framing) (n : ℕ) (rest : List ℕ) → n ≤ 262144 → MoreWithin (length rest + 4) (cut_rest f n rest)
rest-more framing.Control n rest le = content-more n rest (length rest + 4) (omega (arith, le))
rest-more framing.Proxy n rest le = padding-more n rest le

length-more : (f : Framing) (n : ℕ) (rest : List ℕ) → MoreWithin (length rest + 4) (cut_length f n rest)
length-more f n rest = by_case (nat_lt n (shortest f)) (nat_lt 262144 n) refl
  where
    by_case : (s t : Bool) → nat_lt 262144 n ≡ t → MoreWithin (length rest + 4) (elim s as (λ _. Front) [ true ↦ Faulty (bad_frame.Short n) | false ↦ elim t as (λ _. Front) [ true ↦ Faulty (bad_frame.Long n) | false ↦ cut_rest f n rest ] ])
    by_case true t e = tt
    by_case false true e = tt
    by_case false false e = rest-more f n rest (not-longer n e)

first-more : (f : Framing) (bytes : List ℕ) → MoreWithin (length bytes) (first_frame f bytes)
first-more f [] = omega arith
first-more f (w ∷ []) = omega arith
first-more f (w ∷ x ∷ []) = omega arith
first-more f (w ∷ x ∷ y ∷ []) = omega arith
first-more f (w ∷ x ∷ y ∷ z ∷ rest) = let e : length rest + 4 ≡ length (w ∷ x ∷ y ∷ z ∷ rest) = omega arith in subst (λ n. MoreWithin n (first_frame f (w ∷ x ∷ y ∷ z ∷ rest))) e (length-more f (of_four w x y z) rest)

-- where more is read, the rest is short
abbrev RestFew : Mode → List ℕ → Type 0
RestFew Stopped rest = Unit {0}
RestFew mode rest = length rest ≤ 262147

few-rest : (mode : Mode) (rest : List ℕ) → length rest ≤ 262147 → RestFew mode rest
few-rest Stopped rest le = tt
few-rest InControl rest le = le
few-rest InProxy rest le = le

more-rest : (mode : Mode) (bytes : List ℕ) → first_in mode bytes ≡ More → RestFew mode bytes
more-rest InControl bytes e = subst (MoreWithin (length bytes)) e (first-more framing.Control bytes)
more-rest InProxy bytes e = subst (MoreWithin (length bytes)) e (first-more framing.Proxy bytes)
more-rest Stopped bytes e = tt

parse-rest : (n : ℕ) (mode : Mode) (bytes : List ℕ) → length bytes ≤ n → RestFew (parse_by n mode bytes).mode (parse_by n mode bytes).rest
parse-rest zero mode bytes le = few-rest mode bytes (omega (arith, le))
parse-rest (suc n) mode bytes le = by_front (first_in mode bytes) refl (λ mode rest le. parse-rest n mode rest le)
  where
    by_front : (f : Front) → first_in mode bytes ≡ f → ((mode : Mode) (rest : List ℕ) → length rest ≤ n → RestFew (parse_by n mode rest).mode (parse_by n mode rest).rest) → RestFew (parse_front (parse_by n) mode bytes f).mode (parse_front (parse_by n) mode bytes f).rest
    by_front (Frame content rest) e ih = ih (mode_after mode content) rest (let s = subst (IsShorter (length bytes - 4)) e (in-shorter mode bytes) in omega (arith, le, s))
    by_front More e ih = more-rest mode bytes e
    by_front (Faulty fault) e ih = tt

pub rest-few : (mode : Mode) (bytes : List ℕ) → ((parse mode bytes).mode ≡ Stopped → ⊥) → length (parse mode bytes).rest ≤ 262147
rest-few mode bytes on = by_mode (parse mode bytes).mode (parse mode bytes).rest (parse-rest (length bytes) mode bytes (omega arith)) on
  where
    by_mode : (m : Mode) (rest : List ℕ) → RestFew m rest → (m ≡ Stopped → ⊥) → length rest ≤ 262147
    by_mode Stopped rest few on = absurd (on refl)
    by_mode InControl rest few on = few
    by_mode InProxy rest few on = few

-- ---- what is new

-- what new bytes say, after all bytes before them
abbrev pub new_sends : Mode → List ℕ → List ℕ → List Outgoing
new_sends mode before bytes = drop (length (parse mode before).says) (parse mode (before ++ bytes)).says

pub new-is : (mode : Mode) (before bytes : List ℕ) → new_sends mode before bytes ≡ (parse (parse mode before).mode ((parse mode before).rest ++ bytes)).says
new-is mode before bytes =
    ap (λ (p : Parsed). drop (length (parse mode before).says) p.says) (parse-append mode before bytes)
    ∙ drop-append_seam (parse mode before).says (parse (parse mode before).mode ((parse mode before).rest ++ bytes)).says

pub new-bytes : (mode : Mode) (before bytes : List ℕ) → payloads_bytes (new_sends mode before bytes) ≤ 262147 + length bytes
new-bytes mode before bytes = subst (λ ss. payloads_bytes ss ≤ 262147 + length bytes) (sym (new-is mode before bytes)) (by_mode (parse mode before).mode (parse mode before).rest (parse-rest (length before) mode before (omega arith)))
  where
    by_mode : (m : Mode) (rest : List ℕ) → RestFew m rest → payloads_bytes (parse m (rest ++ bytes)).says ≤ 262147 + length bytes
    by_mode Stopped rest few = let e = ap (λ (p : Parsed). payloads_bytes p.says) (parse-stopped (rest ++ bytes)) in omega (arith, e)
    by_mode InControl rest few = let a = parse-within (length (rest ++ bytes)) InControl (rest ++ bytes) in let b = length-append rest bytes in omega (arith, a, b, few)
    by_mode InProxy rest few = let a = parse-within (length (rest ++ bytes)) InProxy (rest ++ bytes) in let b = length-append rest bytes in omega (arith, a, b, few)

-- ---- the server sends payloads alone

abbrev pub NoBody : Outgoing → Type 0
NoBody (Body body) = ⊥
NoBody outgoing = Unit {0}

abbrev pub NoBodies : List Outgoing → Type 0
NoBodies [] = Unit {0}
NoBodies (s ∷ ss) = NoBody s × NoBodies ss

abbrev Proxied : Mode → Type 0
Proxied InControl = ⊥
Proxied mode = Unit {0}

parse-bodies : (n : ℕ) (mode : Mode) (bytes : List ℕ) → Proxied mode → NoBodies (parse_by n mode bytes).says
parse-bodies zero mode bytes proxied = tt
parse-bodies (suc n) mode bytes proxied = by_front (first_in mode bytes) (λ mode rest p. parse-bodies n mode rest p)
  where
    no-body : (mode : Mode) (content : List ℕ) → Proxied mode → NoBody (sending_in mode content)
    no-body InControl content p = absurd p
    no-body InProxy content p = tt
    no-body Stopped content p = tt

    stays : (mode : Mode) (content : List ℕ) → Proxied mode → Proxied (mode_after mode content)
    stays InControl content p = absurd p
    stays InProxy content p = tt
    stays Stopped content p = tt

    by_front : (f : Front) → ((mode : Mode) (rest : List ℕ) → Proxied mode → NoBodies (parse_by n mode rest).says) → NoBodies (parse_front (parse_by n) mode bytes f).says
    by_front (Frame content rest) ih = (no-body mode content proxied, ih (mode_after mode content) rest (stays mode content proxied))
    by_front More ih = tt
    by_front (Faulty fault) ih = (tt, tt)

bodies-drop : (n : ℕ) (ss : List Outgoing) → NoBodies ss → NoBodies (drop n ss)
bodies-drop zero ss all = all
bodies-drop (suc n) [] all = tt
bodies-drop (suc n) (s ∷ ss) all = bodies-drop n ss all.1

pub new-bodies : (before bytes : List ℕ) → NoBodies (new_sends InProxy before bytes)
new-bodies before bytes = bodies-drop (length (parse InProxy before).says) (parse InProxy (before ++ bytes)).says (parse-bodies (length (before ++ bytes)) InProxy (before ++ bytes) tt)
