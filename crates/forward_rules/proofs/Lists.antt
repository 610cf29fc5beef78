-- How the texts of a permission list are read from the front on.
use Rattle.std.proofs.Common.{◌≡◌, ◌<◌, ◌+◌, ℕ, List, [], ◌∷◌, ◌++◌, length, true, false, Bool, Option, Some, None, Result, Ok, Err, refl, ◌∙◌, ap, sym, arith, suc, zero, nat_le, take, drop, get_or, add-one}
use Rattle.std.specs.Prelude.{◌*◌, ◌-◌, ◌&&◌, ◌==◌, option_map}
use Rattle.std.proofs.lemmas.Bool.Decides.{nat_tests}
use Rattle.mux_history.specs.Policy.{Entry, before_last, digits}
use Rattle.memchr.specs.Find.{IsLastByte, is_byte}

-- entries before those that are read
abbrev pub behind : List Entry → Result (List Entry) ℕ → Result (List Entry) ℕ
behind es (Ok fs) = Ok (es ++ fs)
behind es (Err at) = Err at

-- a number that is too large stays so
pub too-large : (n : ℕ) (text : List ℕ) → 65535 < n → digits n text ≡ None
too-large n [] lt = ap (λ (b : Bool). elim b as (λ _. Option ℕ) [ true ↦ Some n | false ↦ None ]) (no n lt)
  where
    no : (n : ℕ) → 65535 < n → nat_le n 65535 ≡ false
    no n lt = grind (arith, nat_tests)
too-large n (b ∷ text) lt = by_case (too-large (n * 10 + (b - 48)) text) (nat_le 48 b && nat_le b 57)
  where
    by_case : (65535 < n * 10 + (b - 48) → digits (n * 10 + (b - 48)) text ≡ None) → (c : Bool) → (elim c as (λ _. Option ℕ) [ true ↦ digits (n * 10 + (b - 48)) text | false ↦ None ]) ≡ None
    by_case ih true = ih (omega (arith, lt))
    by_case ih false = refl

-- ---- the last byte of a kind

-- the byte at a place
abbrev pub at_place : List ℕ → ℕ → ℕ
at_place text i = get_or text i 0

-- one more byte in front
abbrev split_one : ℕ → ℕ → List ℕ → Option (List ℕ × List ℕ) → Option (List ℕ × List ℕ)
split_one end b text later = elim later [
  | Some parts ↦ Some (b ∷ parts.0, parts.1)
  | None ↦ elim (b == end) [ true ↦ Some ([], text) | false ↦ None ]
]

last-none : (end : ℕ) (text : List ℕ) → ((k : ℕ) → k < length text → (at_place text k == end) ≡ true → ⊥) → before_last end text ≡ None
last-none end [] none = refl
last-none end (b ∷ text) none = by_case (b == end) refl (last-none end text (λ k lt is. none (suc k) (omega (arith, lt)) is))
  where
    by_case : (c : Bool) → (b == end) ≡ c → before_last end text ≡ None → before_last end (b ∷ text) ≡ None
    by_case true h ih = absurd (none zero (omega arith) h)
    by_case false h ih = ap (split_one end b text) ih ∙ ap (λ (c : Bool). elim c as (λ _. Option (List ℕ × List ℕ)) [ true ↦ Some ([], text) | false ↦ None ]) h

last-some : (end : ℕ) (text : List ℕ) (i : ℕ) → i < length text → (at_place text i == end) ≡ true → ((k : ℕ) → i < k → k < length text → (at_place text k == end) ≡ true → ⊥) → before_last end text ≡ Some (take i text, drop (suc i) text)
last-some end [] i lt is none = absurd (omega (arith, lt))
last-some end (b ∷ text) zero lt is none =
    ap (split_one end b text) (last-none end text (λ k l t. none (suc k) (omega arith) (omega (arith, l)) t))
    ∙ ap (λ (c : Bool). elim c as (λ _. Option (List ℕ × List ℕ)) [ true ↦ Some ([], text) | false ↦ None ]) is
last-some end (b ∷ text) (suc n) lt is none =
    ap (split_one end b text) (last-some end text n (omega (arith, lt)) is (λ k l m t. none (suc k) (omega (arith, l)) (omega (arith, m)) t))

-- what a search from the end finds
pub around : (end : ℕ) (text : List ℕ) (r : Option ℕ) → IsLastByte (is_byte end) text r → before_last end text ≡ option_map (λ i. (take i text, drop (i + 1) text)) r
around end text None last = last-none end text (λ k lt is. last k (omega arith) lt is)
around end text (Some i) last =
    last-some end text i last.0.high last.1 (λ k l m is. last.0.after k (omega (arith, l)) m is)
    ∙ ap (λ n. Some (take i text, drop n text)) (sym (add-one i))
