-- The data types of RFC 4251, section 5: how each is spelled as bytes, and what bytes spell.
-- A reader gives the value and the bytes after it, and nothing where too few bytes remain.
use Rattle.std.specs.Prelude.{ℕ, ◌+◌, ◌*◌, ◌/◌, ◌%◌, ◌<◌, List, [], ◌∷◌, ◌++◌, length, take, drop, Option, Some, None, Bool, true, false, nat_eq, nat_le, not}
use Rattle.std.specs.List.{AllByRecursion}

-- each of them is a byte
abbrev pub AreBytes : List ℕ → Type 0
AreBytes = AllByRecursion (λ b. b < 256)

-- ---- how a value is spelled

-- uint32: four bytes, the most significant first
abbrev pub u32 : ℕ → List ℕ
u32 n = (n / 16777216) % 256 ∷ (n / 65536) % 256 ∷ (n / 256) % 256 ∷ n % 256 ∷ []

-- string: its length as a uint32, and then its bytes
abbrev pub str : List ℕ → List ℕ
str s = u32 (length s) ++ s

-- boolean: one byte, 1 for true and 0 for false
abbrev pub bool : Bool → List ℕ
bool true = 1 ∷ []
bool false = 0 ∷ []

-- ---- what bytes spell

-- the number that four bytes spell
abbrev pub of_four : ℕ → ℕ → ℕ → ℕ → ℕ
of_four a b c d = a * 16777216 + b * 65536 + c * 256 + d

-- every byte but 0 is true
abbrev pub is_true : ℕ → Bool
is_true b = not (nat_eq b 0)

-- byte
abbrev pub take_u8 : List ℕ → Option (ℕ × List ℕ)
take_u8 [] = None
take_u8 (b ∷ rest) = Some (b, rest)

-- boolean
abbrev pub take_bool : List ℕ → Option (Bool × List ℕ)
take_bool [] = None
take_bool (b ∷ rest) = Some (is_true b, rest)

-- uint32
abbrev pub take_u32 : List ℕ → Option (ℕ × List ℕ)
take_u32 (a ∷ b ∷ c ∷ d ∷ rest) = Some (of_four a b c d, rest)
take_u32 _ = None

-- so many bytes
abbrev pub split_at : ℕ → List ℕ → Option (List ℕ × List ℕ)
split_at n bytes = elim (nat_le n (length bytes)) [
  | true ↦ Some (take n bytes, drop n bytes)
  | false ↦ None
]

-- string
abbrev pub take_str : List ℕ → Option (List ℕ × List ℕ)
take_str bytes = elim (take_u32 bytes) [ None ↦ None | Some p ↦ split_at p.0 p.1 ]

-- ---- numbers in place

-- the uint32 that stands at a place, and 0 where the bytes end before it does
abbrev pub u32_at : ℕ → List ℕ → ℕ
u32_at at bytes = elim (take_u32 (drop at bytes)) [ None ↦ 0 | Some p ↦ p.0 ]

-- the same bytes, but for the uint32 that stands at a place
abbrev pub with_u32 : List ℕ → ℕ → ℕ → List ℕ
with_u32 bytes at n = take at bytes ++ (u32 n ++ drop (at + 4) bytes)
