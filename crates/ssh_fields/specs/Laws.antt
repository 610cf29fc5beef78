-- The two directions of each field, over all bytes.
use Rattle.std.specs.Prelude.{◌≡◌, ℕ, ◌+◌, ◌^◌, ◌<◌, ◌≤◌, List, ◌++◌, length, take, drop, Some, Bool}
use Rattle.ssh_fields.specs.Fields.{AreBytes, u32, str, bool, take_u32, take_str, take_bool, u32_at, with_u32}

-- what is spelled reads back, whatever follows it
abbrev pub NumbersReadBack : Type 0
NumbersReadBack = (n : ℕ) (rest : List ℕ) → n < 2 ^ 32 → take_u32 (u32 n ++ rest) ≡ Some (n, rest)

abbrev pub StringsReadBack : Type 0
StringsReadBack = (s rest : List ℕ) → length s < 2 ^ 32 → take_str (str s ++ rest) ≡ Some (s, rest)

abbrev pub BooleansReadBack : Type 0
BooleansReadBack = (b : Bool) (rest : List ℕ) → take_bool (bool b ++ rest) ≡ Some (b, rest)

-- what reads is spelled so, and has no other spelling
abbrev pub NumbersAreSpelledSo : Type 0
NumbersAreSpelledSo =
    (bytes : List ℕ) (n : ℕ) (rest : List ℕ) → AreBytes bytes → take_u32 bytes ≡ Some (n, rest)
    → (bytes ≡ u32 n ++ rest) × (n < 2 ^ 32)

abbrev pub StringsAreSpelledSo : Type 0
StringsAreSpelledSo =
    (bytes s rest : List ℕ) → AreBytes bytes → take_str bytes ≡ Some (s, rest)
    → (bytes ≡ str s ++ rest) × (length s < 2 ^ 32)

-- a number put in place is the number that stands there, among the bytes that stood around it
abbrev pub PatchedNumberStands : Type 0
PatchedNumberStands =
    (bytes : List ℕ) (at n : ℕ) → at + 4 ≤ length bytes → n < 2 ^ 32
    → u32_at at (with_u32 bytes at n) ≡ n

abbrev pub PatchKeepsTheRest : Type 0
PatchKeepsTheRest =
    (bytes : List ℕ) (at n : ℕ) → at + 4 ≤ length bytes
    → (length (with_u32 bytes at n) ≡ length bytes)
    × (take at (with_u32 bytes at n) ≡ take at bytes)
    × (drop (at + 4) (with_u32 bytes at n) ≡ drop (at + 4) bytes)
