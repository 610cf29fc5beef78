-- How an address is written as a host.
use Rattle.std.specs.Prelude.{ℕ, ◌+◌, ◌*◌, ◌/◌, ◌%◌, List, [], ◌∷◌, ◌++◌, nat_le, nat_lt, if◌then◌else◌}

-- ---- IPv4: dotted decimal

-- a decimal digit
abbrev pub decimal_digit : ℕ → ℕ
decimal_digit n = 48 + n % 10

-- a byte in decimal
abbrev pub decimal : ℕ → List ℕ
decimal byte =
    (if nat_le 100 byte then decimal_digit (byte / 100) ∷ [] else [])
    ++ ((if nat_le 10 byte then decimal_digit (byte / 10) ∷ [] else []) ++ decimal_digit byte ∷ [])

-- bytes in decimal, each after a dot
abbrev pub behind_dots : List ℕ → List ℕ
behind_dots [] = []
behind_dots (byte ∷ bytes) = 46 ∷ (decimal byte ++ behind_dots bytes)

-- the four bytes of an address, joined by dots
abbrev pub dotted : List ℕ → List ℕ
dotted [] = []
dotted (byte ∷ bytes) = decimal byte ++ behind_dots bytes

-- ---- IPv6: groups of hexadecimal digits

-- a hexadecimal digit, in lower case
abbrev pub hex_digit : ℕ → ℕ
hex_digit n = if nat_lt (n % 16) 10 then 48 + n % 16 else 87 + n % 16

-- a group of two bytes in hexadecimal, without leading zeros
abbrev pub hexadecimal : ℕ → List ℕ
hexadecimal group =
    (if nat_le 4096 group then hex_digit (group / 4096) ∷ [] else [])
    ++ ((if nat_le 256 group then hex_digit (group / 256) ∷ [] else [])
    ++ ((if nat_le 16 group then hex_digit (group / 16) ∷ [] else []) ++ hex_digit group ∷ []))

-- groups in hexadecimal, each after a colon
abbrev pub behind_colons : List ℕ → List ℕ
behind_colons (high ∷ low ∷ bytes) = 58 ∷ (hexadecimal (high * 256 + low) ++ behind_colons bytes)
behind_colons _ = []

-- the eight groups of an address, joined by colons
abbrev pub grouped : List ℕ → List ℕ
grouped (high ∷ low ∷ bytes) = hexadecimal (high * 256 + low) ++ behind_colons bytes
grouped _ = []
