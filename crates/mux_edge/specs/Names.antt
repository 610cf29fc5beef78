-- Names of hosts, and what a look-up writes of one: a row for each address and kind of socket, with
-- the address in its first column and the kind after it.
use Rattle.std.specs.Prelude.{◌≡◌, ◌==◌, ◌⊎◌, ◌&&◌, ◌||◌, not, if◌then◌else◌, ℕ, Bool, true, false, List, [], ◌∷◌, ◌++◌, length, take, drop, nat_le, nat_eq, codes}
use Rattle.std.specs.List.{list_all, prefix_len, starts_with}
use Rattle.std.specs.Char.{is_ascii_alphanumeric}
use Rattle.std.specs.Net.Grammar.{IsIpText}
use Rattle.std.specs.declared.net.ip_addr.IpAddr.{IpAddr}

-- ---- names

-- a letter, a digit, a dot, a dash or an underscore
abbrev pub is_name_byte : ℕ → Bool
is_name_byte b = is_ascii_alphanumeric b || (b == 46 || (b == 45 || b == 95))

-- there is a first byte, and it is no dash
abbrev pub begins_name : List ℕ → Bool
begins_name [] = false
begins_name (b ∷ bs) = not (b == 45)

-- 1 to 255 of these, and no dash first
abbrev pub is_name : List ℕ → Bool
is_name bytes = begins_name bytes && (nat_le (length bytes) 255 && list_all is_name_byte bytes)

-- ---- rows

-- what stands before the first blank
abbrev pub column : List ℕ → List ℕ
column line = take (prefix_len (λ b. not (b == 32)) line) line

-- what stands from there on
abbrev pub behind_column : List ℕ → List ℕ
behind_column line = drop (prefix_len (λ b. not (b == 32)) line) line

-- what stands after the blanks
abbrev pub text_after_blanks : List ℕ → List ℕ
text_after_blanks line = drop (prefix_len (λ b. b == 32) (behind_column line)) (behind_column line)

-- a line is a row of this address, for a stream
abbrev pub IsStreamRow : List ℕ → IpAddr → Type 0
IsStreamRow line ip =
    IsIpText (column line) ip × (starts_with nat_eq (text_after_blanks line) (codes "STREAM") ≡ true)

-- ---- the whole output

-- the lines with this byte at the front of the first
abbrev pub in_first_line : ℕ → List (List ℕ) → List (List ℕ)
in_first_line b [] = (b ∷ []) ∷ []
in_first_line b (line ∷ lines) = (b ∷ line) ∷ lines

-- the lines of a text
abbrev pub lines_of : List ℕ → List (List ℕ)
lines_of [] = []
lines_of (b ∷ bs) = if b == 10 then [] ∷ lines_of bs else in_first_line b (lines_of bs)

-- a line adds the address that it is a row of, and nothing else
abbrev pub AddsRow : List ℕ → List IpAddr → List IpAddr → Type 0
AddsRow line old new =
    ((ip : IpAddr) × IsStreamRow line ip × (new ≡ old ++ ip ∷ []))
    ⊎ (((ip : IpAddr) → ¬ (IsStreamRow line ip)) × (new ≡ old))

-- lines add what each of them adds, in their order
abbrev pub AddsRows : List (List ℕ) → List IpAddr → List IpAddr → Type 0
AddsRows [] old new = new ≡ old
AddsRows (line ∷ lines) old new =
    (now : List IpAddr) × AddsRow line old now × AddsRows lines now new
