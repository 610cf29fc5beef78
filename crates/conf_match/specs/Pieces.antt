-- Pieces of a pattern, without where their bytes lie.
use Rattle.std.specs.Prelude.{◌≡◌, ◌==◌, ℕ, ◌+◌, ◌≤◌, Bool, true, false, if◌then◌else◌, List, [], ◌∷◌, length, drop, map, Option, Some, None}
use Rattle.conf_rules.specs.Texts.{Bytes, has}
use Rattle.conf_rules.specs.Globs as globs
use Rattle.conf_rules.specs.Globs.{piece_at, pieces_from, pieces_take}
use Rattle.conf_match.specs.declared.pieces.PatternPiece.{PatternPiece}
use Rattle.conf_match.specs.declared.pieces.PatternPiece.TheVariants as pieces
use Rattle.conf_match.specs.declared.pieces.Syntax.{Syntax}
use Rattle.conf_match.specs.declared.pieces.Syntax.TheVariants.{Pattern, Glob}

-- the end of a range after its first byte, and what follows
unfoldable pub range_end : Bytes → Option (ℕ × Bytes)
range_end [] = None
range_end (y ∷ []) = None
range_end (y ∷ z ∷ rest) = if y == 45 then Some (z, rest) else None

-- a piece as definitions see it
abbrev pub piece_meaning : PatternPiece → globs.Piece
piece_meaning pieces.Any = globs.Any
piece_meaning pieces.One = globs.One
piece_meaning (pieces.Same b) = globs.Same b
piece_meaning (pieces.Class negated members) = globs.Class negated members.now

-- a piece, and how many more bytes it consumes
abbrev pub with_count : PatternPiece × ℕ → globs.Piece × ℕ
with_count p = (piece_meaning p.0, p.1)

-- whether a piece is a star
abbrev pub is_any : globs.Piece → Bool
is_any globs.Any = true
is_any piece = false

-- the piece of a byte where there are no classes
abbrev pub plain_piece : ℕ → globs.Piece
plain_piece b = if b == 42 then globs.Any else (if b == 63 then globs.One else globs.Same b)

-- the pieces of a pattern
abbrev pub pieces_by : Syntax → Bytes → List globs.Piece
pieces_by Pattern pattern = map plain_piece pattern
pieces_by (Glob tail) pattern = pieces_from 0 pattern

-- the piece that a byte begins, and how many more bytes it consumes
abbrev pub piece_by : Syntax → ℕ → Bytes → globs.Piece × ℕ
piece_by Pattern b bs = (plain_piece b, 0)
piece_by (Glob tail) b bs = piece_at b bs

-- whether a pattern takes a name
abbrev pub takes_name : Syntax → Bytes → Bytes → Bool
takes_name syntax pattern name = pieces_take (pieces_by syntax pattern) name

-- among the last `tail` bytes of a pattern no closing bracket stands
abbrev pub NoneInLast : ℕ → Bytes → Type 0
NoneInLast tail pattern = (k : ℕ) → length pattern ≤ tail + k → has 93 (drop k pattern) ≡ false

-- a pattern is as its syntax says
abbrev pub PatternFits : Syntax → Bytes → Type 0
PatternFits Pattern pattern = Unit {0}
PatternFits (Glob tail) pattern = NoneInLast tail pattern
