-- A buffer of at most 65,536 bytes.
use Rattle.std.specs.Prelude.{◌≡◌, ℕ, ◌≤◌, vec_len}
use Rattle.std.specs.Global.{Vec}
use Rattle.mux_outside.specs.declared.piece.TheConstants.{LONGEST_PIECE}

-- the buffer is a longest piece long, and no more of its bytes are counted
pub record IsPiece (room : Vec ℕ) (len : ℕ) : Type 0 where
  pub whole : vec_len room ≡ LONGEST_PIECE
  pub at_most : len ≤ LONGEST_PIECE
