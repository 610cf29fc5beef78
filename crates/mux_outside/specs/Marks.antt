-- What the marks of a wire say of its streams.
use Rattle.std.specs.Prelude.{ℕ, ◌==◌, if◌then◌else◌, List, [], flat_map}
use Rattle.mux_outside.specs.declared.mark.Mark.{Mark}
use Rattle.mux_outside.specs.declared.mark.Mark.TheVariants.{Waits, Accepts, Gets, Ends, Frees, Fails, Takes, Holds, WriteFails, Joins, House}

-- the bytes that a stream accepted at one mark
abbrev pub accepted_at_mark : ℕ → Mark → List ℕ
accepted_at_mark stream (Takes t bytes listens) = if t == stream then bytes else []
accepted_at_mark stream (Waits waiting want streams shown) = []
accepted_at_mark stream (Accepts k) = []
accepted_at_mark stream (Gets t bytes) = []
accepted_at_mark stream (Ends t) = []
accepted_at_mark stream (Frees t) = []
accepted_at_mark stream (Fails t) = []
accepted_at_mark stream (Holds t) = []
accepted_at_mark stream (WriteFails t) = []
accepted_at_mark stream (Joins l t) = []
accepted_at_mark stream (House mark) = []

-- all bytes that a stream accepted
abbrev pub bytes_taken : ℕ → List Mark → List ℕ
bytes_taken stream marks = flat_map (accepted_at_mark stream) marks
