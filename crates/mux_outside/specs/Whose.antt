-- Whose a stream is.
use Rattle.std.specs.Prelude.{ℕ, Bool, not, ◌&&◌, ◌==◌, if◌then◌else◌}
use Rattle.mux_outside.specs.OwnStreams.{is_own}
use Rattle.mux_outside.specs.declared.whose.Whose.{Whose}
use Rattle.mux_outside.specs.declared.whose.Whose.TheVariants.{Server, Client, Own}

-- whether it is the server's
abbrev pub is_server : ℕ → Bool
is_server t = t == 0

-- whether it is a client's
abbrev pub is_client : ℕ → Bool
is_client t = not (is_server t) && not (is_own t)

abbrev pub whose : ℕ → Whose
whose t = if is_server t then Server else if is_own t then Own else Client t
