-- What an outbox holds, and what a stream that goes is given of it.
use Rattle.std.specs.Prelude.{◌<◌, ◌≤◌, ◌+◌, ℕ, List, length, take, Option, vec_len, vec_capacity}
use Rattle.std.specs.Global.{Vec}
use Rattle.std.specs.Io.KnownBytes.{Appends}
use Rattle.mux_exchange.specs.declared.outbox.TheConstants.{LONGEST_OUTBOX, SENT_AT_ONCE}
use Rattle.mux_exchange.specs.declared.outbox.OutboxProgress.{OutboxProgress}
use Rattle.mux_exchange.specs.declared.outbox.OutboxProgress.TheVariants.{All, Waits, Failed}

-- it has no more bytes than it may hold, and room for so many
pub record IsOutbox (bytes : Vec ℕ) : Type 0 where
  pub at_most : vec_len bytes ≤ LONGEST_OUTBOX
  pub room : LONGEST_OUTBOX ≤ vec_capacity bytes

-- bytes are kept after those that wait: they are few, and there is room
abbrev pub IsKept : List ℕ → List ℕ → Type 0
IsKept before bytes =
    (length bytes < SENT_AT_ONCE) × (length before + length bytes ≤ LONGEST_OUTBOX)

-- over a channel that records its bytes, all bytes were added, or the first of them
abbrev pub GivesAtEnd : OutboxProgress → Option (List ℕ) → Option (List ℕ) → List ℕ → Type 0
GivesAtEnd All before now bytes = Appends before now bytes
GivesAtEnd Waits before now bytes = (n : ℕ) × Appends before now (take n bytes)
GivesAtEnd Failed before now bytes = (n : ℕ) × Appends before now (take n bytes)
