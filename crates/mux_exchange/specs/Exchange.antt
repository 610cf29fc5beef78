-- The outcome of one read of a stream and of one write to it.
use Rattle.std.specs.Prelude.{◌≡◌, ◌<◌, ◌≤◌, ◌||◌, if◌then◌else◌, ℕ, Bool, true, false, List, [], length, take, nat_le, Option, Some, None}
use Rattle.std.specs.Io.KnownBytes.{Appends, Consumes, IsAtEnd, Keeps}
use Rattle.mux_outside.specs.OwnStreams.{is_own}
use Rattle.mux_outside.specs.declared.piece.TheConstants.{LONGEST_PIECE}
use Rattle.mux_outside.specs.declared.turn.Turn.{Turn}
use Rattle.mux_outside.specs.declared.turn.Turn.TheVariants as turn
use Rattle.mux_outside.specs.declared.turn.Wrote.{Wrote}
use Rattle.mux_outside.specs.declared.turn.Wrote.TheVariants as wrote
use Rattle.mux_exchange.specs.declared.exchange.TheConstants.{LONGEST_OWN_READ}
use Rattle.mux_exchange.specs.declared.exchange.ReadResult.{ReadResult}
use Rattle.mux_exchange.specs.declared.exchange.ReadResult.TheVariants.{Bytes, End, Nothing, Interrupted, Failed}
use Rattle.mux_exchange.specs.declared.exchange.Sent.{Sent}
use Rattle.mux_exchange.specs.declared.exchange.Sent.TheVariants.{Took, Waits, Interrupted as SentInterrupted, Failed as SentFailed}

-- ---- a read

-- the most bytes that a read of a stream of this number returns
abbrev pub most_read : ℕ → ℕ
most_read number = if is_own number then LONGEST_OWN_READ else LONGEST_PIECE

-- over a channel that records its bytes, the new piece has the first of them, so many at most, and all
-- that are gone; without bytes the piece stays
abbrev pub ReadsPiece : ReadResult → ℕ → Option (List ℕ) → Option (List ℕ) → List ℕ → List ℕ → Type 0
ReadsPiece (Bytes n) most before now old new =
    (0 < n) × (n ≡ length new) × (n ≤ LONGEST_PIECE) × (n ≤ most) × Consumes before now new
ReadsPiece End most before now old new = (new ≡ old) × Consumes before now [] × IsAtEnd now
ReadsPiece Nothing most before now old new = (new ≡ old) × Keeps before now
ReadsPiece Interrupted most before now old new = (new ≡ old) × Keeps before now
ReadsPiece Failed most before now old new = (new ≡ old) × Keeps before now

-- the turn that a stream of this number gives
abbrev pub received_turn : ReadResult → ℕ → Option Turn
received_turn (Bytes n) number = Some (turn.Got number)
received_turn End number = Some (turn.End number)
received_turn Nothing number = None
received_turn Interrupted number = None
received_turn Failed number = Some (turn.Failed number)

-- how many bytes were read
abbrev pub received_len : ReadResult → ℕ
received_len (Bytes n) = n
received_len End = 0
received_len Nothing = 0
received_len Interrupted = 0
received_len Failed = 0

-- nothing more can be read
abbrev pub received_last : ReadResult → Bool
received_last (Bytes n) = false
received_last End = true
received_last Nothing = false
received_last Interrupted = false
received_last Failed = true

-- what a stream gives of which a write failed: no end, and nothing only for a signal
abbrev pub IsLastWord : ReadResult → Type 0
IsLastWord (Bytes n) = Unit {0}
IsLastWord End = ⊥
IsLastWord Nothing = ⊥
IsLastWord Interrupted = Unit {0}
IsLastWord Failed = Unit {0}

-- a stream is read again though the system reports nothing: after the most that a read returns,
-- where reads stop short, and after a signal
abbrev pub received_again : ReadResult → Bool → ℕ → Bool
received_again (Bytes n) stops_short most = stops_short || nat_le most n
received_again End stops_short most = false
received_again Nothing stops_short most = false
received_again Interrupted stops_short most = true
received_again Failed stops_short most = false

-- ---- a write

-- over a channel that records its bytes, so many of the bytes were added, and else none
abbrev pub Sends : Sent → Option (List ℕ) → Option (List ℕ) → List ℕ → Type 0
Sends (Took n) before now bytes =
    (0 < n) × (n ≤ length bytes) × Appends before now (take n bytes)
Sends Waits before now bytes = Keeps before now
Sends SentInterrupted before now bytes = Keeps before now
Sends SentFailed before now bytes = Keeps before now

-- what is returned to the caller
abbrev pub sent_wrote : Sent → Wrote
sent_wrote (Took n) = wrote.Took n
sent_wrote Waits = wrote.Later
sent_wrote SentInterrupted = wrote.Later
sent_wrote SentFailed = wrote.Failed
