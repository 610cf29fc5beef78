-- What a call leaves of a table of sockets, and the outcome of a read of a stream.
use Rattle.std.specs.Prelude.{◌≡◌, ◌≢◌, ◌≤◌, ◌⊎◌, ◌==◌, ◌&&◌, ◌||◌, ◌-◌, ◌/◌, ℕ, min, max, Bool, true, List, length, Option, Some, IsNone, IsSome}
use Rattle.mio.specs.declared.event.event.Event.{Event}
use Rattle.mio.specs.Event.{event_token, is_error, is_writable, is_write_closed}
use Rattle.mux_outside.specs.declared.turn.Turn.{Turn}
use Rattle.mux_outside.specs.declared.turn.Turn.TheVariants.{Got, End}
use Rattle.mux_edge.specs.Entries.{HasEntry, HasFewOwn, IsDoubted, IsHeld, IsNoted, IsSilent, MayPass, OthersStay, StopsShort}
use Rattle.mux_exchange.specs.Exchange.{most_read}
use Rattle.mux_edge.specs.Ready.{IsReadyFull}
use Rattle.mux_edge.specs.declared.table.TheConstants.{KEPT_DESCRIPTORS, MOST_OWN_STREAMS}
use Rattle.mux_edge.specs.declared.table.StreamTable.{StreamTable}

-- how many streams of its own a master may have that has so many descriptors
abbrev pub own_streams_among : ℕ → ℕ
own_streams_among descriptors =
    min MOST_OWN_STREAMS (max (descriptors - KEPT_DESCRIPTORS) (descriptors / 4))

-- the master's own streams are at most as many as may be, which is never more than 512
abbrev pub HasFew : {U T : Type 0} → StreamTable U T → Type 0
HasFew table = (table.most_own ≤ MOST_OWN_STREAMS) × HasFewOwn table.most_own table.entries

-- their limit stays, and they stay within it
abbrev pub StaysFew : {U T : Type 0} → StreamTable U T → StreamTable U T → Type 0
StaysFew old new = (new.most_own ≡ old.most_own)
    × (HasFewOwn old.most_own old.entries → HasFewOwn new.most_own new.entries)

-- of all sockets that of this stream alone may have changed: each other stream's stays, and so does
-- the listener of clients. The master's own streams stay within their limit
pub record Touches {U T : Type 0} (number : ℕ) (old new : StreamTable U T) : Type 0 where
  pub others : OthersStay number old.entries new.entries
  pub listener : new.listener ≡ old.listener
  pub few : StaysFew old new

-- the server's socket was given all that was accepted for it, or accepts none of it for now
abbrev pub IsHandedOn : {U T : Type 0} → StreamTable U T → Type 0
IsHandedOn table = (length table.outbox ≡ 0) ⊎ (table.full ≡ true)

-- a stream is noted to be read, where the note found room
abbrev pub StreamMayRead : {U T : Type 0} → ℕ → StreamTable U T → StreamTable U T → Type 0
StreamMayRead number old new = IsNoted number new.entries ⊎ IsReadyFull old.ready

-- a socket can be written to, or a write would show that it can't
abbrev pub tells_write : Event → Bool
tells_write event = is_writable event || (is_write_closed event || is_error event)

-- the server's can
abbrev pub tells_server_takes : Event → Bool
tells_server_takes event = (event_token event).0 == 0 && tells_write event

-- a stream is read once
pub record ReadsOnce {U T : Type 0} (number : ℕ) (result : Option Turn) (bytes : List ℕ)
    (old new : StreamTable U T) : Type 0 where
  -- what may be read of a silent stream is kept back, and it gives nothing
  pub silent : IsSilent number old.entries → IsNone result
  pub held : IsSilent number old.entries → IsHeld number new.entries
  -- more may wait after a full read, and after one that may stop short, so the stream stays
  -- noted: its note finds room, since that was made for it
  pub most : result ≡ Some (Got number) → length bytes ≤ most_read number
  pub full : result ≡ Some (Got number) → length bytes ≡ most_read number
      → IsNoted number new.entries ⊎ IsReadyFull old.ready
  pub short : result ≡ Some (Got number) → StopsShort number old.entries
      → IsNoted number new.entries ⊎ IsReadyFull old.ready
  -- more may wait after descriptors, so a stream that can pass them is noted or doubted, and then
  -- the next wait is a short one
  pub passes : result ≡ Some (Got number) → MayPass number old.entries
      → (IsNoted number new.entries ⊎ IsReadyFull old.ready)
      ⊎ (IsDoubted number new.entries × IsSome new.doubts)

-- the server's stream is read once, of which a write failed: it gives no end, and gives nothing
-- only where it is silent or is read again
pub record ReadsLastWords {U T : Type 0} (result : Option Turn) (old new : StreamTable U T)
    : Type 0 where
  pub no_end : result ≢ Some (End 0)
  pub nothing : IsNone result → HasEntry 0 old.entries
      → IsSilent 0 old.entries ⊎ StreamMayRead 0 old new
