-- What sockets promise of the turns that they give.
use Rattle.std.specs.Prelude.{◌≡◌, ◌≤◌, ◌<◌, ◌⊎◌, ◌+◌, ℕ, true, List, length, Option, None, Some, IfSome, IsNone, IsSomeAnd}
use Rattle.mux_outside.specs.Seen.{Seen}
use Rattle.mux_outside.specs.Wire.{IsNewOwn}
use Rattle.mux_outside.specs.declared.own_streams.TheConstants.{LAST_CLIENT}
use Rattle.mux_outside.specs.declared.piece.TheConstants.{LONGEST_PIECE}
use Rattle.mux_outside.specs.declared.turn.Turn.{Turn}
use Rattle.mux_outside.specs.declared.turn.Turn.TheVariants.{Accepted, Got, End, Writable, Failed, Joined, NoMemory}
use Rattle.mux_outside.specs.declared.turn.Want.{Want}
use Rattle.mux_outside.specs.declared.turn.Want.TheVariants.{Read as WantsAll}
use Rattle.mux_edge.specs.StreamTable.{HasFew, StaysFew, Touches}
use Rattle.mux_edge.specs.declared.sockets.Sockets.{Sockets}
use Rattle.mux_edge.specs.declared.numbers.StreamNumbers.{StreamNumbers}
use Rattle.mux_edge.specs.declared.table.ready.Ready.{Ready}
use Rattle.mux_edge.specs.declared.table.ready.Ready.TheVariants.{Accept, Join, Read, Write, Connect}

-- the numbers that may be given now, to a client and to a stream that is accepted
pub record MayBeGiven (numbers : StreamNumbers) (want : Want) (seen : Seen) : Type 0 where
  pub client : IfSome numbers.client (λ k. (want ≡ WantsAll) × (seen.listens ≡ true)
      × (k ≡ seen.last + 1) × (seen.last < LAST_CLIENT))
  pub own : IfSome numbers.own (λ t. (want ≡ WantsAll) × IsNewOwn seen.last_own t)

-- a client and a stream that is accepted have the number that was given, bytes are at most a piece
-- and not none, and nothing else changes the piece
abbrev pub FoundFits : Turn → StreamNumbers → List ℕ → List ℕ → Type 0
FoundFits (Accepted k) numbers before now = (numbers.client ≡ Some k) × (now ≡ before)
FoundFits (Got t) numbers before now = (0 < length now) × (length now ≤ LONGEST_PIECE)
FoundFits (End t) numbers before now = now ≡ before
FoundFits (Writable t) numbers before now = now ≡ before
FoundFits (Failed t) numbers before now = now ≡ before
FoundFits (Joined l t) numbers before now = (numbers.own ≡ Some t) × (now ≡ before)
FoundFits NoMemory numbers before now = now ≡ before

-- of all open sockets that of this stream alone may have changed, and the listener stays
abbrev pub TouchesAlone : {C U T : Type 0} → ℕ → Option (Sockets C U T) → Option (Sockets C U T)
    → Type 0
TouchesAlone number None new = IsNone new
TouchesAlone number (Some old) None = ⊥
TouchesAlone number (Some old) (Some new) = Touches number old.table new.table

-- the master's own streams are within their limit, where sockets are open
abbrev pub HaveFew : {C U T : Type 0} → Option (Sockets C U T) → Type 0
HaveFew sockets = IfSome sockets (λ s. HasFew s.table)

-- open sockets stay open. The limit of the master's own streams stays, and they stay within it
abbrev pub StayFew : {C U T : Type 0} → Option (Sockets C U T) → Option (Sockets C U T) → Type 0
StayFew None new = IsNone new
StayFew (Some old) None = ⊥
StayFew (Some old) (Some new) = StaysFew old.table new.table

-- a turn of a read of this stream
abbrev pub IsTurnOf : ℕ → Turn → Type 0
IsTurnOf number (Accepted k) = ⊥
IsTurnOf number (Got t) = t ≡ number
IsTurnOf number (End t) = t ≡ number
IsTurnOf number (Writable t) = ⊥
IsTurnOf number (Failed t) = t ≡ number
IsTurnOf number (Joined l t) = ⊥
IsTurnOf number NoMemory = ⊥

-- what was ready is what the turn is about
abbrev pub ServesReady : Ready → StreamNumbers → Turn → Type 0
ServesReady Accept numbers turn = IsSomeAnd numbers.client (λ k. turn ≡ Accepted k)
ServesReady (Join listener) numbers turn = IsSomeAnd numbers.own (λ t. turn ≡ Joined listener t)
ServesReady (Read number) numbers turn = IsTurnOf number turn
ServesReady (Write number) numbers turn = turn ≡ Writable number
ServesReady (Connect number) numbers turn = (turn ≡ Writable number) ⊎ (turn ≡ Failed number)

-- what was found is reported as it is, except for a client or an accepted stream for which there is
-- no memory
abbrev pub TurnRecords : Turn → Turn → Type 0
TurnRecords (Accepted k) recorded = (recorded ≡ Accepted k) ⊎ (recorded ≡ NoMemory)
TurnRecords (Got t) recorded = recorded ≡ Got t
TurnRecords (End t) recorded = recorded ≡ End t
TurnRecords (Writable t) recorded = recorded ≡ Writable t
TurnRecords (Failed t) recorded = recorded ≡ Failed t
TurnRecords (Joined l t) recorded = (recorded ≡ Joined l t) ⊎ (recorded ≡ NoMemory)
TurnRecords NoMemory recorded = recorded ≡ NoMemory
