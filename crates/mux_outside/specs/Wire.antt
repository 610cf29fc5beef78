-- What the calls of a wire may answer.
use Rattle.std.specs.Prelude.{◌≡◌, ◌<◌, ◌≤◌, ◌+◌, ℕ, true, false, List, [], ◌∷◌, length, All, IsTrue, Result, Ok, Err}
use Rattle.mux_outside.specs.Faults.{Faults, FaultOf, OpeningFault, OwnFault, ServerFault}
use Rattle.mux_outside.specs.OwnStreams.{is_finished, is_own, is_silent}
use Rattle.mux_outside.specs.Seen.{Seen}
use Rattle.mux_outside.specs.Streams.{among}
use Rattle.mux_outside.specs.Whose.{whose}
use Rattle.mux_outside.specs.declared.file_error.FileError.{FileError}
use Rattle.mux_outside.specs.declared.file_error.FileError.TheVariants.{Failed as FailedFile, OutOfMemory}
use Rattle.mux_outside.specs.declared.house_mark.HouseMark.{HouseMark}
use Rattle.mux_outside.specs.declared.house_mark.HouseMark.TheVariants.{HouseOrder}
use Rattle.mux_outside.specs.declared.mark.OpenCall.{OpenCall}
use Rattle.mux_outside.specs.declared.order.Order.TheVariants.{Listen, Connect}
use Rattle.mux_outside.specs.declared.own_streams.TheConstants.{LAST_CLIENT, LAST_OWN}
use Rattle.mux_outside.specs.declared.piece.TheConstants.{LONGEST_PIECE}
use Rattle.mux_outside.specs.declared.turn.Turn.{Turn}
use Rattle.mux_outside.specs.declared.turn.Turn.TheVariants.{Accepted, Got, End, Writable, Failed, Joined, NoMemory}
use Rattle.mux_outside.specs.declared.turn.Want.{Want}
use Rattle.mux_outside.specs.declared.turn.Want.TheVariants.{Read, WriteOnly}
use Rattle.mux_outside.specs.declared.turn.Wrote.{Wrote}
use Rattle.mux_outside.specs.declared.turn.Wrote.TheVariants.{Took, Later, Failed as FailedWrite, NoMemory as NoMemoryToWrite}

-- ---- open

-- the arguments that a call adds to those recorded: none if memory runs out
abbrev pub openings_of : Result (Unit {0}) FileError → List ℕ → List ℕ → List OpenCall
openings_of (Ok x) control transport = record { control = control; transport = transport } ∷ []
openings_of (Err FailedFile) control transport =
    record { control = control; transport = transport } ∷ []
openings_of (Err OutOfMemory) control transport = []

-- the counts of faults after a call of open
abbrev pub OpenFaults : Result (Unit {0}) FileError → Faults → Faults → Type 0
OpenFaults (Ok x) old new = new ≡ old
OpenFaults (Err FailedFile) old new = OpeningFault old new
OpenFaults (Err OutOfMemory) old new = new ≡ old

-- ---- join

-- the argument that a call adds to those recorded: none if memory runs out
abbrev pub joinings_of : Result (Unit {0}) FileError → List ℕ → List (List ℕ)
joinings_of (Ok x) control = control ∷ []
joinings_of (Err FailedFile) control = control ∷ []
joinings_of (Err OutOfMemory) control = []

-- the counts of faults after a call of join: a failure is the server's
abbrev pub JoinFaults : Result (Unit {0}) FileError → Faults → Faults → Type 0
JoinFaults (Ok x) old new = new ≡ old
JoinFaults (Err FailedFile) old new = ServerFault old new
JoinFaults (Err OutOfMemory) old new = new ≡ old

-- ---- wait

-- when it may be called: each stream that is waited for is open and blocked, the server's is open,
-- and some stream is waited for where no other is
pub record MayWait (waiting : List ℕ) (want : Want) (seen : Seen) : Type 0 where
  pub are_blocked : All (λ t. IsTrue (among t seen.blocked)) waiting
  pub are_open : All (λ t. IsTrue (among t seen.streams)) waiting
  pub server : IsTrue (among 0 seen.streams)
  pub some : want ≡ WriteOnly → 0 < length waiting

-- which turns may be given
abbrev pub TurnFits : Turn → Want → Seen → List ℕ → Type 0
TurnFits (Accepted k) want seen bytes =
    (want ≡ Read) × (seen.listens ≡ true) × (k ≡ seen.last + 1) × (seen.last < LAST_CLIENT)
TurnFits (Got t) want seen bytes =
    (want ≡ Read) × IsTrue (among t seen.streams) × (0 < length bytes)
    × (length bytes ≤ LONGEST_PIECE)
TurnFits (End t) want seen bytes = (want ≡ Read) × IsTrue (among t seen.streams)
TurnFits (Writable t) want seen bytes =
    IsTrue (among t seen.streams) × IsTrue (among t seen.blocked)
TurnFits (Failed t) want seen bytes = IsTrue (among t seen.streams)
TurnFits (Joined l t) want seen bytes = want ≡ Read
TurnFits NoMemory want seen bytes = Unit {0}

-- a number may be that of a new own stream or listener, after the last one given
pub record IsNewOwn (last n : ℕ) : Type 0 where
  pub own : IsTrue (is_own n)
  pub above : last < n
  pub at_most : n ≤ LAST_OWN

-- which turns may be given of the master's own listeners and streams: nothing is given of a stream
-- that is paused or has ended
abbrev pub OwnFits : Turn → Seen → Type 0
OwnFits (Joined l t) seen = IsTrue (among l seen.listeners) × IsNewOwn seen.last_own t
OwnFits (Got t) seen = IsTrue (is_own t) → is_silent t seen.own ≡ false
OwnFits (End t) seen = IsTrue (is_own t) → is_silent t seen.own ≡ false
OwnFits (Accepted k) seen = Unit {0}
OwnFits (Writable t) seen = Unit {0}
OwnFits (Failed t) seen = Unit {0}
OwnFits NoMemory seen = Unit {0}

-- the counts of faults after a turn
abbrev pub TurnFaults : Turn → Faults → Faults → Type 0
TurnFaults (Failed t) old new = FaultOf (whose t) old new
TurnFaults (Accepted k) old new = new ≡ old
TurnFaults (Got t) old new = new ≡ old
TurnFaults (End t) old new = new ≡ old
TurnFaults (Writable t) old new = new ≡ old
TurnFaults (Joined l t) old new = new ≡ old
TurnFaults NoMemory old new = new ≡ old

-- ---- write

-- when bytes may be handed to a stream: it is open, not blocked and not finished, and there are
-- some
pub record MayWrite (stream : ℕ) (bytes : List ℕ) (seen : Seen) : Type 0 where
  pub is_open : IsTrue (among stream seen.streams)
  pub unblocked : among stream seen.blocked ≡ false
  pub unfinished : is_finished stream seen.own ≡ false
  pub some : 0 < length bytes

-- how many bytes may be accepted
abbrev pub WroteFits : Wrote → ℕ → Type 0
WroteFits (Took n) len = (1 ≤ n) × (n ≤ len)
WroteFits Later len = Unit {0}
WroteFits FailedWrite len = Unit {0}
WroteFits NoMemoryToWrite len = Unit {0}

-- the counts of faults after a write
abbrev pub WroteFaults : Wrote → ℕ → Faults → Faults → Type 0
WroteFaults FailedWrite t old new = FaultOf (whose t) old new
WroteFaults (Took n) t old new = new ≡ old
WroteFaults Later t old new = new ≡ old
WroteFaults NoMemoryToWrite t old new = new ≡ old

-- ---- note

-- a mark that may be noted: an order that is to make something is recorded by the call that carries
-- it out
abbrev pub MayNote : HouseMark → Type 0
MayNote (HouseOrder (Listen host port) number) = ⊥
MayNote (HouseOrder (Connect host port) number) = ⊥
MayNote mark = Unit {0}

-- ---- listen and connect

-- which number may be given
abbrev pub NumberFits : Result ℕ FileError → ℕ → Type 0
NumberFits (Ok n) last = IsNewOwn last n
NumberFits (Err e) last = Unit {0}

-- the counts of faults after a call of listen or connect: a failure is an own one
abbrev pub MakeFaults : Result ℕ FileError → Faults → Faults → Type 0
MakeFaults (Ok n) old new = new ≡ old
MakeFaults (Err FailedFile) old new = OwnFault old new
MakeFaults (Err OutOfMemory) old new = new ≡ old
