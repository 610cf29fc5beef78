-- What turns are wanted, and what they report.
use Rattle.std.specs.Prelude.{◌≡◌, ℕ, false, List, [], ◌∷◌, ◌++◌, length, nat_lt, if◌then◌else◌, IsTrue}
use Rattle.mux_outside.specs.OwnStreams.{is_own}
use Rattle.mux_outside.specs.Streams.{without}
use Rattle.mux_outside.specs.declared.mark.Mark.TheVariants.{Accepts, Gets, Ends, Fails}
use Rattle.mux_outside.specs.declared.own_turn.OwnTurn.{OwnTurn}
use Rattle.mux_outside.specs.declared.own_turn.OwnTurn.TheVariants as own
use Rattle.mux_outside.specs.declared.turn.Turn.{Turn}
use Rattle.mux_outside.specs.declared.turn.Turn.TheVariants as turn
use Rattle.mux_outside.specs.declared.turn.Want.{Want}
use Rattle.mux_outside.specs.declared.turn.Want.TheVariants.{Read, WriteOnly}
use Rattle.mux_history.specs.declared.limits.TheConstants.{READING_STOPS_AT}
use Rattle.mux_state.specs.declared.event.Event.{Event}
use Rattle.mux_state.specs.Events.{MarkRecords}
use Rattle.mux_state.specs.State.{EngineState, queue_in}
use Rattle.mux_engine.specs.declared.events.NextEvent.{NextEvent}
use Rattle.mux_engine.specs.declared.events.NextEvent.TheVariants as next

-- while 4,194,304 bytes or more wait for the server, nothing is read
abbrev pub want_of : EngineState → Want
want_of s = if nat_lt (length (queue_in s 0)) READING_STOPS_AT then Read else WriteOnly

-- the event that a turn reports
abbrev pub IsEventOf : Event → Turn → List ℕ → Type 0
IsEventOf e (turn.Accepted k) bytes = MarkRecords e (Accepts k)
IsEventOf e (turn.Got t) bytes = (is_own t ≡ false) × MarkRecords e (Gets t bytes)
IsEventOf e (turn.End t) bytes = (is_own t ≡ false) × MarkRecords e (Ends t)
IsEventOf e (turn.Failed t) bytes = (is_own t ≡ false) × MarkRecords e (Fails t)
IsEventOf e (turn.Writable t) bytes = ⊥
IsEventOf e (turn.Joined l t) bytes = ⊥
IsEventOf e turn.NoMemory bytes = ⊥

-- what it reports of the master's own listeners and streams
abbrev pub IsOwnOf : OwnTurn → Turn → List ℕ → Type 0
IsOwnOf (own.Joined l t) given bytes = given ≡ turn.Joined l t
IsOwnOf (own.Got t got) given bytes =
    IsTrue (is_own t) × (given ≡ turn.Got t) × (got.now ≡ bytes)
IsOwnOf (own.End t) given bytes = IsTrue (is_own t) × (given ≡ turn.End t)
IsOwnOf (own.Writable t) given bytes = IsTrue (is_own t) × (given ≡ turn.Writable t)
IsOwnOf (own.Failed t) given bytes = IsTrue (is_own t) × (given ≡ turn.Failed t)

-- what a turn reports: an event of the engine, something of the master's own, that another stream
-- accepts bytes again, or that there was no memory
abbrev pub IsNextEvent : NextEvent → Turn → List ℕ → Type 0
IsNextEvent (next.Event e) given bytes = IsEventOf e given bytes
IsNextEvent (next.Own o) given bytes = IsOwnOf o given bytes
IsNextEvent (next.Freed t) given bytes = (is_own t ≡ false) × (given ≡ turn.Writable t)
IsNextEvent next.NoMemory given bytes = given ≡ turn.NoMemory

-- the forwarder's streams then, those that are blocked, and those that failed
abbrev pub own_received : OwnTurn → List ℕ → List ℕ
own_received (own.Joined l t) streams = streams ++ t ∷ []
own_received recorded streams = streams

abbrev pub held_received : OwnTurn → List ℕ → List ℕ
held_received (own.Writable t) held = without t held
held_received recorded held = held

abbrev pub failed_received : OwnTurn → List ℕ → List ℕ
failed_received (own.Failed t) failed = failed ++ t ∷ []
failed_received recorded failed = failed
