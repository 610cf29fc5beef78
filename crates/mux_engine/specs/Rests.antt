-- What holds of a forwarder right before a wait.
use Rattle.std.specs.Prelude.{◌≡◌, ◌≢◌, ℕ, Bool, true, false, List, [], OnOk, Option, Result, Ok, Some, None, IsTrue}
use Rattle.mux_outside.specs.Faults.{Faults}
use Rattle.mux_outside.specs.Counts.{Rose}
use Rattle.mux_outside.specs.House.{HouseState, IsAtRest, Known, Quiet}
use Rattle.mux_outside.specs.Seen.{Seen}
use Rattle.mux_outside.specs.WireState.{WireState}
use Rattle.mux_outside.specs.Streams.{among}
use Rattle.mux_outside.specs.declared.turn.Want.TheVariants.{Read}
use Rattle.mux_history.specs.declared.ended.Ended.{Ended}
use Rattle.mux_history.specs.declared.ended.Ended.TheVariants.{ServerFailed, Spent, StartRefused}
use Rattle.mux_history.specs.declared.limits.TheConstants.{HOUSE}
use Rattle.mux_state.specs.State.{EngineState}
use Rattle.mux_engine.specs.Came.{Came, EndsFor, OverBy}
use Rattle.mux_engine.specs.Counted.{RunStops}
use Rattle.mux_engine.specs.Owned.{IsOwnOffered}
use Rattle.mux_engine.specs.Sides.{Housed}
use Rattle.mux_engine.specs.declared.room.Lists.{Lists}
use Rattle.mux_engine.specs.Turns.{want_of}

-- it has nothing to order and nothing to answer, and each of its streams was offered what waits
pub record HasNoMore (known : Known) (quiet : Quiet) (queue : ℕ → List ℕ)
    (held failed own : List ℕ) : Type 0 where
  pub orders : IsTrue known.present → quiet.orders ≡ true
  pub answers : IsTrue known.present → quiet.answers ≡ true
  pub offered : (t : ℕ) → among t own ≡ true → IsOwnOffered (queue t) held failed t

-- and where more is read, it is at rest
pub record IsHouseReady (known : Known) (quiet : Quiet) (queue : ℕ → List ℕ) (held failed own : List ℕ)
    (s : EngineState) : Type 0 where
  pub no_more : HasNoMore known quiet queue held failed own
  pub rests : IsTrue known.present → want_of s ≡ Read → IsAtRest quiet

-- the first of it, over the lists of a run
abbrev pub HasNoMoreFor : HouseState → Lists → Type 0
HasNoMoreFor house lists =
    HasNoMore house.known house.quiet house.queue lists.held lists.failed lists.own

-- it waits for nothing of the forwarder: that has nothing to order and nothing to answer, each of
-- its streams was offered what waits for it, and where more is read it is at rest
abbrev pub IsReadyFor : HouseState → Lists → EngineState → Type 0
IsReadyFor house lists s =
    IsHouseReady house.known house.quiet house.queue lists.held lists.failed lists.own s

-- each of its streams was offered what waits for it
abbrev pub HasOffered : HouseState → Lists → Type 0
HasOffered house lists = (t : ℕ) → among t lists.own ≡ true
    → IsOwnOffered (house.queue t) lists.held lists.failed t

-- it has no answer more, and each of its streams was offered what waits for it
pub record HasAnswered (house : HouseState) (lists : Lists) : Type 0 where
  pub answers : house.quiet.answers ≡ true
  pub offered : HasOffered house lists

-- a run without a forwarder used no turn for one, and where nothing waited for a stream it goes on
pub record WaitsAlone {E : Type 0} (result : Result Bool E) (old new : EngineState) : Type 0 where
  pub waits : result ≢ Ok true
  pub idle : old.waiting ≡ [] → OnOk result (new.ended ≡ None)

-- no stream is left to be closed
pub record HasNoneToClose (s : EngineState) : Type 0 where
  pub closed : s.leaving ≡ []
  pub refused : s.refused ≡ []

-- whatever forwarder is ready for a wait stays so, and knows the wire's streams
abbrev pub StaysReady : Seen → Seen → List ℕ → List ℕ → EngineState → EngineState → Type 0
StaysReady seen seen' held held' s s' =
    (known : Known) (quiet : Quiet) (queue : ℕ → List ℕ) (failed own : List ℕ)
    → Housed known seen own
    → Housed known seen' own
    × (IsHouseReady known quiet queue held failed own s → IsHouseReady known quiet queue held' failed own s')

-- a run that goes on or that a row ended: its turns were not spent, and no forwarding that it began
-- with was refused
pub record IsByRow (ended : Option Ended) : Type 0 where
  pub unspent : ended ≢ Some Spent
  pub permitted : (index : ℕ) → ended ≢ Some (StartRefused index)

-- one that goes on or that ended by what the forwarder sent as a client
pub record EndsByAsk (ended : Option Ended) : Type 0 where
  pub lives : ended ≢ Some ServerFailed
  pub by_row : IsByRow ended
  pub by_house : EndsFor HOUSE ended

-- the forwarding of the start that was refused, where there is a forwarder and none may be
abbrev pub start_refused_if : Bool → Bool → Option ℕ → Option ℕ
start_refused_if true true refused = refused
start_refused_if present must refused = None

-- why a run ended: by its end, or since this forwarding was refused, or with its turns spent
abbrev pub ended_as : Option Ended → Option ℕ → Ended
ended_as (Some cause) refused = cause
ended_as None (Some index) = StartRefused index
ended_as None None = Spent

-- the forwarding of the start that ends the run, since it was refused
abbrev pub start_refusal_of : HouseState → Option ℕ
start_refusal_of house = start_refused_if house.known.present house.must house.refused

-- the same at the end of a run that began with this forwarder
abbrev pub refusal_after : HouseState → HouseState → Option ℕ
refusal_after first house = start_refused_if first.known.present house.must house.refused

-- a run goes on, or ended by what came since: where the server's stream failed its count rose, and
-- its counts show what came. Without a forwarder no listener and no stream of its own was opened
pub record EndsSo {A E : Type 0} (result : Result A E) (present : Bool) (ended : Option Ended)
    (old new : WireState) (faults faults' : Faults) : Type 0 where
  pub failed : OnOk result (ended ≡ Some ServerFailed → Rose faults.server faults'.server)
  pub by_row : OnOk result (IsByRow ended)
  pub by_count : OnOk result (OverBy present ended old.calls new.calls)
  pub unopened : present ≡ false → new.seen.last_own ≡ old.seen.last_own

-- a turn was given, or the run is over: it ended, or a forwarding of the start was refused, and then
-- each stream was offered what waits for it
pub record GoesOnSo (on : Bool) (ended : Option Ended) (settled : Bool) (refusal : Option ℕ) :
    Type 0 where
  pub goes : on ≡ true → ended ≡ None
  pub unsettled : on ≡ true → settled ≡ false
  pub over : on ≡ false → ended ≡ None → refusal ≢ None
  pub refused : on ≡ false → ended ≡ None → settled ≡ true

-- a run that ended so: where a forwarding of the start ended it that was refused, where the server's
-- stream did its count of faults rose, and the counts of the wire show what came
pub record HasEnded (present : Bool) (refused : Option ℕ) (answer : Ended) (old new : WireState)
    (faults faults' : Faults) : Type 0 where
  pub permitted : (index : ℕ) → answer ≡ StartRefused index → refused ≡ Some index
  pub failed : answer ≡ ServerFailed → Rose faults.server faults'.server
  pub by_count : OverBy present (Some answer) old.calls new.calls

-- the calls of the wire that a run made
pub record HasCalled (present : Bool) (turns : ℕ) (answer : Ended) (old new : WireState) :
    Type 0 where
  pub came : Came old.calls new.calls
  pub stops : RunStops present turns answer old.calls new.calls

-- the wire's own listeners and streams are those of the forwarder
pub record KnowsPlaces (house : HouseState) (seen : Seen) : Type 0 where
  pub listeners : seen.listeners ≡ house.known.listeners
  pub own : seen.own ≡ house.known.streams

-- the same after a run that found all the memory that it needed; without a forwarder none was
-- opened
pub record LeavesPlaces (found : Type 0) (house house' : HouseState) (seen seen' : Seen) : Type 0
  where
    pub known : found → KnowsPlaces house' seen'
    pub unopened : house.known.present ≡ false → seen'.last_own ≡ seen.last_own
