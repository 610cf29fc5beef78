-- The calls of the forwarder that a journal has, the oldest first.
use Rattle.std.specs.Prelude.{◌≡◌, ℕ, Bool, true, false, List, [], ◌∷◌, ◌++◌, if◌then◌else◌, length, take, IsTrue}
use Rattle.std.specs.List.{list_any}
use Rattle.mux_outside.specs.Greeting.{GreetsFirst}
use Rattle.mux_outside.specs.House.{HouseState}
use Rattle.mux_outside.specs.HouseCalls.{Got, End, Failed, HandsOn, Receives, HouseCall, Joined, Marks, Turns, Writable, call_of}
use Rattle.mux_outside.specs.HouseCalls as call
use Rattle.mux_outside.specs.OwnStreams.{is_own}
use Rattle.mux_outside.specs.declared.house_mark.HouseMark.{HouseMark}
use Rattle.mux_outside.specs.declared.house_mark.HouseMark.TheVariants.{HouseSaid, HouseTook}
use Rattle.mux_outside.specs.declared.mark.Mark.{Mark}
use Rattle.mux_outside.specs.declared.mark.Mark.TheVariants.{Gets, Ends, Frees, Fails, Takes, WriteFails, Joins, House}
use Rattle.mux_history.specs.declared.limits.TheConstants.{HOUSE}
use Rattle.mux_history.specs.Pending.{pending}
use Rattle.mux_history.specs.Log.{Setting}
use Rattle.mux_history.specs.Journal.{log_of_journal}

-- a call for one of the master's own streams; another stream is none of the forwarder
abbrev pub if_own : ℕ → HouseCall → List HouseCall
if_own stream one = if is_own stream then one ∷ [] else []

-- the call of a forwarder's mark, where this waits for the forwarder: what it accepted is the front
-- of that
abbrev pub house_calls : List ℕ → HouseMark → List HouseCall
house_calls waiting (HouseTook size) = Receives (take size waiting) ∷ []
house_calls waiting mark = call_of mark

-- the call of a mark after those before it: a turn of a listener or a stream of the master's own is
-- handed on, and so is a failed write there, and the bytes that such a stream accepted
abbrev pub calls_at : Setting → List Mark → Mark → List HouseCall
calls_at setting before (Joins l t) = Turns (Joined l t) ∷ []
calls_at setting before (Gets t bytes) = if_own t (Turns (Got t bytes))
calls_at setting before (Ends t) = if_own t (Turns (End t))
calls_at setting before (Frees t) = if_own t (Turns (Writable t))
calls_at setting before (Fails t) = if_own t (Turns (Failed t))
calls_at setting before (WriteFails t) = if_own t (Turns (Failed t))
calls_at setting before (Takes t bytes accepts) = if_own t (call.Takes t bytes)
calls_at setting before (House mark) =
    house_calls (pending HOUSE (log_of_journal setting before)) mark
calls_at setting before _ = []

abbrev pub calls_in : Setting → List Mark → List HouseCall
calls_in setting [] = []
calls_in setting (mark ∷ before) = calls_in setting before ++ calls_at setting before mark

-- the forwarder, which was another as the run began, was handed this since, and of all of it this
-- is so
pub record Handed (stands stands' : List HouseCall → Type 0) (So : List HouseCall → Type 0) :
    Type 0 where
  pub all : List HouseCall
  pub hands : HandsOn stands stands' all
  pub so : So all

-- ---- what a forwarder sent as a client

-- the call gave a piece of it
abbrev pub is_piece : HouseCall → Bool
is_piece (Marks (HouseSaid bytes)) = true
is_piece call = false

-- where there is a forwarder, it represents some calls of which none gave a piece
abbrev pub HasSentNothing : HouseState → Type 0
HasSentNothing house =
    IsTrue house.known.present
    → (calls : List HouseCall) × ((list_any is_piece calls ≡ false) × house.stands calls)

-- where there is a forwarder, whatever calls it represents, the first piece of them is the greeting
abbrev pub StandsGreeting : Bool → (List HouseCall → Type 0) → Type 0
StandsGreeting present stands =
    IsTrue present → (calls : List HouseCall) → stands calls → GreetsFirst calls
