-- What the streams gave and accepted, by the calls.
use Rattle.std.specs.Prelude.{◌≡◌, ◌==◌, ℕ, if◌then◌else◌, List, [], ◌∷◌, ◌++◌, IfSome, Some}
use Rattle.std.specs.List.{All}
use Rattle.mux_outside.specs.HouseCalls.{HouseCall, Happening, Begins, Marks, Receives, Turns, Takes}
use Rattle.mux_outside.specs.HouseCalls.{Joined, Got, End, Writable, Failed}
use Rattle.house_relay.specs.Acts.{RelayAct, read, socket_accepted}
use Rattle.house_forward.specs.RelayTraces.{Trace, TraceReaches, first_trace}
use Rattle.house_forward.specs.Numbers.{made_by}

abbrev pub got_turn : ℕ → Happening → List ℕ
got_turn s (Joined l t) = []
got_turn s (Got t bytes) = if s == t then bytes else []
got_turn s (End t) = []
got_turn s (Writable t) = []
got_turn s (Failed t) = []

abbrev pub got_call : ℕ → HouseCall → List ℕ
got_call s (Begins starts) = []
got_call s (Marks mark) = []
got_call s (Receives bytes) = []
got_call s (Turns happening) = got_turn s happening
got_call s (Takes t bytes) = []

-- the bytes that a stream gave in these calls, in order
abbrev pub got_in : ℕ → List HouseCall → List ℕ
got_in s [] = []
got_in s (call ∷ calls) = got_call s call ++ got_in s calls

abbrev pub took_call : ℕ → HouseCall → List ℕ
took_call s (Begins starts) = []
took_call s (Marks mark) = []
took_call s (Receives bytes) = []
took_call s (Turns happening) = []
took_call s (Takes t bytes) = if s == t then bytes else []

-- the bytes that it accepted in them, in order
abbrev pub took_in : ℕ → List HouseCall → List ℕ
took_in s [] = []
took_in s (call ∷ calls) = took_call s call ++ took_in s calls

-- what was read and written is what this stream gave and accepted since a call brought it
pub record IsOfStream (calls : List HouseCall) (t : ℕ) (acts : List RelayAct) : Type 0 where
  pub before : List HouseCall
  pub birth : HouseCall
  pub since : List HouseCall
  pub are : calls ≡ before ++ birth ∷ since
  pub brings : made_by birth ≡ Some t
  pub reads : read acts ≡ got_in t since
  pub takes : socket_accepted acts ≡ took_in t since

-- this is so of each relay and its stream
abbrev pub EachHasItsStream : Type 0
EachHasItsStream = (calls : List HouseCall) (trace : Trace) → TraceReaches first_trace calls trace
    → All (λ l. IfSome l.own (λ own. IsOfStream calls own.number l.acts)) trace.relay_traces
