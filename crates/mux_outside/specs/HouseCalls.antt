-- The calls of a forwarder, each with its answer: what it was handed, and what it gave.
use Rattle.std.specs.Prelude.{ℕ, List, [], ◌∷◌, ◌++◌, flat_map}
use Rattle.mux_outside.specs.declared.house_mark.HouseMark.{HouseMark}
use Rattle.mux_outside.specs.declared.house_mark.HouseMark.TheVariants.{HouseIn, HouseTook}
use Rattle.mux_outside.specs.declared.own_turn.OwnTurn.{OwnTurn}
use Rattle.mux_outside.specs.declared.own_turn.OwnTurn.TheVariants as own
use Rattle.mux_outside.specs.declared.starts.Starts.{Starts}

-- what happened to one of the master's own listeners or streams, with the bytes that it gave
pub data Happening : Type 0 where
  Joined : (listener stream : ℕ) → Happening
  Got : (stream : ℕ) (bytes : List ℕ) → Happening
  End : (stream : ℕ) → Happening
  Writable : (stream : ℕ) → Happening
  Failed : (stream : ℕ) → Happening

-- what a forwarder is asked for at the start, what it gave or was asked, what it received as a
-- client, what happened to a listener or a stream of its own, and the bytes that such a stream
-- accepted
pub data HouseCall : Type 0 where
  Begins : (starts : Starts) → HouseCall
  Marks : (mark : HouseMark) → HouseCall
  Receives : (bytes : List ℕ) → HouseCall
  Turns : (happening : Happening) → HouseCall
  Takes : (stream : ℕ) (bytes : List ℕ) → HouseCall

-- what a turn of one of them records
abbrev pub happening_of : OwnTurn → Happening
happening_of (own.Joined l t) = Joined l t
happening_of (own.Got t bytes) = Got t bytes.now
happening_of (own.End t) = End t
happening_of (own.Writable t) = Writable t
happening_of (own.Failed t) = Failed t

-- the call that a mark records: none where the forwarder is admitted, and what it received is
-- recorded by its bytes
abbrev pub call_of : HouseMark → List HouseCall
call_of HouseIn = []
call_of (HouseTook size) = []
call_of mark = Marks mark ∷ []

abbrev pub calls_of : List HouseMark → List HouseCall
calls_of marks = flat_map call_of marks

-- one forwarder represents whichever calls the other did, and for these after them
abbrev pub HandsOn : (List HouseCall → Type 0) → (List HouseCall → Type 0) → List HouseCall → Type 0
HandsOn stands stands' more = (calls : List HouseCall) → stands calls → stands' (calls ++ more)
