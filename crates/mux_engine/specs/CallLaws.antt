-- What the calls that a journal has say of the streams of the forwarder.
use Rattle.std.specs.Prelude.{◌≡◌, ◌==◌, ℕ, true, List, [], ◌∷◌, ◌++◌, if◌then◌else◌, reverse, Some, codes}
use Rattle.mux_outside.specs.HouseCalls.{End, Failed, Got, HouseCall, Joined, Marks, Turns, Writable}
use Rattle.mux_outside.specs.HouseCalls as call
use Rattle.mux_outside.specs.declared.house_mark.HouseMark.TheVariants.{HouseOrder}
use Rattle.mux_outside.specs.declared.mark.Mark.{Mark}
use Rattle.mux_outside.specs.declared.order.Order.TheVariants.{Connect}
use Rattle.mux_history.specs.Log.{Setting}
use Rattle.mux_history.specs.Journal.{bytes_of, is_own_stream, taken_by}
use Rattle.mux_history.specs.WorkedHouse.{own_streams}
use Rattle.mux_engine.specs.Called.{calls_in}

-- the bytes that a forwarder was given of a stream by a call, and by all of them
abbrev pub got_by : ℕ → HouseCall → List ℕ
got_by t (Turns (Got stream bytes)) = if stream == t then bytes else []
got_by t _ = []

abbrev pub bytes_got : ℕ → List HouseCall → List ℕ
bytes_got t [] = []
bytes_got t (one ∷ calls) = got_by t one ++ bytes_got t calls

-- the bytes of a stream that were reported to it as accepted, by a call and by all of them
abbrev pub accepted_by_call : ℕ → HouseCall → List ℕ
accepted_by_call t (call.Takes stream bytes) = if stream == t then bytes else []
accepted_by_call t _ = []

abbrev pub bytes_took : ℕ → List HouseCall → List ℕ
bytes_took t [] = []
bytes_took t (one ∷ calls) = accepted_by_call t one ++ bytes_took t calls

-- it is given what a stream of its own gave: all of it, once and in that order
abbrev pub IsGivenAll : Type 0
IsGivenAll = (setting : Setting) (journal : List Mark) (t : ℕ) → is_own_stream t ≡ true
    → bytes_got t (calls_in setting journal) ≡ bytes_of t journal

-- the bytes that a stream of its own accepted are reported to it: all, once and in order
abbrev pub IsRecordedAll : Type 0
IsRecordedAll = (setting : Setting) (journal : List Mark) (t : ℕ) → is_own_stream t ≡ true
    → bytes_took t (calls_in setting journal) ≡ taken_by t journal

-- a worked journal: a stream that was accepted and gives "hello", and one that the forwarder
-- ordered, which is connected and fails
abbrev pub OwnStreamsAreCalled : Type 0
OwnStreamsAreCalled = (setting : Setting) → calls_in setting (reverse own_streams)
    ≡ Turns (Joined 9223372036854775808 9223372036854775809)
    ∷ Turns (Got 9223372036854775809 (codes "hello"))
    ∷ Turns (End 9223372036854775809)
    ∷ Marks (HouseOrder (Connect (codes "web") 80) (Some 9223372036854775810))
    ∷ Turns (Writable 9223372036854775810) ∷ Turns (Failed 9223372036854775810) ∷ []
