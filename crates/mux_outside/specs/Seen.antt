-- What is seen of a wire, and what each call leaves of it.
use Rattle.std.specs.Prelude.{ℕ, Bool, true, false, List, [], ◌∷◌, ◌++◌, take, Result, Ok, Err, Option, Some, None}
use Rattle.std.specs.Option.{option_map}
use Rattle.mux_outside.specs.OwnStreams.{new_stream, with_end, with_finish, with_pause, without_stream}
use Rattle.mux_outside.specs.Streams.{without}
use Rattle.mux_outside.specs.declared.file_error.FileError.{FileError}
use Rattle.mux_outside.specs.declared.file_error.FileError.TheVariants.{Failed as FailedFile, OutOfMemory}
use Rattle.mux_outside.specs.declared.house_mark.HouseMark.{HouseMark}
use Rattle.mux_outside.specs.declared.house_mark.HouseMark.TheVariants.{HouseOrder}
use Rattle.mux_outside.specs.declared.mark.Mark.{Mark}
use Rattle.mux_outside.specs.declared.mark.Mark.TheVariants.{Waits, Accepts, Gets, Ends, Frees, Fails, Takes, Holds, WriteFails, Joins, House}
use Rattle.mux_outside.specs.declared.order.Order.{Order}
use Rattle.mux_outside.specs.declared.order.Order.TheVariants.{Listen, Connect}
use Rattle.mux_outside.specs.declared.own_streams.OwnStream.{OwnStream}
use Rattle.mux_outside.specs.declared.own_streams.TheConstants.{LAST_CLIENT}
use Rattle.mux_outside.specs.declared.shown.Shown.{Shown}
use Rattle.mux_outside.specs.declared.turn.Turn.{Turn}
use Rattle.mux_outside.specs.declared.turn.Turn.TheVariants.{Accepted, Got, End, Writable, Failed, Joined, NoMemory}
use Rattle.mux_outside.specs.declared.turn.Want.{Want}
use Rattle.mux_outside.specs.declared.turn.Wrote.{Wrote}
use Rattle.mux_outside.specs.declared.turn.Wrote.TheVariants.{Took, Later, Failed as FailedWrite, NoMemory as NoMemoryToWrite}

-- what is seen of a wire: its marks so far, where they are recorded; the open streams, in the order
-- in which they were opened; those that accept no bytes for now; whether clients are accepted; the
-- last client accepted, 0 before the first; the master's own listeners that are open; its own
-- streams that are open, which stand among the open streams too; and the last number of either, the
-- last one of a client before the first
pub record Seen : Type 0 where
  pub recorded : Option (List Mark)
  pub streams : List ℕ
  pub blocked : List ℕ
  pub listens : Bool
  pub last : ℕ
  pub listeners : List ℕ
  pub own : List OwnStream
  pub last_own : ℕ

-- of a wire that was never called and records nothing
abbrev pub nothing_seen : Seen
nothing_seen = record {
  recorded = None;
  streams = [];
  blocked = [];
  listens = false;
  last = 0;
  listeners = [];
  own = [];
  last_own = LAST_CLIENT;
}

-- the same but for what is recorded
abbrev pub without_record : Seen → Seen
without_record seen = record seen { recorded = None }

-- what it shows of itself at a wait, beside the open streams
abbrev pub shown_of : Seen → Shown
shown_of seen = record { listens = seen.listens; own = seen.own; listeners = seen.listeners }

-- ---- marks and streams after a turn and after a write

-- the mark of a turn, none if memory runs out
abbrev pub turn_marks : Turn → List ℕ → List Mark
turn_marks (Accepted k) bytes = Accepts k ∷ []
turn_marks (Got t) bytes = Gets t bytes ∷ []
turn_marks (End t) bytes = Ends t ∷ []
turn_marks (Writable t) bytes = Frees t ∷ []
turn_marks (Failed t) bytes = Fails t ∷ []
turn_marks (Joined l t) bytes = Joins l t ∷ []
turn_marks NoMemory bytes = []

-- the marks that a call of wait adds: the call and its turn, none if memory runs out
abbrev pub wait_marks : Turn → List ℕ → Want → List ℕ → Shown → List ℕ → List Mark
wait_marks (Accepted k) waiting want streams shown bytes =
    Waits waiting want streams shown ∷ Accepts k ∷ []
wait_marks (Got t) waiting want streams shown bytes =
    Waits waiting want streams shown ∷ Gets t bytes ∷ []
wait_marks (End t) waiting want streams shown bytes =
    Waits waiting want streams shown ∷ Ends t ∷ []
wait_marks (Writable t) waiting want streams shown bytes =
    Waits waiting want streams shown ∷ Frees t ∷ []
wait_marks (Failed t) waiting want streams shown bytes =
    Waits waiting want streams shown ∷ Fails t ∷ []
wait_marks (Joined l t) waiting want streams shown bytes =
    Waits waiting want streams shown ∷ Joins l t ∷ []
wait_marks NoMemory waiting want streams shown bytes = []

-- the streams that are open after a turn
abbrev pub open_after : Turn → List ℕ → List ℕ
open_after (Accepted k) streams = streams ++ k ∷ []
open_after (Got t) streams = streams
open_after (End t) streams = streams
open_after (Writable t) streams = streams
open_after (Failed t) streams = streams
open_after (Joined l t) streams = streams ++ t ∷ []
open_after NoMemory streams = streams

-- the streams that are blocked after a turn
abbrev pub blocked_after : Turn → List ℕ → List ℕ
blocked_after (Accepted k) blocked = blocked
blocked_after (Got t) blocked = blocked
blocked_after (End t) blocked = blocked
blocked_after (Writable t) blocked = without t blocked
blocked_after (Failed t) blocked = blocked
blocked_after (Joined l t) blocked = blocked
blocked_after NoMemory blocked = blocked

-- the last client accepted after a turn
abbrev pub last_after : Turn → ℕ → ℕ
last_after (Accepted k) last = k
last_after (Got t) last = last
last_after (End t) last = last
last_after (Writable t) last = last
last_after (Failed t) last = last
last_after (Joined l t) last = last
last_after NoMemory last = last

-- the own streams that are open after a turn, and how they stand
abbrev pub own_after : Turn → List OwnStream → List OwnStream
own_after (Accepted k) own = own
own_after (Got t) own = own
own_after (End t) own = with_end t own
own_after (Writable t) own = own
own_after (Failed t) own = own
own_after (Joined l t) own = own ++ new_stream t ∷ []
own_after NoMemory own = own

-- the last number of an own stream or listener after a turn
abbrev pub last_own_after : Turn → ℕ → ℕ
last_own_after (Accepted k) last = last
last_own_after (Got t) last = last
last_own_after (End t) last = last
last_own_after (Writable t) last = last
last_own_after (Failed t) last = last
last_own_after (Joined l t) last = t
last_own_after NoMemory last = last

-- the mark that a write adds, with whether clients are accepted: none if memory runs out
abbrev pub write_marks : Wrote → ℕ → List ℕ → Bool → List Mark
write_marks (Took n) t bytes listens = Takes t (take n bytes) listens ∷ []
write_marks Later t bytes listens = Holds t ∷ []
write_marks FailedWrite t bytes listens = WriteFails t ∷ []
write_marks NoMemoryToWrite t bytes listens = []

-- the streams that are blocked after a write
abbrev pub blocked_after_write : Wrote → ℕ → List ℕ → List ℕ
blocked_after_write (Took n) t blocked = blocked
blocked_after_write Later t blocked = blocked ++ t ∷ []
blocked_after_write FailedWrite t blocked = blocked
blocked_after_write NoMemoryToWrite t blocked = blocked

-- ---- what each call leaves of it

-- after a call of open: the server's stream alone is open, no listener is, and clients are accepted
abbrev pub seen_after_open : Result (Unit {0}) FileError → Seen → Seen
seen_after_open (Ok x) seen = record seen {
  streams = 0 ∷ [];
  blocked = [];
  listens = true;
  listeners = [];
  own = [];
}
seen_after_open (Err e) seen = seen

-- after a call of join: the server's stream alone is open, no listener is, and clients aren't
-- accepted
abbrev pub seen_after_join : Result (Unit {0}) FileError → Seen → Seen
seen_after_join (Ok x) seen = record seen {
  streams = 0 ∷ [];
  blocked = [];
  listens = false;
  listeners = [];
  own = [];
}
seen_after_join (Err e) seen = seen

-- the streams and clients after a turn
abbrev pub moved_by_turn : Turn → Seen → Seen
moved_by_turn turn seen = record seen {
  streams = open_after turn seen.streams;
  blocked = blocked_after turn seen.blocked;
  last = last_after turn seen.last;
  own = own_after turn seen.own;
  last_own = last_own_after turn seen.last_own;
}

-- after a turn
abbrev pub seen_after_turn : Turn → List ℕ → Want → List ℕ → Seen → Seen
seen_after_turn turn waiting want bytes seen = record (moved_by_turn turn seen) {
  recorded = option_map (λ m.
      m ++ wait_marks turn waiting want seen.streams (shown_of seen) bytes) seen.recorded;
}

-- the streams after a write
abbrev pub moved_by_write : Wrote → ℕ → Seen → Seen
moved_by_write wrote stream seen =
    record seen { blocked = blocked_after_write wrote stream seen.blocked }

-- after a write
abbrev pub seen_after_write : Wrote → ℕ → List ℕ → Seen → Seen
seen_after_write wrote stream bytes seen = record (moved_by_write wrote stream seen) {
  recorded = option_map (λ m. m ++ write_marks wrote stream bytes seen.listens) seen.recorded;
}

-- after a stream was closed
abbrev pub seen_after_close : ℕ → Seen → Seen
seen_after_close stream seen = record seen {
  streams = without stream seen.streams;
  blocked = without stream seen.blocked;
  own = without_stream stream seen.own;
}

-- after a forwarder's mark was noted
abbrev pub seen_after_note : {E : Type 0} → Result (Unit {0}) E → HouseMark → Seen → Seen
seen_after_note (Ok x) mark seen =
    record seen { recorded = option_map (λ m. m ++ House mark ∷ []) seen.recorded }
seen_after_note (Err e) mark seen = seen

-- the mark of an order that was to make something, with the number of what was made: for want of
-- memory none
abbrev pub made_marks : Result ℕ FileError → Order → List Mark
made_marks (Ok n) order = House (HouseOrder order (Some n)) ∷ []
made_marks (Err FailedFile) order = House (HouseOrder order None) ∷ []
made_marks (Err OutOfMemory) order = []

-- the listeners after one was to be opened
abbrev pub moved_by_listen : Result ℕ FileError → Seen → Seen
moved_by_listen (Ok n) seen = record seen { listeners = seen.listeners ++ n ∷ []; last_own = n }
moved_by_listen (Err e) seen = seen

-- after a listener was to be opened there
abbrev pub seen_after_listen : Result ℕ FileError → List ℕ → ℕ → Seen → Seen
seen_after_listen answer host port seen = record (moved_by_listen answer seen) {
  recorded = option_map (λ m. m ++ made_marks answer (Listen host port)) seen.recorded;
}

-- the streams after one was to be made, which is blocked until it is connected
abbrev pub moved_by_connect : Result ℕ FileError → Seen → Seen
moved_by_connect (Ok n) seen = record seen {
  streams = seen.streams ++ n ∷ [];
  blocked = seen.blocked ++ n ∷ [];
  own = seen.own ++ new_stream n ∷ [];
  last_own = n;
}
moved_by_connect (Err e) seen = seen

-- after a stream was to be made that connects there
abbrev pub seen_after_connect : Result ℕ FileError → List ℕ → ℕ → Seen → Seen
seen_after_connect answer host port seen = record (moved_by_connect answer seen) {
  recorded = option_map (λ m. m ++ made_marks answer (Connect host port)) seen.recorded;
}

-- after a listener was closed
abbrev pub seen_after_unlisten : ℕ → Seen → Seen
seen_after_unlisten listener seen =
    record seen { listeners = without listener seen.listeners }

-- after an own stream was paused, or is paused no longer
abbrev pub seen_after_pause : Bool → ℕ → Seen → Seen
seen_after_pause b stream seen = record seen { own = with_pause b stream seen.own }

-- after an own stream was finished
abbrev pub seen_after_finish : ℕ → Seen → Seen
seen_after_finish stream seen = record seen { own = with_finish stream seen.own }

-- after clients are accepted no more
abbrev pub seen_after_silence : Seen → Seen
seen_after_silence seen = record seen { listens = false }
