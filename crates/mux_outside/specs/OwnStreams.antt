-- The master's own streams and listeners: their numbers, and how its streams stand.
use Rattle.std.specs.Prelude.{ℕ, Bool, true, false, not, ◌&&◌, ◌||◌, if◌then◌else◌, ◌==◌, nat_lt, List, [], ◌∷◌, ◌++◌, map, filter}
use Rattle.std.specs.List.{list_any}
use Rattle.mux_outside.specs.declared.own_streams.OwnStream.{OwnStream}
use Rattle.mux_outside.specs.declared.own_streams.TheConstants.{LAST_CLIENT}
use Rattle.mux_outside.specs.declared.turn.Turn.{Turn}
use Rattle.mux_outside.specs.declared.turn.Turn.TheVariants.{Accepted, Got, End, Writable, Failed, Joined, NoMemory}

-- whether a number is that of an own stream or listener
abbrev pub is_own : ℕ → Bool
is_own n = nat_lt LAST_CLIENT n

-- a stream as it is made
abbrev pub new_stream : ℕ → OwnStream
new_stream t = record { number = t; paused = false; finished = false; ended = false }

-- whether it is one of them
abbrev pub is_one : ℕ → List OwnStream → Bool
is_one t own = list_any (λ s. s.number == t) own

-- whether it is one that gives nothing: it is paused, or has given its end
abbrev pub is_silent : ℕ → List OwnStream → Bool
is_silent t own = list_any (λ s. (s.number == t) && (s.paused || s.ended)) own

-- whether it is finished
abbrev pub is_finished : ℕ → List OwnStream → Bool
is_finished t own = list_any (λ s. (s.number == t) && s.finished) own

-- the numbers of the streams
abbrev pub numbers_of : List OwnStream → List ℕ
numbers_of own = map (λ s. s.number) own

-- ---- changes

abbrev pub pause_one : Bool → ℕ → OwnStream → OwnStream
pause_one b t s = if s.number == t then record s { paused = b } else s

abbrev pub finish_one : ℕ → OwnStream → OwnStream
finish_one t s = if s.number == t then record s { finished = true } else s

abbrev pub end_one : ℕ → OwnStream → OwnStream
end_one t s = if s.number == t then record s { ended = true } else s

-- a stream is paused from now on, or isn't
abbrev pub with_pause : Bool → ℕ → List OwnStream → List OwnStream
with_pause b t own = map (pause_one b t) own

-- a stream accepts no more bytes
abbrev pub with_finish : ℕ → List OwnStream → List OwnStream
with_finish t own = map (finish_one t) own

-- a stream has given its end
abbrev pub with_end : ℕ → List OwnStream → List OwnStream
with_end t own = map (end_one t) own

-- a stream is closed
abbrev pub without_stream : ℕ → List OwnStream → List OwnStream
without_stream t own = filter (λ s. not (s.number == t)) own

-- the stream of a socket that is accepted is one of them
abbrev pub joined_after : Turn → List OwnStream → List OwnStream
joined_after (Joined l t) own = own ++ new_stream t ∷ []
joined_after (Accepted k) own = own
joined_after (Got t) own = own
joined_after (End t) own = own
joined_after (Writable t) own = own
joined_after (Failed t) own = own
joined_after NoMemory own = own
