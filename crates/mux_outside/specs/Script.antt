-- What a script gives: the turns of its steps, and the answers to writes by its entries.
use Rattle.std.specs.Prelude.{◌<◌, ℕ, ◌+◌, Bool, not, ◌&&◌, if◌then◌else◌, ◌==◌, nat_lt, List, [], ◌∷◌, length, take, drop, min, max, Option, Some, None, unwrap_or, slice_get}
use Rattle.std.specs.Option.{option_map}
use Rattle.mux_outside.specs.OwnStreams.{is_own, is_silent}
use Rattle.mux_outside.specs.Seen.{Seen}
use Rattle.mux_outside.specs.Streams.{among}
use Rattle.mux_outside.specs.declared.own_streams.TheConstants.{LAST_CLIENT, LAST_OWN}
use Rattle.mux_outside.specs.declared.piece.TheConstants.{LONGEST_PIECE}
use Rattle.mux_outside.specs.declared.plan.Given.{Given}
use Rattle.mux_outside.specs.declared.plan.Place.{Place}
use Rattle.mux_outside.specs.declared.script.Step.{Step}
use Rattle.mux_outside.specs.declared.script.Step.TheVariants.{Accept, Bytes, End, Fail, Writable, Join}
use Rattle.mux_outside.specs.declared.script.WriteEntry.{WriteEntry}
use Rattle.mux_outside.specs.declared.script.WriteEntry.TheVariants.{All, Some as SomeBytes, Later, Fail as FailWrite}
use Rattle.mux_outside.specs.declared.turn.Turn.{Turn}
use Rattle.mux_outside.specs.declared.turn.Turn.TheVariants.{Accepted, Got, End as Ended, Writable as IsWritable, Failed, Joined}
use Rattle.mux_outside.specs.declared.turn.Wrote.{Wrote}
use Rattle.mux_outside.specs.declared.turn.Wrote.TheVariants.{Took, Later as IsLater, Failed as FailedWrite}

-- ---- steps

-- whether a step isn't skipped, by what is seen of the wire
abbrev pub is_given : Seen → Step → Bool
is_given seen Accept = seen.listens && nat_lt seen.last LAST_CLIENT
is_given seen (Bytes t text) =
    among t seen.streams && (not (is_silent t seen.own) && not (length text == 0))
is_given seen (End t) = among t seen.streams && not (is_silent t seen.own)
is_given seen (Fail t) = among t seen.streams
is_given seen (Writable t) = among t seen.streams && among t seen.blocked
is_given seen (Join l t) =
    among l seen.listeners && (nat_lt seen.last_own t && not (nat_lt LAST_OWN t))

-- a client can come only while there is a number above that of the last one
abbrev pub FirstGives : ℕ → List Step → Type 0
FirstGives last [] = Unit {0}
FirstGives last (Accept ∷ steps) = last < LAST_CLIENT
FirstGives last (Bytes t text ∷ steps) = Unit {0}
FirstGives last (End t ∷ steps) = Unit {0}
FirstGives last (Fail t ∷ steps) = Unit {0}
FirstGives last (Writable t ∷ steps) = Unit {0}
FirstGives last (Join l t ∷ steps) = Unit {0}

-- the steps from the first one that isn't skipped
abbrev pub from_first : (Step → Bool) → List Step → List Step
from_first test [] = []
from_first test (step ∷ steps) =
    let later = from_first test steps in
    if test step then step ∷ steps else later

-- the turn of the first step, and after the last step the server's end
abbrev pub turn_of : ℕ → List Step → Turn
turn_of last [] = Ended 0
turn_of last (Accept ∷ steps) = Accepted (last + 1)
turn_of last (Bytes t text ∷ steps) = Got t
turn_of last (End t ∷ steps) = Ended t
turn_of last (Fail t ∷ steps) = Failed t
turn_of last (Writable t ∷ steps) = IsWritable t
turn_of last (Join l t ∷ steps) = Joined l t

-- the bytes that it gives, if any: they come in pieces
abbrev pub step_bytes_of : List Step → Option (List ℕ)
step_bytes_of [] = None
step_bytes_of (Accept ∷ steps) = None
step_bytes_of (Bytes t text ∷ steps) = Some (take LONGEST_PIECE text)
step_bytes_of (End t ∷ steps) = None
step_bytes_of (Fail t ∷ steps) = None
step_bytes_of (Writable t ∷ steps) = None
step_bytes_of (Join l t ∷ steps) = None

-- the buffer after that turn
abbrev pub piece_of : List Step → List ℕ → List ℕ
piece_of steps piece = unwrap_or (step_bytes_of steps) piece

-- the bytes of a turn that is given
abbrev pub given_bytes_in : Given → Option (List ℕ)
given_bytes_in given = option_map (λ bytes. bytes.now) given.bytes

-- the steps after that turn: a step of bytes stays with those that it hasn't given
abbrev pub steps_after : List Step → List Step
steps_after [] = []
steps_after (Accept ∷ steps) = steps
steps_after (Bytes t text ∷ steps) = Bytes t (drop LONGEST_PIECE text) ∷ steps
steps_after (End t ∷ steps) = steps
steps_after (Fail t ∷ steps) = steps
steps_after (Writable t ∷ steps) = steps
steps_after (Join l t ∷ steps) = steps

-- a step that has given so many bytes
abbrev pub cut_step : ℕ → Step → Step
cut_step n Accept = Accept
cut_step n (Bytes t text) = Bytes t (drop n text)
cut_step n (End t) = End t
cut_step n (Fail t) = Fail t
cut_step n (Writable t) = Writable t
cut_step n (Join l t) = Join l t

-- steps of which the first has given so many bytes
abbrev pub cut_first : ℕ → List Step → List Step
cut_first n [] = []
cut_first n (step ∷ steps) = cut_step n step ∷ steps

-- the steps from a place on
abbrev pub steps_from : List Step → Place → List Step
steps_from steps place = cut_first place.offset (drop place.step steps)

-- ---- writes

-- the entry of a write after so many others: after the last entry all is accepted
abbrev pub write_entry_at : List WriteEntry → ℕ → WriteEntry
write_entry_at entries i = unwrap_or (slice_get entries i) All

-- the answer to a write of so many bytes: one at least is accepted
abbrev pub write_answer : WriteEntry → ℕ → Wrote
write_answer All len = Took len
write_answer (SomeBytes n) len = Took (min (max n 1) len)
write_answer Later len = IsLater
write_answer FailWrite len = FailedWrite
