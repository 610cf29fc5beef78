-- A framer to which a stream comes in pieces, and whose frames are removed as they come.
use Rattle.std.specs.Prelude.{ℕ, ◌+◌, List, [], ◌∷◌, ◌++◌, length, zero, suc}
use Rattle.ssh_grammar.specs.Frames.{Cut, Front, Frame, More, Faulty}
use Rattle.proxy_frames.specs.State.{FramerState}
use Rattle.proxy_frames.specs.Steps.{front_of, after_front, pushed}

-- the frames that were removed, and the framer then
pub record Taken : Type 0 where
  pub frames : List (List ℕ)
  pub framer : FramerState

-- frames that were removed before
abbrev pub and_taken : List (List ℕ) → Taken → Taken
and_taken frames t = record { frames = frames ++ t.frames; framer = t.framer }

-- a frame is removed, and then the others; where there is none, nothing more is
abbrev pub taken_front : (FramerState → Taken) → FramerState → Front → Taken
taken_front go f (Frame content rest) =
    and_taken (content ∷ []) (go (after_front (Frame content rest) f))
taken_front go f More = record { frames = []; framer = after_front More f }
taken_front go f (Faulty fault) = record { frames = []; framer = after_front (Faulty fault) f }

-- the first number bounds how many
abbrev pub frames_taken_by : ℕ → FramerState → Taken
frames_taken_by zero f = record { frames = []; framer = f }
frames_taken_by (suc n) f = taken_front (frames_taken_by n) f (front_of f)

-- all frames that are there
abbrev pub frames_taken : FramerState → Taken
frames_taken f = frames_taken_by (length f.rest + 1) f

-- of each piece, all frames that are there then
abbrev pub taken_of : FramerState → List (List ℕ) → Taken
taken_of f [] = record { frames = []; framer = f }
taken_of f (piece ∷ pieces) =
    and_taken (frames_taken (pushed piece f)).frames (taken_of (frames_taken (pushed piece f)).framer pieces)

-- the bytes of all pieces
abbrev pub stream_of_pieces : List (List ℕ) → List ℕ
stream_of_pieces [] = []
stream_of_pieces (piece ∷ pieces) = piece ++ stream_of_pieces pieces

-- the frames, the rest and the fault
abbrev pub cut_taken : Taken → Cut
cut_taken t = record { frames = t.frames; rest = t.framer.rest; fault = t.framer.fault }
