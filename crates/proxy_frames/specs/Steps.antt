-- What each call of a framer answers and leaves.
use Rattle.std.specs.Prelude.{ℕ, List, [], ◌++◌, length, take, drop, Option, Some, None}
use Rattle.ssh_grammar.specs.declared.fault.BadFrame.{BadFrame}
use Rattle.ssh_grammar.specs.declared.framing.Framing.{Framing}
use Rattle.ssh_grammar.specs.Frames.{Front, Frame, More, Faulty, first_frame}
use Rattle.proxy_frames.specs.declared.next.Next.{Next}
use Rattle.proxy_frames.specs.declared.next.Next.TheVariants as next
use Rattle.proxy_frames.specs.State.{FramerState}

-- a framer without a byte
abbrev pub new_framer : Framing → FramerState
new_framer framing = record { framing = framing; rest = []; current = None; fault = None }

-- after more bytes
abbrev pub pushed : List ℕ → FramerState → FramerState
pushed piece f = record f { rest = f.rest ++ piece; current = None }

-- from now on cut so
abbrev pub switched : Framing → FramerState → FramerState
switched framing f = record f { framing = framing; current = None }

-- one value once a fault was reported, and another one before
abbrev pub once_recorded : {A : Type 0} → Option BadFrame → (BadFrame → A) → A → A
once_recorded (Some fault) after before = after fault
once_recorded None after before = before

-- what comes next: the fault, once one was reported, and before that what stands at the front of
-- the rest
abbrev pub front_of : FramerState → Front
front_of f = once_recorded f.fault Faulty (first_frame f.framing f.rest)

-- what is answered to it
abbrev pub answer_to : Front → Next
answer_to (Frame content rest) = next.Frame
answer_to More = next.More
answer_to (Faulty fault) = next.Bad fault

-- and what it leaves: a frame is the current one, and a fault is noted
abbrev pub after_front : Front → FramerState → FramerState
after_front (Frame content rest) f = record f { rest = rest; current = Some content }
after_front More f = record f { current = None }
after_front (Faulty fault) f = record f { current = None; fault = Some fault }

-- ---- what is written in the current frame

-- bytes with others written over their front
abbrev pub written_over : List ℕ → List ℕ → List ℕ
written_over written bytes = take (length bytes) (written ++ drop (length written) bytes)

-- the frame, and nothing where there is none
abbrev pub frame_of : FramerState → List ℕ
frame_of f = elim f.current [ None ↦ [] | Some content ↦ content ]

-- after a write over the current frame. As many bytes as it has are the frame then, and nothing
-- else changes
abbrev pub with_written : FramerState → List ℕ → FramerState
with_written f written =
    let all = written_over written (frame_of f ++ f.rest) in
    record f {
      rest = drop (length (frame_of f)) all;
      current =
          Some (take (length (frame_of f)) all);
    }
