-- What a framer received and what it gave, and what it represents.
use Rattle.std.specs.Prelude.{◌≡◌, ℕ, List, [], ◌∷◌, ◌++◌, length, drop, Option, Some, None}
use Rattle.std.specs.List.{AllByRecursion}
use Rattle.ssh_grammar.specs.declared.fault.BadFrame.{BadFrame}
use Rattle.ssh_grammar.specs.declared.framing.Framing.{Framing}
use Rattle.ssh_grammar.specs.Frames.{Cut, cut, Faulty, first_frame}
use Rattle.ssh_grammar.specs.IsFrame.{IsContent, bytes_of_frames}
use Rattle.proxy_frames.specs.declared.next.Next.{Next}
use Rattle.proxy_frames.specs.declared.next.Next.TheVariants as next
use Rattle.proxy_frames.specs.State.{FramerState}
use Rattle.proxy_frames.specs.Steps.{once_recorded}

-- since a framer began, or was switched: how it cuts, the bytes that came, first those that the
-- switch left, the frames that were given, and the fault, once one was reported
pub record FramerHistory : Type 0 where
  pub framing : Framing
  pub bytes : List ℕ
  pub given : List (List ℕ)
  pub recorded : Option BadFrame

-- nothing came yet
abbrev pub new_history : Framing → FramerHistory
new_history framing = record { framing = framing; bytes = []; given = []; recorded = None }

-- all frames of the bytes that came, the bytes after the last one, and their fault
abbrev pub cut_of : FramerHistory → Cut
cut_of h = cut h.framing h.bytes

-- the frames that were not given yet
abbrev pub to_come : FramerHistory → List (List ℕ)
to_come h = drop (length h.given) (cut_of h).frames

-- the bytes after the frames that were given
abbrev pub bytes_after_frames : FramerHistory → List ℕ
bytes_after_frames h = drop (length (bytes_of_frames h.framing h.given)) h.bytes

-- ---- how it goes on

-- more bytes came
abbrev pub and_bytes : List ℕ → FramerHistory → FramerHistory
and_bytes piece h = record h { bytes = h.bytes ++ piece }

-- one more frame was given
abbrev pub and_frame : List ℕ → FramerHistory → FramerHistory
and_frame content h = record h { given = h.given ++ content ∷ [] }

-- a fault was reported
abbrev pub and_fault : BadFrame → FramerHistory → FramerHistory
and_fault fault h = record h { recorded = Some fault }

-- from now on the bytes that are left are cut so; after a fault nothing is
abbrev pub and_switch : Framing → FramerHistory → FramerHistory
and_switch framing h =
    once_recorded h.recorded (λ _. h) (record {
      framing = framing;
      bytes = bytes_after_frames h;
      given = [];
      recorded = None;
    })

-- ---- what is next

-- the next frame, and after the last one the fault, if there is one
abbrev pub next_in : List (List ℕ) → Option BadFrame → Next
next_in (content ∷ more) fault = next.Frame
next_in [] (Some fault) = next.Bad fault
next_in [] None = next.More

-- the same, but a fault that was reported is reported again
abbrev pub next_frame : FramerHistory → Next
next_frame h = once_recorded h.recorded next.Bad (next_in (to_come h) (cut_of h).fault)

-- the frame that it gives, if it is one
abbrev pub first_given_frame : List (List ℕ) → Option (List ℕ)
first_given_frame (content ∷ more) = Some content
first_given_frame [] = None

abbrev pub frame_next : FramerHistory → Option (List ℕ)
frame_next h = once_recorded h.recorded (λ _. None) (first_given_frame (to_come h))

-- what came and what was given then
abbrev pub and_next_in : List (List ℕ) → Option BadFrame → FramerHistory → FramerHistory
and_next_in (content ∷ more) fault h = and_frame content h
and_next_in [] (Some fault) h = and_fault fault h
and_next_in [] None h = h

abbrev pub and_next : FramerHistory → FramerHistory
and_next h = once_recorded h.recorded (λ _. h) (and_next_in (to_come h) (cut_of h).fault h)

-- ---- what a framer represents

-- frames that were given, before a cut
abbrev pub with_frames_before : List (List ℕ) → Cut → Cut
with_frames_before given c = record { frames = given ++ c.frames; rest = c.rest; fault = c.fault }

-- while no fault was reported the framer cuts as the history does; one that was reported is at the
-- front of its rest
abbrev pub HasRecorded : Option BadFrame → FramerHistory → FramerState → Type 0
HasRecorded None h f = f.framing ≡ h.framing
HasRecorded (Some fault) h f = first_frame h.framing f.rest ≡ Faulty fault

-- the frames that were given are the first ones of all the bytes that came; the others, the bytes
-- after the last one and the fault are those of the framer's rest
pub record FramerRepresents (h : FramerHistory) (f : FramerState) : Type 0 where
  pub valid : AllByRecursion (IsContent h.framing) h.given
  pub filled : h.bytes ≡ bytes_of_frames h.framing h.given ++ f.rest
  pub frames : cut_of h ≡ with_frames_before h.given (cut h.framing f.rest)
  pub fault : f.fault ≡ h.recorded
  pub recorded : HasRecorded h.recorded h f

-- of each history that it represented before a call, a framer represents afterwards what the
-- history became
abbrev pub FramerGoesOn : FramerState → FramerState → (FramerHistory → FramerHistory) → Type 0
FramerGoesOn old new event = (h : FramerHistory) → FramerRepresents h old → FramerRepresents (event h) new

-- of each history that it represented, this is what comes next
abbrev pub IsNextFrame : FramerState → Next → FramerState → Type 0
IsNextFrame old answer new =
    (h : FramerHistory) → FramerRepresents h old → (answer ≡ next_frame h) × (new.current ≡ frame_next h)
