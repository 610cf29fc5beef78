-- What holds of framers over all bytes, however these were cut into pieces.
use Rattle.std.specs.Prelude.{◌≡◌, ◌↔◌, ℕ, List, ◌∷◌, [], ◌++◌, length, map, Some}
use Rattle.std.specs.List.{AllByRecursion}
use Rattle.ssh_fields.specs.Fields.{AreBytes}
use Rattle.ssh_grammar.specs.declared.fault.BadFrame.{BadFrame}
use Rattle.ssh_grammar.specs.declared.framing.Framing.{Framing}
use Rattle.ssh_grammar.specs.declared.framing.Framing.TheVariants as framing
use Rattle.ssh_grammar.specs.Frames.{More, Faulty, first_frame, cut}
use Rattle.ssh_grammar.specs.IsFrame.{IsContent, bytes_of_frames}
use Rattle.ssh_grammar.specs.Said.{InProxy, Body, Payload, after_body, said}
use Rattle.ssh_grammar.specs.Laws.{KeepControl, says}
use Rattle.proxy_frames.specs.State.{FramerState}
use Rattle.proxy_frames.specs.Steps.{new_framer, with_written}
use Rattle.proxy_frames.specs.Fronts.{IsPartial, IsPrefix, IsFault}
use Rattle.proxy_frames.specs.FramerHistory.{FramerHistory, FramerRepresents, to_come, bytes_after_frames, with_frames_before}
use Rattle.proxy_frames.specs.Runs.{taken_of, cut_taken, stream_of_pieces}

-- ---- in any pieces

-- where all frames are removed as they come, these, the rest and the fault are those of the whole
-- stream
abbrev pub PiecesGiveTheCut : Type 0
PiecesGiveTheCut =
    (framing : Framing) (pieces : List (List ℕ))
    → cut_taken (taken_of (new_framer framing) pieces) ≡ cut framing (stream_of_pieces pieces)

-- so two cuttings of the same bytes give the same
abbrev pub AnyPiecesGiveTheSame : Type 0
AnyPiecesGiveTheSame =
    (framing : Framing) (pieces others : List (List ℕ)) → stream_of_pieces pieces ≡ stream_of_pieces others
    → cut_taken (taken_of (new_framer framing) pieces)
    ≡ cut_taken (taken_of (new_framer framing) others)

-- whenever frames are removed: the frames given and those to come, the rest and the fault after
-- them
pub record AreAlike (h i : FramerHistory) (f g : FramerState) : Type 0 where
  pub frames : h.given ++ to_come h ≡ i.given ++ to_come i
  pub rest : (cut h.framing f.rest).rest ≡ (cut i.framing g.rest).rest
  pub fault : (cut h.framing f.rest).fault ≡ (cut i.framing g.rest).fault

-- of two framers that cut alike and to which the same bytes came, in whatever pieces and with
-- whatever frames taken between them, these are the same
abbrev pub AnyTimeGivesTheSame : Type 0
AnyTimeGivesTheSame =
    (h i : FramerHistory) (f g : FramerState) → FramerRepresents h f → FramerRepresents i g
    → h.framing ≡ i.framing → h.bytes ≡ i.bytes → AreAlike h i f g

-- ---- through a switch

-- what is left at a switch is all that follows the frames that were given
abbrev pub NothingIsLost : Type 0
NothingIsLost =
    (h : FramerHistory) (f : FramerState) → FramerRepresents h f → h.bytes ≡ bytes_of_frames h.framing h.given ++ bytes_after_frames h

-- where the last control message given begins the proxy, all bytes say the messages given, and then
-- the payloads and the fault of what is left and of what comes after the switch
abbrev pub SwitchedIsSent : Type 0
SwitchedIsSent =
    (h : FramerHistory) (f : FramerState) (bodies : List (List ℕ)) (last more : List ℕ) → FramerRepresents h f
    → h.framing ≡ framing.Control → h.given ≡ bodies ++ last ∷ [] → KeepControl bodies
    → after_body last ≡ InProxy
    → said (h.bytes ++ more) ≡ map Body bodies
    ++ (Body last ∷ says framing.Proxy Payload (bytes_after_frames h ++ more))

-- ---- at the front

-- more is wanted exactly where less than a whole frame is there
abbrev pub MoreIsPartial : Type 0
MoreIsPartial = (framing : Framing) (bytes : List ℕ)
    → (first_frame framing bytes ≡ More) ↔ IsPartial framing bytes

-- that is a proper prefix of a frame in which no fault is seen yet
abbrev pub MoreIsPrefix : Type 0
MoreIsPrefix =
    (framing : Framing) (bytes : List ℕ) → AreBytes bytes
    → (first_frame framing bytes ≡ More)
    ↔ (IsPrefix framing bytes × ((fault : BadFrame) → IsFault framing bytes fault → ⊥))

-- a fault is reported exactly where there is one
abbrev pub FaultsAreRecorded : Type 0
FaultsAreRecorded =
    (framing : Framing) (bytes : List ℕ) (fault : BadFrame)
    → (first_frame framing bytes ≡ Faulty fault) ↔ IsFault framing bytes fault

-- and stays there, whatever bytes follow
abbrev pub FaultsStay : Type 0
FaultsStay =
    (framing : Framing) (bytes more : List ℕ) (fault : BadFrame)
    → IsFault framing bytes fault → IsFault framing (bytes ++ more) fault

-- ---- from a queue to a framer

-- frames that were queued are cut one by one, and then what follows them
abbrev pub QueuedFramesAreCut : Type 0
QueuedFramesAreCut =
    (framing : Framing) (contents : List (List ℕ)) (rest : List ℕ)
    → AllByRecursion (IsContent framing) contents
    → cut framing (bytes_of_frames framing contents ++ rest) ≡ with_frames_before contents (cut framing rest)

-- ---- in a frame

-- what is written there, byte for byte, changes nothing else
abbrev pub WritingChangesTheFrame : Type 0
WritingChangesTheFrame =
    (f : FramerState) (content written : List ℕ) → f.current ≡ Some content
    → length written ≡ length content
    → with_written f written ≡ record f { current = Some written }

-- and the framer represents what it represented
abbrev pub WritingKeepsTheHistory : Type 0
WritingKeepsTheHistory =
    (h : FramerHistory) (f : FramerState) (content written : List ℕ) → f.current ≡ Some content
    → length written ≡ length content
    → FramerRepresents h f → FramerRepresents h (with_written f written)
