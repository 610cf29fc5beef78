-- Which contents a frame can have, and a stream of frames (PROTOCOL.mux).
use Rattle.std.specs.Prelude.{ℕ, ◌≡◌, ◌+◌, ◌≤◌, List, [], ◌∷◌, ◌++◌, length, Option, Some, None}
use Rattle.std.specs.List.{AllByRecursion}
use Rattle.ssh_grammar.specs.declared.fault.BadFrame.{BadFrame}
use Rattle.ssh_grammar.specs.declared.framing.Framing.{Framing}
use Rattle.ssh_grammar.specs.declared.framing.Framing.TheVariants.{Control, Proxy}
use Rattle.ssh_grammar.specs.declared.numbers.TheConstants.{LONGEST_FRAME}
use Rattle.ssh_grammar.specs.Frames.{frame, Front, More, Faulty, first_frame, Cut}

-- a control message's body has four bytes at least, a payload has one, and the length field is
-- 262,144 at most
abbrev pub IsContent : Framing → List ℕ → Type 0
IsContent Control body = (4 ≤ length body) × (length body ≤ LONGEST_FRAME)
IsContent Proxy payload = (1 ≤ length payload) × (length payload + 1 ≤ LONGEST_FRAME)

-- the bytes of frames, one after the other
abbrev pub bytes_of_frames : Framing → List (List ℕ) → List ℕ
bytes_of_frames framing [] = []
bytes_of_frames framing (content ∷ contents) = frame framing content ++ bytes_of_frames framing contents

-- where a cut ends: at the front of a frame that isn't whole yet, or at a fault
abbrev pub EndsAt : Option BadFrame → Front → Type 0
EndsAt None front = front ≡ More
EndsAt (Some fault) front = front ≡ Faulty fault

-- these frames and no more: they are valid, they fill the bytes up to the rest, and no frame stands
-- there
pub record Cuts (framing : Framing) (bytes : List ℕ) (c : Cut) : Type 0 where
  pub valid : AllByRecursion (IsContent framing) c.frames
  pub filled : bytes ≡ bytes_of_frames framing c.frames ++ c.rest
  pub longest : EndsAt c.fault (first_frame framing c.rest)
