-- What can stand at the front of bytes that are cut into frames (PROTOCOL.mux): less than a whole
-- frame, or a fault.
use Rattle.std.specs.Prelude.{◌≡◌, ◌≢◌, ◌⊎◌, ⊤, ℕ, ◌+◌, ◌^◌, ◌≤◌, ◌<◌, List, [], ◌∷◌, ◌++◌, length, take, drop, Some, None}
use Rattle.ssh_fields.specs.Fields.{take_u32}
use Rattle.ssh_grammar.specs.declared.fault.BadFrame.{BadFrame}
use Rattle.ssh_grammar.specs.declared.fault.BadFrame.TheVariants as bad
use Rattle.ssh_grammar.specs.declared.framing.Framing.{Framing}
use Rattle.ssh_grammar.specs.declared.framing.Framing.TheVariants.{Control, Proxy}
use Rattle.ssh_grammar.specs.declared.numbers.TheConstants.{LONGEST_FRAME}
use Rattle.ssh_grammar.specs.Frames.{Front, Frame, More, Faulty, shortest, frame}
use Rattle.proxy_frames.specs.declared.next.Front.{Front as Found}
use Rattle.proxy_frames.specs.declared.next.Front.TheVariants as found
use Rattle.proxy_frames.specs.State.{FramerState}

-- a length field that is in range, and the bytes after it
pub record IsHeader (framing : Framing) (bytes : List ℕ) (n : ℕ) (behind : List ℕ) : Type 0 where
  pub reads : take_u32 bytes ≡ Some (n, behind)
  pub least : shortest framing ≤ n
  pub most : n ≤ LONGEST_FRAME

-- a padding length, where one stands there already, is 0
abbrev pub HasNoPadding : Framing → List ℕ → Type 0
HasNoPadding Control behind = ⊤
HasNoPadding Proxy [] = ⊤
HasNoPadding Proxy (b ∷ behind) = b ≡ 0

-- a length field in range, no padding, and fewer bytes than the length says
pub record IsUnfinished (framing : Framing) (bytes : List ℕ) (n : ℕ) (behind : List ℕ) :
    Type 0 where
  pub header : IsHeader framing bytes n behind
  pub padding : HasNoPadding framing behind
  pub short : length behind < n

-- less than a whole frame: less than a length field, or a whole one and less than the rest of its
-- frame
abbrev pub IsPartial : Framing → List ℕ → Type 0
IsPartial framing bytes = (length bytes < 4)
    ⊎ ((n : ℕ) × (behind : List ℕ) × IsUnfinished framing bytes n behind)

-- a proper prefix of a frame, whatever length its field says
pub record IsPrefix (framing : Framing) (bytes : List ℕ) : Type 0 where
  pub content : List ℕ
  pub tail : List ℕ
  pub fits : length (frame framing content) < 2 ^ 32 + 4
  pub whole : bytes ++ tail ≡ frame framing content
  pub proper : tail ≢ []

-- a fault: a length field out of range, or a padding length after one that is in range
abbrev pub IsFault : Framing → List ℕ → BadFrame → Type 0
IsFault framing bytes (bad.Long n) = (behind : List ℕ) × (take_u32 bytes ≡ Some (n, behind))
    × (LONGEST_FRAME < n)
IsFault framing bytes (bad.Short n) = (behind : List ℕ) × (take_u32 bytes ≡ Some (n, behind))
    × (n < shortest framing)
IsFault framing bytes (bad.Padding b) =
    (n : ℕ) × (behind : List ℕ) × (framing ≡ Proxy) × (b ≢ 0)
    × IsHeader framing bytes n (b ∷ behind)

-- ---- what a framer is answered

-- no fault was reported, and less than a whole frame is there
abbrev pub WantsMore : FramerState → Type 0
WantsMore f = (f.fault ≡ None) × IsPartial f.framing f.rest

-- the fault was reported already, or none was and the fault is there
abbrev pub HasFault : FramerState → BadFrame → Type 0
HasFault f fault = (f.fault ≡ Some fault) ⊎ ((f.fault ≡ None) × IsFault f.framing f.rest fault)

-- ---- the front, found in place

-- so many bytes of header and so many of content, less than a frame, or a fault
abbrev pub IsFrameFront : List ℕ → Found → Front → Type 0
IsFrameFront bytes (found.Frame header n) front =
    (header + n ≤ length bytes)
    × (front ≡ Frame (take n (drop header bytes)) (drop n (drop header bytes)))
IsFrameFront bytes found.More front = front ≡ More
IsFrameFront bytes (found.Bad fault) front = front ≡ Faulty fault
