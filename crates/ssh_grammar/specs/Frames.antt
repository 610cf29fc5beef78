-- Frames (PROTOCOL.mux): how each is written, and how a stream is cut into them.
use Rattle.std.specs.Prelude.{ℕ, ◌+◌, ◌-◌, List, [], ◌∷◌, ◌++◌, length, Option, Some, None, true, false, zero, suc, take, drop, nat_lt, nat_eq, nat_le}
use Rattle.ssh_fields.specs.Fields.{u32, str, take_u32}
use Rattle.ssh_grammar.specs.declared.fault.BadFrame.{BadFrame}
use Rattle.ssh_grammar.specs.declared.fault.BadFrame.TheVariants as bad
use Rattle.ssh_grammar.specs.declared.framing.Framing.{Framing}
use Rattle.ssh_grammar.specs.declared.framing.Framing.TheVariants.{Control, Proxy}
use Rattle.ssh_grammar.specs.declared.numbers.TheConstants.{LONGEST_FRAME}
use Rattle.ssh_grammar.specs.Control.{Answer}
use Rattle.ssh_grammar.specs.SpellControl.{spell_answer}

-- a control message's body with its length in front
abbrev pub frame_body : List ℕ → List ℕ
frame_body body = str body

-- a payload with its packet length, which counts the padding length too, and a padding length of 0
abbrev pub frame_payload : List ℕ → List ℕ
frame_payload payload = u32 (length payload + 1) ++ (0 ∷ payload)

-- either frame
abbrev pub frame : Framing → List ℕ → List ℕ
frame Control body = frame_body body
frame Proxy payload = frame_payload payload

-- what a master sends, as a frame
abbrev pub frame_answer : Answer → List ℕ
frame_answer answer = frame_body (spell_answer answer)

-- ---- cutting

-- the front of some bytes: a frame and the bytes after it, a proper prefix of a frame, or a fault
pub data Front : Type 0 where
  Frame : (content rest : List ℕ) → Front
  More : Front
  Faulty : (fault : BadFrame) → Front

-- so many bytes, as soon as they are there
abbrev pub cut_content : ℕ → List ℕ → Front
cut_content n rest = elim (nat_le n (length rest)) [
  | true ↦ Frame (take n rest) (drop n rest)
  | false ↦ More
]

-- the padding length comes first
abbrev pub cut_padding : ℕ → List ℕ → Front
cut_padding n [] = More
cut_padding n (b ∷ rest) =
    elim (nat_eq b 0) [ true ↦ cut_content (n - 1) rest | false ↦ Faulty (bad.Padding b) ]

-- the least length field
abbrev pub shortest : Framing → ℕ
shortest Control = 4
shortest Proxy = 2

-- what follows the length
abbrev pub cut_rest : Framing → ℕ → List ℕ → Front
cut_rest Control n rest = cut_content n rest
cut_rest Proxy n rest = cut_padding n rest

-- a length out of range is a fault as soon as its four bytes are there
abbrev pub cut_length : Framing → ℕ → List ℕ → Front
cut_length framing n rest =
    elim (nat_lt n (shortest framing)) [
      | true ↦ Faulty (bad.Short n)
      | false ↦ elim (nat_lt LONGEST_FRAME n) [
        | true ↦ Faulty (bad.Long n)
        | false ↦ cut_rest framing n rest
      ]
    ]

-- the front, by its length field
abbrev pub first_frame : Framing → List ℕ → Front
first_frame framing bytes =
    elim (take_u32 bytes) [ None ↦ More | Some p ↦ cut_length framing p.0 p.1 ]

-- all frames of some bytes: what they hold, the bytes after the last one, and the fault of those
-- bytes, if any
pub record Cut : Type 0 where
  pub frames : List (List ℕ)
  pub rest : List ℕ
  pub fault : Option BadFrame

-- one more frame in front
abbrev pub with_frame : List ℕ → Cut → Cut
with_frame content c = record { frames = content ∷ c.frames; rest = c.rest; fault = c.fault }

-- the first number bounds how many frames
abbrev pub cut_by : ℕ → Framing → List ℕ → Cut
cut_by zero framing bytes = record { frames = []; rest = bytes; fault = None }
cut_by (suc n) framing bytes = elim (first_frame framing bytes) [
  | Frame content rest ↦ with_frame content (cut_by n framing rest)
  | More ↦ record { frames = []; rest = bytes; fault = None }
  | Faulty fault ↦ record { frames = []; rest = bytes; fault = Some fault }
]

-- all frames of some bytes
abbrev pub cut : Framing → List ℕ → Cut
cut framing bytes = cut_by (length bytes) framing bytes
