-- What a client has sent by all its bytes (PROTOCOL.mux): control messages, and after a PROXY
-- payloads.
use Rattle.std.specs.Prelude.{ℕ, List, [], ◌∷◌, ◌++◌, length, zero, suc, Ok, Err}
use Rattle.ssh_grammar.specs.declared.fault.BadFrame.{BadFrame}
use Rattle.ssh_grammar.specs.declared.framing.Framing.TheVariants as framing
use Rattle.ssh_grammar.specs.Control.{Control, NewSession, StdioForward, Proxy}
use Rattle.ssh_grammar.specs.ReadControl.{read_control}
use Rattle.ssh_grammar.specs.Frames.{Front, Frame, More, Faulty, first_frame}

-- how the next bytes of a stream are read: as control messages, as payloads, or not at all any more
pub data Mode : Type 0 where
  InControl : Mode
  InProxy : Mode
  Stopped : Mode

-- what is sent at once: a control message's body, a payload, or a frame that is none
pub data Outgoing : Type 0 where
  Body : (body : List ℕ) → Outgoing
  Payload : (payload : List ℕ) → Outgoing
  BadFraming : (fault : BadFrame) → Outgoing

-- the mode after a control message: PROXY begins the proxy, and after the two requests that hand
-- descriptors over nothing is read
abbrev pub after_control : Control → Mode
after_control (Proxy id) = InProxy
after_control (NewSession id rest) = Stopped
after_control (StdioForward id rest) = Stopped
after_control _ = InControl

-- the same of a body; one that does not read changes nothing
abbrev pub after_body : List ℕ → Mode
after_body body = elim (read_control body) [ Err e ↦ InControl | Ok c ↦ after_control c ]

-- the front of the next bytes
abbrev pub first_in : Mode → List ℕ → Front
first_in InControl bytes = first_frame framing.Control bytes
first_in InProxy bytes = first_frame framing.Proxy bytes
first_in Stopped bytes = More

-- the item of a frame
abbrev pub sending_in : Mode → List ℕ → Outgoing
sending_in InControl content = Body content
sending_in InProxy content = Payload content
sending_in Stopped content = Payload content

-- the mode after a frame
abbrev pub mode_after : Mode → List ℕ → Mode
mode_after InControl content = after_body content
mode_after InProxy content = InProxy
mode_after Stopped content = Stopped

-- what was sent, how the next bytes are read, and the bytes that are not read yet
pub record Parsed : Type 0 where
  pub says : List Outgoing
  pub mode : Mode
  pub rest : List ℕ

-- one more thing in front
abbrev pub with_sending : Outgoing → Parsed → Parsed
with_sending x p = record { says = x ∷ p.says; mode = p.mode; rest = p.rest }

-- after a fault nothing more is read
abbrev pub parse_front : (Mode → List ℕ → Parsed) → Mode → List ℕ → Front → Parsed
parse_front go mode bytes (Frame content rest) =
    with_sending (sending_in mode content) (go (mode_after mode content) rest)
parse_front go mode bytes More = record { says = []; mode = mode; rest = bytes }
parse_front go mode bytes (Faulty fault) =
    record { says = BadFraming fault ∷ []; mode = Stopped; rest = bytes }

-- the first number bounds how many frames
abbrev pub parse_by : ℕ → Mode → List ℕ → Parsed
parse_by zero mode bytes = record { says = []; mode = mode; rest = bytes }
parse_by (suc n) mode bytes = parse_front (parse_by n) mode bytes (first_in mode bytes)

-- bytes read from a mode on
abbrev pub parse : Mode → List ℕ → Parsed
parse mode bytes = parse_by (length bytes) mode bytes

-- more bytes, after what was read
abbrev pub and_then : Parsed → List ℕ → Parsed
and_then p bytes =
    let more = parse p.mode (p.rest ++ bytes) in
    record { says = p.says ++ more.says; mode = more.mode; rest = more.rest }

-- what a client has sent by all its bytes
abbrev pub said : List ℕ → List Outgoing
said bytes = (parse InControl bytes).says

-- what the server has sent by all its bytes: payloads from the first byte on
abbrev pub heard : List ℕ → List Outgoing
heard bytes = (parse InProxy bytes).says
