-- A talk with a master, by what is asked, the master's bytes and whether they ended (PROTOCOL.mux):
-- what is sent, what is shown, and how it ends.
use Rattle.std.specs.Prelude.{ℕ, ◌+◌, Bool, true, false, List, [], ◌∷◌, ◌++◌, length, Option, Some, None}
use Rattle.ssh_grammar.specs.declared.fault.BadFrame.{BadFrame}
use Rattle.ssh_grammar.specs.declared.framing.Framing.TheVariants as framing
use Rattle.ssh_grammar.specs.Frames.{Cut, cut}
use Rattle.mux_client.specs.declared.asks.Asks.{Asks}
use Rattle.mux_client.specs.Requests.{Request, requests_of, request_frame, hello_frame}
use Rattle.mux_client.specs.Replies.{ReplyVerdict, Grants, Refuses, Breaks, verdict, is_hello}

-- each request had its reply; the request with this id was refused; or the master broke the
-- protocol at this place of its bytes
pub data TalkOutcome : Type 0 where
  Finished : TalkOutcome
  RefusedAt : (id : ℕ) → TalkOutcome
  BrokenAt : (at : ℕ) → TalkOutcome

-- what is sent, what is shown, and the outcome, if there is one yet
pub record Talk : Type 0 where
  pub sent : List ℕ
  pub out : List ℕ
  pub outcome : Option TalkOutcome

-- ---- parts

-- it is over, or waits
abbrev pub talk_stops : Option TalkOutcome → Talk
talk_stops outcome = record { sent = []; out = []; outcome = outcome }

-- these bytes are sent first
abbrev pub talk_sending : List ℕ → Talk → Talk
talk_sending bytes t = record { sent = bytes ++ t.sent; out = t.out; outcome = t.outcome }

-- these bytes are shown first
abbrev pub talk_showing : List ℕ → Talk → Talk
talk_showing line t = record { sent = t.sent; out = line ++ t.out; outcome = t.outcome }

-- the place after a frame
abbrev pub place_after_frame : ℕ → List ℕ → ℕ
place_after_frame at body = at + (4 + length body)

-- ---- frame by frame

-- after the last whole frame: broken where a fault stands there or the bytes ended, and else it
-- waits
abbrev pub broken_by : Option BadFrame → Bool → Bool
broken_by (Some fault) ended = true
broken_by None ended = ended

abbrev pub tail_outcome : Bool → ℕ → Option TalkOutcome
tail_outcome true at = Some (BrokenAt at)
tail_outcome false at = None

-- what follows a reply: the other requests where it grants, and the end where it doesn't
abbrev pub on_reply : ReplyVerdict → ℕ → ℕ → Talk → Talk
on_reply (Grants line) id at later = talk_showing line later
on_reply Refuses id at later = talk_stops (Some (RefusedAt id))
on_reply Breaks id at later = talk_stops (Some (BrokenAt at))

-- the requests from this one on, with its id, the place of the next frame, the frames from there
-- on, and whether the talk is broken after them
abbrev pub talk_on : List Request → ℕ → ℕ → List (List ℕ) → Bool → Talk
talk_on [] id at bodies broken = talk_stops (Some Finished)
talk_on (request ∷ requests) id at [] broken =
    talk_sending (request_frame id request) (talk_stops (tail_outcome broken at))
talk_on (request ∷ requests) id at (body ∷ bodies) broken =
    talk_sending (request_frame id request)
    (on_reply (verdict request id body) id at
    (talk_on requests (id + 1) (place_after_frame at body) bodies broken))

-- a hello comes first
abbrev pub on_hello : Bool → Talk → Talk
on_hello true later = later
on_hello false later = talk_stops (Some (BrokenAt 0))

abbrev pub talk_from_hello : List Request → List (List ℕ) → Bool → Talk
talk_from_hello requests [] broken = talk_stops (tail_outcome broken 0)
talk_from_hello requests (body ∷ bodies) broken =
    on_hello (is_hello body) (talk_on requests 0 (place_after_frame 0 body) bodies broken)

-- by the frames of the bytes
abbrev pub talk_by : Asks → Cut → Bool → Talk
talk_by asks c ended =
    talk_sending hello_frame (talk_from_hello (requests_of asks) c.frames (broken_by c.fault ended))

-- by the bytes
abbrev pub talk : Asks → List ℕ → Bool → Talk
talk asks bytes ended = talk_by asks (cut framing.Control bytes) ended
