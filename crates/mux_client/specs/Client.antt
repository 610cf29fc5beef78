-- What contracts see of a client, and the talk that it represents.
use Rattle.std.specs.Prelude.{◌≡◌, ◌≤◌, ◌<◌, ℕ, ◌+◌, ◌*◌, Bool, ⊤, List, [], ◌∷◌, ◌++◌, length, drop, Option, Some, None, IsSome, Result, Ok, Err}
use Rattle.ssh_fields.specs.declared.out_of_memory.OutOfMemory.{OutOfMemory}
use Rattle.ssh_grammar.specs.declared.fault.BadFrame.{BadFrame}
use Rattle.ssh_grammar.specs.declared.framing.Framing.TheVariants.{Control}
use Rattle.ssh_grammar.specs.Frames.{Front, Frame, More, Faulty, first_frame, Cut, cut}
use Rattle.proxy_frames.specs.State.{FramerState}
use Rattle.proxy_frames.specs.Steps.{new_framer, pushed, after_front}
use Rattle.mux_client.specs.declared.asks.Asks.{Asks}
use Rattle.mux_client.specs.declared.stage.TalkStage.{TalkStage}
use Rattle.mux_client.specs.declared.stage.TalkStage.TheVariants.{Greets, Asks as Asked, Granted, Refused, Broken}
use Rattle.mux_client.specs.declared.verdict.OutLine.{OutLine}
use Rattle.mux_client.specs.Requests.{Request, requests_of, request_at, frame_due, hello_frame}
use Rattle.mux_client.specs.Replies.{verdict}
use Rattle.mux_client.specs.Verdicts.{text_of_some}
use Rattle.mux_client.specs.Talk.{TalkOutcome, Finished, RefusedAt, BrokenAt, Talk, talk, talk_on, talk_stops, talk_sending, talk_showing, place_after_frame, broken_by, tail_outcome, on_reply, talk_from_hello}

-- the master's bytes that aren't read yet, what is still to be sent, and how far the talk is
pub record TalkState : Type 0 where
  pub framer : FramerState
  pub queue : List ℕ
  pub stage : TalkStage

-- ---- each client

-- while a reply is awaited its place is not far from it: a frame has 262,148 bytes at most
abbrev pub IsStagePlaced : TalkStage → Type 0
IsStagePlaced (Asked id at) = at ≤ (id + 1) * 262148
IsStagePlaced Greets = ⊤
IsStagePlaced Granted = ⊤
IsStagePlaced (Refused id) = ⊤
IsStagePlaced (Broken at) = ⊤

-- and no fault was reported
abbrev pub IsFaultless : TalkStage → Option BadFrame → Type 0
IsFaultless Greets fault = fault ≡ None
IsFaultless (Asked id at) fault = fault ≡ None
IsFaultless Granted fault = ⊤
IsFaultless (Refused id) fault = ⊤
IsFaultless (Broken at) fault = ⊤

-- the place of the reply that is awaited, or of the hello, if one is
abbrev pub awaited_place : TalkStage → Option ℕ
awaited_place Greets = Some 0
awaited_place (Asked id at) = Some at
awaited_place Granted = None
awaited_place (Refused id) = None
awaited_place (Broken at) = None

-- ---- what the calls leave

-- a client that received nothing
abbrev pub new_talk : TalkState
new_talk = record { framer = new_framer Control; queue = hello_frame; stage = Greets }

-- with more bytes of the master
abbrev pub talk_received : List ℕ → TalkState → TalkState
talk_received piece s = record s { framer = pushed piece s.framer }

-- without the first bytes of what is to be sent
abbrev pub without_sent : ℕ → TalkState → TalkState
without_sent n s = record s { queue = drop n s.queue }

-- the stage after a front: a fault breaks the talk at this place
abbrev pub stage_behind : Front → ℕ → TalkStage → TalkStage
stage_behind (Frame content rest) at stage = stage
stage_behind More at stage = stage
stage_behind (Faulty fault) at stage = Broken at

-- after the next front, whose place this is
abbrev pub after_cut : Front → ℕ → TalkState → TalkState
after_cut front at s = record s {
  framer = after_front front s.framer;
  stage = stage_behind front at s.stage;
}

-- the stage where this request is due, if there is one, whose reply stands at this place
abbrev pub stage_due : Option Request → ℕ → ℕ → TalkStage
stage_due (Some request) id at = Asked id at
stage_due None id at = Granted

-- it is sent
abbrev pub request_is_sent : Option Request → ℕ → ℕ → TalkState → TalkState
request_is_sent request id at s = record s {
  queue = s.queue ++ frame_due id request;
  stage = stage_due request id at;
}

-- ---- the talk

-- what follows a request that was sent: the reply, and what comes then
abbrev pub talk_after_request : List Request → ℕ → ℕ → List (List ℕ) → Bool → Talk
talk_after_request [] id at bodies broken = talk_stops (Some Finished)
talk_after_request (request ∷ requests) id at [] broken = talk_stops (tail_outcome broken at)
talk_after_request (request ∷ requests) id at (body ∷ bodies) broken =
    on_reply (verdict request id body) id at
    (talk_on requests (id + 1) (place_after_frame at body) bodies broken)

-- what is still to come at a stage, by the frames that aren't read yet
abbrev pub later_at : TalkStage → List Request → List (List ℕ) → Bool → Talk
later_at Greets requests bodies broken = talk_from_hello requests bodies broken
later_at (Asked id at) requests bodies broken = talk_after_request (drop id requests) id at bodies broken
later_at Granted requests bodies broken = talk_stops (Some Finished)
later_at (Refused id) requests bodies broken = talk_stops (Some (RefusedAt id))
later_at (Broken at) requests bodies broken = talk_stops (Some (BrokenAt at))

abbrev pub later_by : TalkStage → List Request → Cut → Bool → Talk
later_by stage requests c ended = later_at stage requests c.frames (broken_by c.fault ended)

-- the same with more bytes of the master
abbrev pub later : TalkState → Asks → List ℕ → Bool → Talk
later s asks more ended =
    later_by s.stage (requests_of asks) (cut Control (s.framer.rest ++ more)) ended

-- there is a request whose reply is awaited, if one is
abbrev pub HasRequest : Asks → TalkStage → Type 0
HasRequest asks (Asked id at) = (request : Request) × (request_at asks id ≡ Some request)
HasRequest asks Greets = ⊤
HasRequest asks Granted = ⊤
HasRequest asks (Refused id) = ⊤
HasRequest asks (Broken at) = ⊤

-- of a talk the master's bytes so far were these, these were sent and these were shown: whatever
-- bytes follow, the others are sent and shown that the client has still to send and to show
pub record TalkRepresents (asks : Asks) (bytes taken shown : List ℕ) (s : TalkState) : Type 0 where
  pub goes : (more : List ℕ) (ended : Bool)
      → talk asks (bytes ++ more) ended
      ≡ talk_sending (taken ++ s.queue) (talk_showing shown (later s asks more ended))
  pub request : HasRequest asks s.stage

-- no frame can be read now
abbrev pub IsSettledAt : TalkStage → List ℕ → Type 0
IsSettledAt Greets rest = first_frame Control rest ≡ More
IsSettledAt (Asked id at) rest = first_frame Control rest ≡ More
IsSettledAt Granted rest = ⊤
IsSettledAt (Refused id) rest = ⊤
IsSettledAt (Broken at) rest = ⊤

abbrev pub IsTalkSettled : TalkState → Type 0
IsTalkSettled s = IsSettledAt s.stage s.framer.rest

-- how the talk is over at a stage, if it is
abbrev pub talk_outcome_of : TalkStage → Option TalkOutcome
talk_outcome_of Greets = None
talk_outcome_of (Asked id at) = None
talk_outcome_of Granted = Some Finished
talk_outcome_of (Refused id) = Some (RefusedAt id)
talk_outcome_of (Broken at) = Some (BrokenAt at)

-- ---- a frame is read

-- whatever came before: the line is shown, and where there is none no frame can be read now; with
-- each frame less is left to be read, and no reply is awaited where none was
pub record ReadsNextTo (asks : Asks) (old new : TalkState) (line : Option OutLine) : Type 0 where
  pub stands : (bytes taken shown : List ℕ) → TalkRepresents asks bytes taken shown old
      → TalkRepresents asks bytes taken (shown ++ text_of_some line) new
  pub settled : line ≡ None → IsTalkSettled new
  pub less : IsSome line → length new.framer.rest < length old.framer.rest
  pub over : awaited_place old.stage ≡ None → awaited_place new.stage ≡ None

abbrev pub ReadsNext : Asks → TalkState → TalkState → Result (Option OutLine) OutOfMemory → Type 0
ReadsNext asks old new (Ok line) = ReadsNextTo asks old new line
ReadsNext asks old new (Err e) = ⊤
