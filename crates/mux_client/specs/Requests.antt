-- What a control client requests of a master, one request after the other (PROTOCOL.mux).
use Rattle.std.specs.Prelude.{◌≤◌, ℕ, Bool, true, false, List, [], ◌∷◌, ◌++◌, length, map, Option, Some, None, slice_get}
use Rattle.std.specs.List.{AllByRecursion}
use Rattle.ssh_fields.specs.Fields.{u32}
use Rattle.ssh_grammar.specs.declared.numbers.TheConstants.{VERSION, OPEN_FWD, CLOSE_FWD}
use Rattle.ssh_grammar.specs.Control.{ForwardAsk, Control, Hello, AliveCheck, Terminate, StopListening, OpenForward, CloseForward}
use Rattle.ssh_grammar.specs.SpellControl.{spell_control}
use Rattle.ssh_grammar.specs.Frames.{frame_body}
use Rattle.mux_outside.specs.declared.start_ask.StartAsk.{StartAsk}
use Rattle.mux_client.specs.declared.asks.Asks.{Asks}
use Rattle.mux_client.specs.declared.asks.Asks.TheVariants.{Check, Exit, Stop, Forwards}

-- whether the master is there, that it ends, that it accepts no more clients, or that it opens or
-- closes a forwarding
pub data Request : Type 0 where
  Checks : Request
  Exits : Request
  TalkStops : Request
  Opens : (what : ForwardAsk) → Request
  Closes : (what : ForwardAsk) → Request

-- a forwarding, as it is sent
abbrev pub forward_of : StartAsk → ForwardAsk
forward_of a = record {
  kind = a.kind;
  listen_host = a.listen_host;
  listen_port = a.listen_port;
  connect_host = a.connect_host;
  connect_port = a.connect_port;
}

abbrev pub forward_request : Bool → StartAsk → Request
forward_request true a = Opens (forward_of a)
forward_request false a = Closes (forward_of a)

-- all requests, in order
abbrev pub requests_of : Asks → List Request
requests_of Check = Checks ∷ []
requests_of Exit = Exits ∷ []
requests_of Stop = TalkStops ∷ []
requests_of (Forwards opening what) = map (forward_request opening) what

-- a request with its id
abbrev pub control_of_request : ℕ → Request → Control
control_of_request id Checks = AliveCheck id
control_of_request id Exits = Terminate id
control_of_request id TalkStops = StopListening id
control_of_request id (Opens what) = OpenForward id what
control_of_request id (Closes what) = CloseForward id what

-- as a frame
abbrev pub request_frame : ℕ → Request → List ℕ
request_frame id request = frame_body (spell_control (control_of_request id request))

-- the first message, which has no extension
abbrev pub hello_frame : List ℕ
hello_frame = frame_body (spell_control (Hello VERSION []))

-- the type of a request about a forwarding
abbrev pub forward_kind : Bool → ℕ
forward_kind true = OPEN_FWD
forward_kind false = CLOSE_FWD

-- a frame of a type and one number
abbrev pub short_frame : ℕ → ℕ → List ℕ
short_frame kind n = u32 8 ++ (u32 kind ++ u32 n)

-- the request with this id, if there is one
abbrev pub request_at : Asks → ℕ → Option Request
request_at asks id = slice_get (requests_of asks) id

-- what is sent then
abbrev pub frame_due : ℕ → Option Request → List ℕ
frame_due id None = []
frame_due id (Some request) = request_frame id request

-- ---- what may be asked

-- the hosts of a forwarding are short
pub record HasShortHosts (a : StartAsk) : Type 0 where
  pub listen : length a.listen_host ≤ 255
  pub connect : length a.connect_host ≤ 255

-- some forwarding, and short hosts
abbrev pub MayAsk : Asks → Type 0
MayAsk Check = Unit {0}
MayAsk Exit = Unit {0}
MayAsk Stop = Unit {0}
MayAsk (Forwards opening what) = (1 ≤ length what) × AllByRecursion HasShortHosts what
