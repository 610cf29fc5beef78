-- What becomes of a client's control messages (PROTOCOL.mux). `own` are the client's rows so far.
use Rattle.std.specs.Prelude.{ℕ, ◌==◌, List, [], ◌∷◌, Option, Some, None, Result, Ok, Err, Bool, true, false}
use Rattle.mux_outside.specs.declared.house.HouseReply.{HouseReply}
use Rattle.mux_outside.specs.declared.house.HouseReply.TheVariants as reply
use Rattle.ssh_grammar.specs.declared.fault.BadControl.{BadControl}
use Rattle.ssh_grammar.specs.declared.fault.BadControl.TheVariants as bad
use Rattle.ssh_grammar.specs.declared.numbers.TheConstants as number
use Rattle.ssh_grammar.specs.Control.{Control, Hello, NewSession, AliveCheck, Terminate, OpenForward, CloseForward, StdioForward, StopListening, Proxy, Answer, Okay, Failed, Alive, RemotePort, Proxies, no_descriptors, no_forwardings, unsupported}
use Rattle.ssh_grammar.specs.ReadControl.{read_control}
use Rattle.ssh_grammar.specs.Frames.{frame_answer}
use Rattle.ssh_grammar.specs.Said.{Outgoing, Body, Payload, BadFraming}
use Rattle.mux_history.specs.declared.why.Why.TheVariants as why
use Rattle.mux_history.specs.declared.ended.Ended.TheVariants as ended
use Rattle.mux_history.specs.Rows.{Row, any_of, Item, Says, End}
use Rattle.mux_history.specs.Said.{Outcome, silent, records, drops}

-- the answer as a frame
abbrev pub answers_with : Answer → Outcome
answers_with answer = records (frame_answer answer)

-- ---- while the hello is awaited

-- an item that a client sends
abbrev pub is_sends : Item → Bool
is_sends (Says k outgoing given) = true
is_sends _ = false

-- the client has greeted: another first message would have dropped it
abbrev pub client_has_greeted : List Row → Bool
client_has_greeted own = any_of (λ row. is_sends row.item) own

-- the type of a control message
abbrev pub type_of : Control → ℕ
type_of (Hello version extensions) = number.HELLO
type_of (NewSession id rest) = number.NEW_SESSION
type_of (AliveCheck id) = number.ALIVE_CHECK
type_of (Terminate id) = number.TERMINATE
type_of (OpenForward id what) = number.OPEN_FWD
type_of (CloseForward id what) = number.CLOSE_FWD
type_of (StdioForward id rest) = number.NEW_STDIO_FWD
type_of (StopListening id) = number.STOP_LISTENING
type_of (Proxy id) = number.PROXY

-- a first message that reads: HELLO with version 4, and nothing else
abbrev pub first_control : Control → Outcome
first_control (Hello version extensions) = elim (version == number.VERSION) [
  | true ↦ silent
  | false ↦ drops (why.Version version)
]
first_control c = drops (why.NoHello (type_of c))

-- a first message that does not read: an unknown type is no hello either
abbrev pub first_unread : BadControl → Outcome
first_unread (bad.Unknown kind id) = drops (why.NoHello kind)
first_unread fault = drops (why.BadControl fault)

-- the first message
abbrev pub sent_first : Result Control BadControl → Outcome
sent_first (Ok c) = first_control c
sent_first (Err fault) = first_unread fault

-- ---- after it

-- what the forwarder answers to a request, which may be nothing yet; a port is no answer to a close
abbrev pub house_answer : Bool → ℕ → HouseReply → Option Answer
house_answer opening id reply.Done = Some (Okay id)
house_answer true id (reply.Port port) = Some (RemotePort id port)
house_answer false id (reply.Port port) = Some (Failed id no_forwardings)
house_answer opening id reply.Refused = Some (Failed id no_forwardings)
house_answer opening id reply.Later = None

-- an answer as a frame, where there is one
abbrev pub answers_maybe : Option Answer → Outcome
answers_maybe None = silent
answers_maybe (Some answer) = answers_with answer

-- the answer to a request, once the forwarder has replied
abbrev pub answers_ask : Bool → ℕ → Option HouseReply → Outcome
answers_ask opening id None = silent
answers_ask opening id (Some given) = answers_maybe (house_answer opening id given)

-- a message after the hello, by its type
abbrev pub later_control : ℕ → ℕ → Option HouseReply → Control → Outcome
later_control pid k given (Hello version extensions) = drops why.SecondHello
later_control pid k given (NewSession id rest) = answers_with (Failed id no_descriptors)
later_control pid k given (AliveCheck id) = answers_with (Alive id pid)
later_control pid k given (Terminate id) =
    record { sent = []; recorded = frame_answer (Okay id) ∷ []; ends = End (ended.Terminated k id) }
later_control pid k given (OpenForward id what) = answers_ask true id given
later_control pid k given (CloseForward id what) = answers_ask false id given
later_control pid k given (StdioForward id rest) = answers_with (Failed id no_descriptors)
later_control pid k given (StopListening id) = answers_with (Okay id)
later_control pid k given (Proxy id) = answers_with (Proxies id)

-- one that does not read: an unknown type is refused by its id
abbrev pub later_unread : BadControl → Outcome
later_unread (bad.Unknown kind (Some id)) = answers_with (Failed id unsupported)
later_unread fault = drops (why.BadControl fault)

-- a message after the hello
abbrev pub sent_later : ℕ → ℕ → Option HouseReply → Result Control BadControl → Outcome
sent_later pid k given (Ok c) = later_control pid k given c
sent_later pid k given (Err fault) = later_unread fault

-- ---- a body

-- a body, before or after the hello
abbrev pub sent_body : ℕ → ℕ → Option HouseReply → Bool → List ℕ → Outcome
sent_body pid k given has_greeted body = elim has_greeted [
  | true ↦ sent_later pid k given (read_control body)
  | false ↦ sent_first (read_control body)
]

-- whether a body is a request to the forwarder
abbrev pub asks_house : Control → Bool
asks_house (OpenForward id what) = true
asks_house (CloseForward id what) = true
asks_house _ = false

-- the same of a body
abbrev pub body_asks : List ℕ → Bool
body_asks body = elim (read_control body) [ Err fault ↦ false | Ok c ↦ asks_house c ]

-- a PROXY
abbrev pub is_proxy : Control → Bool
is_proxy (Proxy id) = true
is_proxy _ = false

-- the same of a body
abbrev pub body_proxies : List ℕ → Bool
body_proxies body = elim (read_control body) [ Err fault ↦ false | Ok c ↦ is_proxy c ]

-- a STOP_LISTENING
abbrev pub is_stop : Control → Bool
is_stop (StopListening id) = true
is_stop _ = false

-- the same of a body
abbrev pub body_stops : List ℕ → Bool
body_stops body = elim (read_control body) [ Err fault ↦ false | Ok c ↦ is_stop c ]

-- ---- what the forwarder replies later

-- an item after which the client is in proxy mode
abbrev pub proxies_by : Outgoing → Bool
proxies_by (Body body) = body_proxies body
proxies_by (Payload p) = true
proxies_by (BadFraming fault) = false

-- the client has sent PROXY: the last that it sent is that, or a payload
abbrev pub in_proxy : List Row → Bool
in_proxy [] = false
in_proxy (row ∷ before) = elim row.item [
  | Says k outgoing given ↦ proxies_by outgoing
  | _ ↦ in_proxy before
]

-- the reply to a request, as a frame, answered as one that opens; nothing once the client is in
-- proxy mode
abbrev pub house_sends : List Row → ℕ → HouseReply → Outcome
house_sends own id given = elim (in_proxy own) [
  | true ↦ silent
  | false ↦ answers_ask true id (Some given)
]
