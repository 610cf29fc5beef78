-- What happens to the forwardings, the requests to the server and the requests, as the forwarder is
-- called.
use Rattle.std.specs.Prelude.{◌≡◌, ℕ, Bool, true, false, if◌then◌else◌, List, [], ◌∷◌, ◌++◌, is_some, find, Result, Ok, Err, Option, Some, None}
use Rattle.ssh_fields.specs.Fields.{take_u32}
use Rattle.ssh_grammar.specs.Messages.{Message, Plain, To, PlainMessage}
use Rattle.ssh_grammar.specs.Messages as grammar
use Rattle.ssh_grammar.specs.ReadMessage.{read_message as reading}
use Rattle.ssh_grammar.specs.declared.fault.Bad.{Bad}
use Rattle.mux_outside.specs.HouseCalls.{HouseCall}
use Rattle.mux_outside.specs.HouseCalls.{Begins as IsBegun, Marks, Receives, Turns, Takes}
use Rattle.mux_outside.specs.declared.house.HouseReply.{HouseReply}
use Rattle.mux_outside.specs.declared.house_mark.HouseMark.{HouseMark}
use Rattle.mux_outside.specs.declared.house_mark.HouseMark.TheVariants.{HouseIn, HouseSaid, HouseTook, HouseAsked, HouseAnswer, HouseOrder}
use Rattle.mux_outside.specs.declared.order.Order.{Order}
use Rattle.mux_outside.specs.declared.order.Order.TheVariants as order
use Rattle.mux_outside.specs.declared.start_ask.StartAsk.{StartAsk}
use Rattle.mux_outside.specs.declared.starts.Starts.{Starts}
use Rattle.house_relay.specs.Next.{sends_of}
use Rattle.house_relay.specs.declared.relay.Relay.{Relay}
use Rattle.house_forward.specs.ForwardingState.{ForwardingState, empty_forwarding_state, BeginsWith, IsClientAsk, GivesFirstAnswer as IsAnswered, greeting_sent, request_sent, reply_received, GetsListener, EndsListener}
use Rattle.house_forward.specs.Forwardings.{has_request}
use Rattle.house_forward.specs.RelayTraces.{Trace, first_trace, Follows, TraceReaches, RelaysReceiveFrames, with_received, is_grant, port_in}
use Rattle.house_forward.specs.Said.{framed, relay_sent_by, request_payload}
use Rattle.house_forward.specs.declared.forwarding.Forwarding.{Forwarding}
use Rattle.house_forward.specs.declared.forwarder_state.ForwarderStage.{ForwarderStage}
use Rattle.house_forward.specs.declared.forwarder_state.ForwarderStage.TheVariants.{Control, Proxy}
use Rattle.mux_outside.specs.declared.greeting.TheConstants.{GREETING}

-- the forwardings of the start are asked for; a client asks to open or close one, and gets this
-- reply at once; a request gets its answer; the forwarder greets; it sends the request of a
-- forwarding; the server replies; a listener is ordered, and gets this number or none; one is
-- ordered to be closed
pub data ForwarderEvent : Type 0 where
  Begins : (starts : Starts) → ForwarderEvent
  Asks : (client id : ℕ) (opening : Bool) (ask : StartAsk) (reply : HouseReply) → ForwarderEvent
  Answers : (client id : ℕ) (reply : HouseReply) → ForwarderEvent
  Greets : ForwarderEvent
  Requests : (forwarding : Forwarding) → ForwarderEvent
  Replies : (success : Bool) (port : Option ℕ) → ForwarderEvent
  Listens : (host : List ℕ) (port : ℕ) (number : Option ℕ) → ForwarderEvent
  Unlistens : (listener : ℕ) → ForwarderEvent

-- what it leaves
abbrev pub Does : ForwarderEvent → ForwardingState → ForwardingState → Type 0
Does (Begins starts) old new = BeginsWith starts old new
Does (Asks client id opening ask reply) old new = IsClientAsk client id opening ask reply old new
Does (Answers client id reply) old new = IsAnswered client id reply old new
Does Greets old new = (old.greeted ≡ false) × (new ≡ greeting_sent old)
Does (Requests f) old new = (old.greeted ≡ true) × (find has_request old.all ≡ Some f)
    × (new ≡ request_sent f old)
Does (Replies success port) old new = new ≡ reply_received success port old
Does (Listens host port number) old new = GetsListener host port number old new
Does (Unlistens l) old new = EndsListener l old new

-- these happened, the newest first, and leave this
abbrev pub Leave : List ForwarderEvent → ForwardingState → Type 0
Leave [] forwarding_state = forwarding_state ≡ empty_forwarding_state
Leave (forwarder_event ∷ forwarder_events) forwarding_state = (before : ForwardingState) × Leave forwarder_events before × Does forwarder_event before forwarding_state

-- ---- by the calls

-- what the server's message means for them
abbrev pub recorded_plain : PlainMessage → List ForwarderEvent
recorded_plain (grammar.Transport number rest) = []
recorded_plain (grammar.GlobalRequest name want rest what) = []
recorded_plain (grammar.RequestSuccess rest) = Replies true (port_in (take_u32 rest)) ∷ []
recorded_plain grammar.RequestFailure = Replies false None ∷ []
recorded_plain (grammar.Open kind sender window maximum rest what) = []

abbrev pub events_of_message : Message → List ForwarderEvent
events_of_message (Plain m) = recorded_plain m
events_of_message (To recipient m) = []

abbrev pub recorded_if : Result Message Bad → List ForwarderEvent
recorded_if (Ok m) = events_of_message m
recorded_if (Err bad) = []

-- a control message means nothing for them
abbrev pub events_recorded_by : ForwarderStage → List ℕ → List ForwarderEvent
events_recorded_by Control content = []
events_recorded_by Proxy content = recorded_if (reading content)

-- after the control message that grants the proxy it is on
abbrev pub stage_next : ForwarderStage → List ℕ → ForwarderStage
stage_next Control content = if is_grant (take_u32 content) then Proxy else Control
stage_next Proxy content = Proxy

-- what the frames mean, one after the other
abbrev pub recorded_in : ForwarderStage → List (List ℕ) → List ForwarderEvent
recorded_in stage [] = []
recorded_in stage (content ∷ more) = recorded_in (stage_next stage content) more ++ events_recorded_by stage content

-- what is sent is the greeting, or a request, or what a relay sends
abbrev pub IsSentAs : List ℕ → List ForwarderEvent → Type 0
IsSentAs bytes [] = (r : Relay) × (is_some (sends_of r) ≡ true) × (bytes ≡ framed (relay_sent_by r))
IsSentAs bytes (Greets ∷ []) = bytes ≡ GREETING.now
IsSentAs bytes (Requests f ∷ []) = bytes ≡ framed (request_payload f)
IsSentAs bytes forwarder_events = ⊥

-- an order of a relay's socket is none of these
abbrev pub ordered_by : Order → Option ℕ → List ForwarderEvent
ordered_by (order.Listen host port) number = Listens host port number ∷ []
ordered_by (order.Connect host port) number = []
ordered_by (order.Unlisten l) number = Unlistens l ∷ []
ordered_by (order.Pause t) number = []
ordered_by (order.Resume t) number = []
ordered_by (order.Finish t) number = []
ordered_by (order.Close t) number = []

-- what happens by a mark
abbrev pub AreMarked : HouseMark → List ForwarderEvent → Type 0
AreMarked HouseIn forwarder_events = forwarder_events ≡ []
AreMarked (HouseSaid bytes) forwarder_events = IsSentAs bytes forwarder_events
AreMarked (HouseTook size) forwarder_events = forwarder_events ≡ []
AreMarked (HouseAsked client id opening ask reply) forwarder_events =
    forwarder_events ≡ Asks client id opening ask reply ∷ []
AreMarked (HouseAnswer client id reply) forwarder_events = forwarder_events ≡ Answers client id reply ∷ []
AreMarked (HouseOrder o number) forwarder_events = forwarder_events ≡ ordered_by o number

-- what happens by a call: as bytes are received, what their frames mean
abbrev pub HappenBy : HouseCall → Trace → List ForwarderEvent → Trace → Type 0
HappenBy (IsBegun starts) old forwarder_events new = forwarder_events ≡ Begins starts ∷ []
HappenBy (Marks mark) old forwarder_events new = AreMarked mark forwarder_events
HappenBy (Receives bytes) old forwarder_events new = (contents : List (List ℕ))
    × RelaysReceiveFrames contents (with_received bytes old) new × (forwarder_events ≡ recorded_in old.stage contents)
HappenBy (Turns happening) old forwarder_events new = forwarder_events ≡ []
HappenBy (Takes t bytes) old forwarder_events new = forwarder_events ≡ []

-- what happens by the calls, one after the other
abbrev pub Happen : Trace → List HouseCall → List ForwarderEvent → Trace → Type 0
Happen old [] forwarder_events new = (new ≡ old) × (forwarder_events ≡ [])
Happen old (call ∷ calls) forwarder_events new = (middle : Trace)
    × (earlier : List ForwarderEvent) × (later : List ForwarderEvent) × Follows call old middle × HappenBy call old earlier middle
    × Happen middle calls later new × (forwarder_events ≡ later ++ earlier)

-- whatever calls were made, these happened
abbrev pub EachHappens : Type 0
EachHappens = (calls : List HouseCall) (trace : Trace) → TraceReaches first_trace calls trace
    → (forwarder_events : List ForwarderEvent) × Happen first_trace calls forwarder_events trace × Leave forwarder_events trace.forwarding_state
