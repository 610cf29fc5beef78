-- The OPENs that the forwarder sends, by the calls: for which sockets, and to where.
use Rattle.std.specs.Prelude.{◌≡◌, ◌≢◌, ◌⊎◌, ◌≤◌, ◌<◌, ◌+◌, ◌==◌, ℕ, Bool, true, false, if◌then◌else◌, List, [], ◌∷◌, ◌++◌, length, map, filter, find, get_or, IfSome, Option, Some, None}
use Rattle.std.specs.List.{All, AllPairs}
use Rattle.ssh_grammar.specs.declared.numbers.TheConstants.{CHANNEL_OPEN}
use Rattle.socks_dialog.specs.declared.outcome.Outcome.TheVariants.{Connects}
use Rattle.mux_outside.specs.HouseCalls.{HouseCall, Happening, Begins, Marks, Receives, Turns, Takes}
use Rattle.mux_outside.specs.HouseCalls.{Joined, Got, End, Writable, Failed}
use Rattle.mux_outside.specs.declared.house_mark.HouseMark.{HouseMark}
use Rattle.mux_outside.specs.declared.house_mark.HouseMark.TheVariants.{HouseIn, HouseSaid, HouseTook, HouseAsked, HouseAnswer, HouseOrder}
use Rattle.mux_outside.specs.declared.own_streams.OwnStream.{OwnStream}
use Rattle.house_relay.specs.Acts.{read, outcome_in}
use Rattle.house_relay.specs.declared.line.ChannelState.{ChannelState}
use Rattle.house_relay.specs.declared.line.ChannelState.TheVariants.{Dialing, Asked, Opened, Offered, Live, Over}
use Rattle.house_forward.specs.Forwardings.{has_listener, has_request}
use Rattle.house_forward.specs.RelayTraces.{Life, Trace, Follows, MarksIn, SendsBy, TraceReaches, first_trace}
use Rattle.house_forward.specs.Said.{framed, direct}
use Rattle.house_forward.specs.declared.forwarding.Forwarding.{Forwarding}
use Rattle.house_forward.specs.declared.rules.ForwardingKind.{ForwardingKind}
use Rattle.house_forward.specs.declared.rules.ForwardingKind.TheVariants.{Local, Remote, Dynamic}

-- ---- how many there are

-- whether what is sent is an OPEN: its payload begins after the length and the padding of its frame
abbrev pub is_open_message : List ℕ → Bool
is_open_message bytes = get_or bytes 5 0 == CHANNEL_OPEN

abbrev pub opens_by_mark : HouseMark → ℕ
opens_by_mark HouseIn = 0
opens_by_mark (HouseSaid bytes) = if is_open_message bytes then 1 else 0
opens_by_mark (HouseTook size) = 0
opens_by_mark (HouseAsked client id opening ask reply) = 0
opens_by_mark (HouseAnswer client id reply) = 0
opens_by_mark (HouseOrder order number) = 0

abbrev pub opens_sent_by : HouseCall → ℕ
opens_sent_by (Begins starts) = 0
opens_sent_by (Marks mark) = opens_by_mark mark
opens_sent_by (Receives bytes) = 0
opens_sent_by (Turns happening) = 0
opens_sent_by (Takes t bytes) = 0

-- how many OPENs were sent
abbrev pub opens_in : List HouseCall → ℕ
opens_in [] = 0
opens_in (call ∷ calls) = opens_sent_by call + opens_in calls

abbrev pub joins_by_turn : Happening → ℕ
joins_by_turn (Joined l t) = 1
joins_by_turn (Got t bytes) = 0
joins_by_turn (End t) = 0
joins_by_turn (Writable t) = 0
joins_by_turn (Failed t) = 0

abbrev pub joins_by : HouseCall → ℕ
joins_by (Begins starts) = 0
joins_by (Marks mark) = 0
joins_by (Receives bytes) = 0
joins_by (Turns happening) = joins_by_turn happening
joins_by (Takes t bytes) = 0

-- how many sockets were accepted
abbrev pub joins_in : List HouseCall → ℕ
joins_in [] = 0
joins_in (call ∷ calls) = joins_by call + joins_in calls

-- whether an OPEN is to be sent, or is once the dialog asks for an end
abbrev pub may_send_open : ChannelState → Bool
may_send_open (Dialing dialog) = true
may_send_open (Asked host port version) = true
may_send_open (Opened version) = false
may_send_open (Offered remote window maximum) = false
may_send_open (Live live) = false
may_send_open Over = false

-- of how many relays
abbrev pub still_to_open : List Life → ℕ
still_to_open relay_traces = length (filter (λ l. may_send_open l.relay.line) relay_traces)

-- no more OPENs are sent, or still to be, than sockets were accepted
abbrev pub OneOpenAtMost : Type 0
OneOpenAtMost = (calls : List HouseCall) (trace : Trace) → TraceReaches first_trace calls trace
    → opens_in calls + still_to_open trace.relay_traces ≤ joins_in calls

-- ---- of which sockets

-- of which socket the OPEN is that is sent, if one is: that of the relay that sends it
abbrev pub opener_by : (greeted : Bool) (first : Option Forwarding) (bytes : List ℕ)
    (old new : Trace) → SendsBy greeted first bytes old new → List (Option ℕ)
opener_by false first bytes old new says = []
opener_by true (Some f) bytes old new says = []
opener_by true None bytes old new says = if is_open_message bytes then says.1.life.joined ∷ [] else []

abbrev pub opener_marked : (mark : HouseMark) (old new : Trace) → MarksIn mark old new → List (Option ℕ)
opener_marked HouseIn old new marks = []
opener_marked (HouseSaid bytes) old new marks =
    opener_by old.forwarding_state.greeted (find has_request old.forwarding_state.all) bytes old new marks
opener_marked (HouseTook size) old new marks = []
opener_marked (HouseAsked client id opening ask reply) old new marks = []
opener_marked (HouseAnswer client id reply) old new marks = []
opener_marked (HouseOrder order number) old new marks = []

abbrev pub opener_of : (call : HouseCall) (old new : Trace) → Follows call old new → List (Option ℕ)
opener_of (Begins starts) old new follows = []
opener_of (Marks mark) old new follows = opener_marked mark old new follows
opener_of (Receives bytes) old new follows = []
opener_of (Turns happening) old new follows = []
opener_of (Takes t bytes) old new follows = []

-- of which sockets the OPENs are that are sent in these calls, in their order
abbrev pub openers_in : (calls : List HouseCall) (old new : Trace) → TraceReaches old calls new
    → List (Option ℕ)
openers_in [] old new reaches = []
openers_in (call ∷ calls) old new reaches =
    opener_of call old reaches.0 reaches.1 ++ openers_in calls reaches.0 new reaches.2

-- and of which those are that are still to be sent
abbrev pub openers_left : List Life → List (Option ℕ)
openers_left relay_traces = map (λ l. l.joined) (filter (λ l. may_send_open l.relay.line) relay_traces)

-- each OPEN that is sent is recorded as sent
abbrev pub EachIsRecorded : Type 0
EachIsRecorded = (calls : List HouseCall) (trace : Trace) (reaches : TraceReaches first_trace calls trace)
    → length (openers_in calls first_trace trace reaches) ≡ opens_in calls

-- it is one of those that were accepted
pub record IsOneJoined (calls : List HouseCall) (socket : Option ℕ) : Type 0 where
  pub number : ℕ
  pub is : socket ≡ Some number
  pub joined : number < joins_in calls

-- each OPEN that is sent, or still to be, is of a socket that was accepted
abbrev pub EachWasJoined : Type 0
EachWasJoined = (calls : List HouseCall) (trace : Trace) (reaches : TraceReaches first_trace calls trace)
    → All (IsOneJoined calls)
    (openers_in calls first_trace trace reaches ++ openers_left trace.relay_traces)

-- and no two are of one
abbrev pub OneOpenEach : Type 0
OneOpenEach = (calls : List HouseCall) (trace : Trace) (reaches : TraceReaches first_trace calls trace)
    → AllPairs (λ a b. a ≢ b)
    (openers_in calls first_trace trace reaches ++ openers_left trace.relay_traces)

-- ---- for what, and to where

-- this is one of the calls, and the trace was this before it
pub record IsCallBefore (calls : List HouseCall) (call : HouseCall) (trace : Trace) : Type 0 where
  pub before : List HouseCall
  pub behind : List HouseCall
  pub are : calls ≡ before ++ call ∷ behind
  pub reached : TraceReaches first_trace before trace

-- this socket was accepted at the listener of a forwarding of which this is so, and it is this
-- stream, while that is open
pub record IsJoinedFor (calls : List HouseCall) (own : Option OwnStream) (socket : Option ℕ)
    (so : Forwarding → Type 0) : Type 0 where
  pub listener : ℕ
  pub stream : ℕ
  pub trace : Trace
  pub forwarding : Forwarding
  pub joined : IsCallBefore calls (Turns (Joined listener stream)) trace
  pub which : socket ≡ Some trace.joins
  pub found : find (has_listener listener) trace.forwarding_state.all ≡ Some forwarding
  pub its : IfSome own (λ o. o.number ≡ stream)
  pub right : so forwarding

abbrev pub IsPlainKind : ForwardingKind → Type 0
IsPlainKind Local = Unit {0}
IsPlainKind Remote = Unit {0}
IsPlainKind Dynamic = ⊥

-- a forwarding connects there
pub record ConnectsTo (host : List ℕ) (port : ℕ) (f : Forwarding) : Type 0 where
  pub plain : IsPlainKind f.kind
  pub to_host : f.connect_host ≡ host
  pub to_port : f.connect_port ≡ port

-- a forwarding is dynamic
abbrev pub IsDynamic : Forwarding → Type 0
IsDynamic f = f.kind ≡ Dynamic

-- the dialog of a socket that was accepted at a dynamic forwarding asked for this end
pub record IsDialedEnd (calls : List HouseCall) (l : Life) (host : List ℕ) (port : ℕ) : Type 0 where
  pub joined : IsJoinedFor calls l.own l.joined IsDynamic
  pub asks : outcome_in (read l.acts) ≡ Connects host port

-- what is sent is the OPEN of direct-tcpip of one of the relays, to where the forwarding connects
-- at whose listener its socket was accepted, or to the end that its dialog asked for
pub record IsOpenOf (calls : List HouseCall) (relay_traces : List Life) (bytes : List ℕ) : Type 0 where
  pub before : List Life
  pub life : Life
  pub behind : List Life
  pub host : List ℕ
  pub port : ℕ
  pub were : relay_traces ≡ before ++ life ∷ behind
  pub says : bytes ≡ framed (direct life.relay.number host port)
  pub goes : IsJoinedFor calls life.own life.joined (ConnectsTo host port)
      ⊎ IsDialedEnd calls life host port

-- each OPEN that is sent after these calls
abbrev pub OpensGoRight : Type 0
OpensGoRight = (calls : List HouseCall) (trace next : Trace) (bytes : List ℕ)
    → TraceReaches first_trace calls trace → Follows (Marks (HouseSaid bytes)) trace next
    → is_open_message bytes ≡ true → IsOpenOf calls trace.relay_traces bytes
