-- Where the server's OPENs are to be connected, by the calls: which of them are accepted, and which
-- Connects are ordered.
use Rattle.std.specs.Prelude.{◌≡◌, ℕ, if◌then◌else◌, List, [], ◌∷◌, ◌++◌, find, Result, Ok, Err, Option, Some, None}
use Rattle.std.specs.List.{filter_map}
use Rattle.ssh_grammar.specs.Messages.{Message, Plain, To, PlainMessage, Transport, GlobalRequest, RequestSuccess, RequestFailure, Open}
use Rattle.ssh_grammar.specs.Messages.{Opens, Session, Direct, Forwarded, OtherType, Key, Tcp, Path}
use Rattle.ssh_grammar.specs.ReadMessage.{read_message}
use Rattle.ssh_grammar.specs.declared.fault.Bad.{Bad}
use Rattle.mux_outside.specs.HouseCalls.{HouseCall, Begins, Marks, Receives, Turns, Takes}
use Rattle.mux_outside.specs.declared.house_mark.HouseMark.{HouseMark}
use Rattle.mux_outside.specs.declared.house_mark.HouseMark.TheVariants.{HouseIn, HouseSaid, HouseTook, HouseAsked, HouseAnswer, HouseOrder}
use Rattle.mux_outside.specs.declared.order.Order.{Order}
use Rattle.mux_outside.specs.declared.order.Order.TheVariants as order
use Rattle.house_forward.specs.Forwardings.{served_at}
use Rattle.house_forward.specs.RelayTraces.{Life, Trace, Follows, TraceReaches, RelaysReceiveFrames, first_trace, with_received, is_socket_unmade}
use Rattle.house_forward.specs.declared.forwarding.Forwarding.{Forwarding}
use Rattle.house_forward.specs.declared.forwarder_state.ForwarderStage.{ForwarderStage}
use Rattle.house_forward.specs.declared.forwarder_state.ForwarderStage.TheVariants.{Control, Proxy}

-- a host and a port to which a socket is connected
abbrev pub ConnectPlace : Type 0
ConnectPlace = List ℕ × ℕ

-- ---- the Connects

abbrev pub connect_in : Order → List ConnectPlace
connect_in (order.Listen host port) = []
connect_in (order.Connect host port) = (host, port) ∷ []
connect_in (order.Unlisten l) = []
connect_in (order.Pause t) = []
connect_in (order.Resume t) = []
connect_in (order.Finish t) = []
connect_in (order.Close t) = []

abbrev pub connect_marked : HouseMark → List ConnectPlace
connect_marked HouseIn = []
connect_marked (HouseSaid bytes) = []
connect_marked (HouseTook size) = []
connect_marked (HouseAsked client id opening ask reply) = []
connect_marked (HouseAnswer client id reply) = []
connect_marked (HouseOrder order number) = connect_in order

abbrev pub places_connected_by : HouseCall → List ConnectPlace
places_connected_by (Begins starts) = []
places_connected_by (Marks mark) = connect_marked mark
places_connected_by (Receives bytes) = []
places_connected_by (Turns happening) = []
places_connected_by (Takes t bytes) = []

-- where the Connects are to that are ordered in these calls, in their order
abbrev pub connects_in : List HouseCall → List ConnectPlace
connects_in [] = []
connects_in (call ∷ calls) = places_connected_by call ++ connects_in calls

-- where the sockets are to be connected that aren't ordered yet
abbrev pub still_to_connect : List Life → List ConnectPlace
still_to_connect relay_traces = filter_map (λ l. if is_socket_unmade l then l.to else None) relay_traces

-- ---- the OPENs

-- where a forwarding connects, if there is one
abbrev pub connect_places_of : Option Forwarding → List ConnectPlace
connect_places_of None = []
connect_places_of (Some f) = (f.connect_host, f.connect_port) ∷ []

-- an OPEN of forwarded-tcpip is accepted where the server listens at its address and port for a
-- forwarding
abbrev pub places_of_accepted_open : Key → List Forwarding → List ConnectPlace
places_of_accepted_open (Tcp address port) all = connect_places_of (find (served_at address port) all)
places_of_accepted_open (Path path) all = []

abbrev pub taken_for : Opens → List Forwarding → List ConnectPlace
taken_for Session all = []
taken_for (Direct key) all = []
taken_for (Forwarded key) all = places_of_accepted_open key all
taken_for OtherType all = []

abbrev pub taken_plain : PlainMessage → List Forwarding → List ConnectPlace
taken_plain (Transport number rest) all = []
taken_plain (GlobalRequest name want rest what) all = []
taken_plain (RequestSuccess rest) all = []
taken_plain RequestFailure all = []
taken_plain (Open kind sender window maximum rest what) all = taken_for what all

abbrev pub taken_message : Message → List Forwarding → List ConnectPlace
taken_message (Plain message) all = taken_plain message all
taken_message (To recipient message) all = []

abbrev pub taken_reading : Result Message Bad → List Forwarding → List ConnectPlace
taken_reading (Ok message) all = taken_message message all
taken_reading (Err bad) all = []

-- a frame is a message once the proxy is granted
abbrev pub taken_frame : ForwarderStage → List ℕ → List Forwarding → List ConnectPlace
taken_frame Control content all = []
taken_frame Proxy content all = taken_reading (read_message content) all

-- frame by frame, as the forwardings are when that is received
abbrev pub taken_frames : (contents : List (List ℕ)) (old new : Trace)
    → RelaysReceiveFrames contents old new → List ConnectPlace
taken_frames [] old new receives = []
taken_frames (content ∷ more) old new receives =
    taken_frame old.stage content old.forwarding_state.all ++ taken_frames more receives.2.0 new receives.2.2

abbrev pub taken_call : (call : HouseCall) (old new : Trace) → Follows call old new → List ConnectPlace
taken_call (Begins starts) old new follows = []
taken_call (Marks mark) old new follows = []
taken_call (Receives bytes) old new follows =
    taken_frames follows.0 (with_received bytes old) new follows.1
taken_call (Turns happening) old new follows = []
taken_call (Takes t bytes) old new follows = []

-- where the OPENs are to be connected that are accepted in these calls, in their order
abbrev pub accepted_places_in : (calls : List HouseCall) (old new : Trace) → TraceReaches old calls new → List ConnectPlace
accepted_places_in [] old new reaches = []
accepted_places_in (call ∷ calls) old new reaches =
    taken_call call old reaches.0 reaches.1 ++ accepted_places_in calls reaches.0 new reaches.2

-- of each OPEN that is accepted one Connect is ordered, in their order, to where its forwarding
-- connects, or it is still to be; and none is ordered besides
abbrev pub OneConnectEach : Type 0
OneConnectEach = (calls : List HouseCall) (trace : Trace) (reaches : TraceReaches first_trace calls trace)
    → accepted_places_in calls first_trace trace reaches ≡ connects_in calls ++ still_to_connect trace.relay_traces
