-- The channel numbers of the relays and the numbers of their streams, by the calls.
use Rattle.std.specs.Prelude.{◌≡◌, ◌≢◌, ◌<◌, ◌^◌, ℕ, false, List, [], ◌∷◌, ◌++◌, map, IfSome, Option, Some, None}
use Rattle.std.specs.List.{AllByRecursion, AllPairs, filter_map}
use Rattle.std.specs.Option.{option_to_list}
use Rattle.mux_outside.specs.HouseCalls.{HouseCall, Happening, Begins, Marks, Receives, Turns, Takes}
use Rattle.mux_outside.specs.HouseCalls.{Joined, Got, End, Writable, Failed}
use Rattle.mux_outside.specs.Streams.{among, without}
use Rattle.mux_outside.specs.declared.house_mark.HouseMark.{HouseMark}
use Rattle.mux_outside.specs.declared.house_mark.HouseMark.TheVariants.{HouseIn, HouseSaid, HouseTook, HouseAsked, HouseAnswer, HouseOrder}
use Rattle.mux_outside.specs.declared.order.Order.{Order}
use Rattle.mux_outside.specs.declared.order.Order.TheVariants.{Listen, Connect, Unlisten, Pause, Resume, Finish, Close}
use Rattle.mux_outside.specs.declared.own_streams.OwnStream.{OwnStream}
use Rattle.house_forward.specs.RelayTraces.{Life, Trace, TraceReaches, first_trace}

-- ---- channels

-- the channel numbers of the relays
abbrev pub relay_channels_of : List Life → List ℕ
relay_channels_of relay_traces = map (λ l. l.relay.number) relay_traces

-- no two relays have the same, whatever the calls were
abbrev pub ChannelsDiffer : Type 0
ChannelsDiffer = (calls : List HouseCall) (trace : Trace) → TraceReaches first_trace calls trace
    → AllPairs (λ a b. a ≢ b) (relay_channels_of trace.relay_traces)

-- each is a uint32 (RFC 4254, section 5.1)
abbrev pub ChannelsAreSmall : Type 0
ChannelsAreSmall = (calls : List HouseCall) (trace : Trace) → TraceReaches first_trace calls trace
    → AllByRecursion (λ n. n < 2 ^ 32) (relay_channels_of trace.relay_traces)

-- ---- streams

abbrev pub own_stream_number : Option OwnStream → Option ℕ
own_stream_number None = None
own_stream_number (Some own) = Some own.number

-- the numbers of the streams that the relays have open
abbrev pub open_streams : List Life → List ℕ
open_streams relay_traces = filter_map (λ l. own_stream_number l.own) relay_traces

-- the number of the stream that a happening, an order or a call brings, if it does
abbrev pub stream_joined_by : Happening → Option ℕ
stream_joined_by (Joined l t) = Some t
stream_joined_by (Got t bytes) = None
stream_joined_by (End t) = None
stream_joined_by (Writable t) = None
stream_joined_by (Failed t) = None

abbrev pub connected_by : Order → Option ℕ → Option ℕ
connected_by (Listen host port) number = None
connected_by (Connect host port) number = number
connected_by (Unlisten l) number = None
connected_by (Pause t) number = None
connected_by (Resume t) number = None
connected_by (Finish t) number = None
connected_by (Close t) number = None

abbrev pub made_by_mark : HouseMark → Option ℕ
made_by_mark HouseIn = None
made_by_mark (HouseSaid bytes) = None
made_by_mark (HouseTook size) = None
made_by_mark (HouseAsked client id opening ask reply) = None
made_by_mark (HouseAnswer client id reply) = None
made_by_mark (HouseOrder order number) = connected_by order number

abbrev pub made_by : HouseCall → Option ℕ
made_by (Begins starts) = None
made_by (Marks mark) = made_by_mark mark
made_by (Receives bytes) = None
made_by (Turns happening) = stream_joined_by happening
made_by (Takes t bytes) = None

-- the number of the stream that an order or a call closes, if it does
abbrev pub closed_by_order : Order → Option ℕ
closed_by_order (Listen host port) = None
closed_by_order (Connect host port) = None
closed_by_order (Unlisten l) = None
closed_by_order (Pause t) = None
closed_by_order (Resume t) = None
closed_by_order (Finish t) = None
closed_by_order (Close t) = Some t

abbrev pub closed_by_mark : HouseMark → Option ℕ
closed_by_mark HouseIn = None
closed_by_mark (HouseSaid bytes) = None
closed_by_mark (HouseTook size) = None
closed_by_mark (HouseAsked client id opening ask reply) = None
closed_by_mark (HouseAnswer client id reply) = None
closed_by_mark (HouseOrder order number) = closed_by_order order

abbrev pub stream_closed_by : HouseCall → Option ℕ
stream_closed_by (Begins starts) = None
stream_closed_by (Marks mark) = closed_by_mark mark
stream_closed_by (Receives bytes) = None
stream_closed_by (Turns happening) = None
stream_closed_by (Takes t bytes) = None

abbrev pub without_closed : Option ℕ → List ℕ → List ℕ
without_closed None there = there
without_closed (Some t) there = without t there

-- the streams that are open after the calls, where these were open before: those that were accepted
-- or connected since, and not closed
abbrev pub streams_open_after : List ℕ → List HouseCall → List ℕ
streams_open_after there [] = there
streams_open_after there (call ∷ calls) =
    streams_open_after (without_closed (stream_closed_by call) there ++ option_to_list (made_by call)) calls

-- each stream that a call brings has a number that no open one has
abbrev pub BringsNew : List ℕ → List HouseCall → Type 0
BringsNew there [] = Unit {0}
BringsNew there (call ∷ calls) = IfSome (made_by call) (λ t. among t there ≡ false)
    × BringsNew (without_closed (stream_closed_by call) there ++ option_to_list (made_by call)) calls

-- of the calls that lead to a trace
abbrev pub EachIsNew : Type 0
EachIsNew = (calls : List HouseCall) (trace : Trace) → TraceReaches first_trace calls trace
    → BringsNew [] calls

-- the relays have exactly the streams that are open by the calls, each one of its own, in their
-- order
abbrev pub StreamsAreTheirs : Type 0
StreamsAreTheirs = (calls : List HouseCall) (trace : Trace) → TraceReaches first_trace calls trace
    → open_streams trace.relay_traces ≡ streams_open_after [] calls

-- no two relays have the same stream
abbrev pub StreamsDiffer : Type 0
StreamsDiffer = (calls : List HouseCall) (trace : Trace) → TraceReaches first_trace calls trace
    → AllPairs (λ a b. a ≢ b) (open_streams trace.relay_traces)
