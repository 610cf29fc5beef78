-- What a relay sends and orders next, as a function of its state.
use Rattle.std.specs.Prelude.{◌-◌, ◌^◌, ◌&&◌, ◌==◌, ℕ, not, min, nat_lt, if◌then◌else◌, length, Option, Some, None}
use Rattle.mux_outside.specs.declared.order.Order.{Order}
use Rattle.mux_outside.specs.declared.order.Order.TheVariants as order
use Rattle.mux_outside.specs.declared.own_streams.OwnStream.{OwnStream}
use Rattle.house_relay.specs.ChannelState.{takes, has_no_more, receives_end}
use Rattle.house_relay.specs.Relay.{is_to_be_closed, is_stuck}
use Rattle.house_relay.specs.declared.TheConstants.{MAXIMUM}
use Rattle.house_relay.specs.declared.line.Live.{Live as LiveState}
use Rattle.house_relay.specs.declared.line.ChannelState.{ChannelState}
use Rattle.house_relay.specs.declared.line.ChannelState.TheVariants.{Dialing, Asked, Opened, Offered, Live, Over}
use Rattle.house_relay.specs.declared.relay.Relay.{Relay}
use Rattle.house_relay.specs.declared.relay.Outgoing.{Outgoing}
use Rattle.house_relay.specs.declared.relay.Outgoing.TheVariants as outgoing
use Rattle.house_relay.specs.declared.relay.RelaySocket.{RelaySocket}
use Rattle.house_relay.specs.declared.relay.RelaySocket.TheVariants as socket

-- ---- sends

-- how many of the held bytes go into the next message
abbrev pub chunk : Relay → LiveState → ℕ
chunk r live = min (min (takes live) MAXIMUM) (length r.held.waiting)

-- the held bytes first, and after them the end
abbrev pub sends_held : Relay → LiveState → Option Outgoing
sends_held r live = if nat_lt 0 (length r.held.waiting)
    then (if nat_lt 0 (chunk r live) then Some (outgoing.Data (chunk r live)) else None)
    else (if r.ended && not live.eof_sent then Some outgoing.Eof else None)

abbrev pub sends_live : Relay → LiveState → Option Outgoing
sends_live r live = if live.close_sent then None
    else (if is_to_be_closed r.socket r.queue.waiting live then Some outgoing.Close
    else (if nat_lt 0 live.failures then Some outgoing.Failure
    else (if nat_lt 0 live.owed then Some (outgoing.Adjust (min live.owed (2 ^ 32 - 1)))
    else sends_held r live)))

abbrev pub sends_offered : RelaySocket → Option Outgoing
sends_offered (socket.Open t) = Some outgoing.Confirmation
sends_offered socket.Unmade = None
sends_offered (socket.Connecting t) = None
sends_offered (socket.Failed t) = Some outgoing.OpenFailure
sends_offered (socket.NoChannelLeft t) = Some outgoing.OpenFailure
sends_offered socket.Closed = Some outgoing.OpenFailure

abbrev pub sends_in : ChannelState → Relay → Option Outgoing
sends_in (Dialing dialog) r = None
sends_in (Asked host port version) r = Some outgoing.Open
sends_in (Opened version) r = None
sends_in (Offered remote window maximum) r = sends_offered r.socket
sends_in (Live live) r = sends_live r live
sends_in Over r = None

abbrev pub sends_of : Relay → Option Outgoing
sends_of r = sends_in r.line r

-- ---- orders

abbrev pub orders_open : Relay → OwnStream → Option Order
orders_open r stream =
    if has_no_more r.ended r.line && (length r.queue.waiting == 0) then Some (order.Close stream.number)
    else (if receives_end r.line && ((length r.queue.waiting == 0) && not stream.finished)
    then Some (order.Finish stream.number)
    else (if is_stuck r.line r.held.waiting && not stream.paused then Some (order.Pause stream.number)
    else (if (length r.held.waiting == 0) && stream.paused then Some (order.Resume stream.number)
    else None)))

abbrev pub orders_in : RelaySocket → Relay → OwnStream → Option Order
orders_in (socket.Open t) r stream = orders_open r stream
orders_in socket.Unmade r stream = None
orders_in (socket.Connecting t) r stream = orders_open r stream
orders_in (socket.Failed t) r stream = Some (order.Close stream.number)
orders_in (socket.NoChannelLeft t) r stream = Some (order.Close stream.number)
orders_in socket.Closed r stream = None

abbrev pub orders_of : Relay → OwnStream → Option Order
orders_of r stream = orders_in r.socket r stream
