-- What each call leaves of a relay.
use Rattle.std.specs.Prelude.{◌≡◌, ◌&&◌, ℕ, Bool, true, false, not, List, ◌++◌, length, Option, Some, None}
use Rattle.proxy_frames.specs.Queued.{empty_queue, with_bytes, without_first_bytes}
use Rattle.socks_dialog.specs.declared.outcome.Outcome.{Outcome}
use Rattle.socks_dialog.specs.declared.outcome.Outcome.TheVariants.{Wants, Connects, Breaks}
use Rattle.socks_dialog.specs.State.{new_dialog}
use Rattle.house_relay.specs.Acts.{outcome_in}
use Rattle.house_relay.specs.Dialing.{IsDialogReading, grant_of, dialog_refusal_of}
use Rattle.house_relay.specs.ChannelState.{is_counted_channel, step_if_live, fresh_live, live_after_close, answers_failure, live_after_sending, ends, live_after_grant, receives_room, receives_eof, receives_close, receives_request, takes_in}
use Rattle.house_relay.specs.declared.line.ChannelState.{ChannelState}
use Rattle.house_relay.specs.declared.line.ChannelState.TheVariants.{Dialing, Asked, Opened, Offered, Live, Over}
use Rattle.house_relay.specs.declared.relay.Relay.{Relay}
use Rattle.house_relay.specs.declared.relay.Outgoing.{Outgoing}
use Rattle.house_relay.specs.declared.relay.Outgoing.TheVariants.{Open, Confirmation, OpenFailure, Close, Failure, Data, Eof, Adjust}
use Rattle.house_relay.specs.declared.relay.RelaySocket.{RelaySocket}
use Rattle.house_relay.specs.declared.relay.RelaySocket.TheVariants as socket

-- a relay in which nothing happened yet
abbrev pub fresh_relay : ℕ → ChannelState → RelaySocket → Relay
fresh_relay number line socket = record {
  number = number;
  line = line;
  socket = socket;
  ended = false;
  held = empty_queue;
  queue = empty_queue;
}

-- a channel whose end a dialog is to name, of which nothing was read yet
abbrev pub fresh_dialing : ChannelState
fresh_dialing = Dialing new_dialog

-- whether nothing is left of it
abbrev pub is_socket_closed : RelaySocket → Bool
is_socket_closed (socket.Connecting stream) = false
is_socket_closed (socket.Open stream) = false
is_socket_closed socket.Unmade = false
is_socket_closed (socket.Failed stream) = false
is_socket_closed (socket.NoChannelLeft stream) = false
is_socket_closed socket.Closed = true

abbrev pub is_gone : Relay → Bool
is_gone r = is_socket_closed r.socket && not (is_counted_channel r.line)

-- ---- the channel

-- the OPEN was sent
abbrev pub channel_after_open : ChannelState → ChannelState
channel_after_open (Dialing dialog) = Dialing dialog
channel_after_open (Asked host port version) = Opened version
channel_after_open (Opened version) = Opened version
channel_after_open (Offered remote window maximum) = Offered remote window maximum
channel_after_open (Live live) = Live live
channel_after_open Over = Over

-- the server's OPEN was confirmed
abbrev pub sent_confirmation : ChannelState → ChannelState
sent_confirmation (Dialing dialog) = Dialing dialog
sent_confirmation (Asked host port version) = Asked host port version
sent_confirmation (Opened version) = Opened version
sent_confirmation (Offered remote window maximum) = Live (fresh_live remote window maximum 0)
sent_confirmation (Live live) = Live live
sent_confirmation Over = Over

abbrev pub on_line : (ChannelState → ChannelState) → Relay → Relay
on_line step r = record r { line = step r.line }

-- this was sent
abbrev pub sent_of : Outgoing → Relay → Relay
sent_of Open r = on_line channel_after_open r
sent_of Confirmation r = on_line sent_confirmation r
sent_of OpenFailure r = record r { line = Over }
sent_of Close r = on_line (step_if_live live_after_close) r
sent_of Failure r = on_line (step_if_live (λ live. Live (answers_failure live))) r
sent_of (Data n) r = record r {
  line = step_if_live (λ live. Live (live_after_sending n live)) r.line;
  held = without_first_bytes n r.held;
}
sent_of Eof r = on_line (step_if_live (λ live. Live (ends live))) r
sent_of (Adjust n) r = on_line (step_if_live (λ live. Live (live_after_grant n live))) r

-- room, EOF, CLOSE or a request was received
abbrev pub room_received : ℕ → ChannelState → ChannelState
room_received n = step_if_live (λ live. Live (receives_room n live))

abbrev pub eof_received : ChannelState → ChannelState
eof_received = step_if_live (λ live. Live (receives_eof live))

abbrev pub close_received : ChannelState → ChannelState
close_received = step_if_live receives_close

abbrev pub request_received : Bool → ChannelState → ChannelState
request_received want = step_if_live (λ live. Live (receives_request want live))

-- the OPEN was confirmed, and a dialog that waits for that is granted what it asked for
abbrev pub confirmed_in : ChannelState → ℕ → ℕ → ℕ → Relay → Relay
confirmed_in (Dialing dialog) remote window maximum r = r
confirmed_in (Asked host port version) remote window maximum r = r
confirmed_in (Opened version) remote window maximum r = record r {
  line = Live (fresh_live remote window maximum (length (with_bytes (grant_of version) r.queue).waiting));
  queue = with_bytes (grant_of version) r.queue;
}
confirmed_in (Offered theirs room most) remote window maximum r = r
confirmed_in (Live live) remote window maximum r = r
confirmed_in Over remote window maximum r = r

-- it was refused for this reason
abbrev pub refused_in : ChannelState → ℕ → Relay → Relay
refused_in (Dialing dialog) reason r = r
refused_in (Asked host port version) reason r = r
refused_in (Opened version) reason r =
    record r { line = Over; queue = with_bytes (dialog_refusal_of version reason) r.queue }
refused_in (Offered remote window maximum) reason r = r
refused_in (Live live) reason r = r
refused_in Over reason r = r

-- data was received, which is for the socket or not
abbrev pub data_received : Bool → List ℕ → Relay → Relay
data_received true bytes r = record r { queue = with_bytes bytes r.queue }
data_received false bytes r = r

-- ---- the socket

-- the socket accepted so many bytes
abbrev pub relay_taken_of : ℕ → Relay → Relay
relay_taken_of n r = record r {
  line = takes_in n r.line;
  queue = without_first_bytes n r.queue;
}

-- it is made, or couldn't be
abbrev pub made_as : Option ℕ → RelaySocket
made_as (Some stream) = socket.Connecting stream
made_as None = socket.Closed

-- it accepts bytes, or is connected
abbrev pub socket_connected : RelaySocket → RelaySocket
socket_connected (socket.Connecting stream) = socket.Open stream
socket_connected (socket.Open stream) = socket.Open stream
socket_connected socket.Unmade = socket.Unmade
socket_connected (socket.Failed stream) = socket.Failed stream
socket_connected (socket.NoChannelLeft stream) = socket.NoChannelLeft stream
socket_connected socket.Closed = socket.Closed

-- it failed
abbrev pub failing : RelaySocket → RelaySocket
failing (socket.Connecting stream) = socket.Failed stream
failing (socket.Open stream) = socket.Failed stream
failing socket.Unmade = socket.Unmade
failing (socket.Failed stream) = socket.Failed stream
failing (socket.NoChannelLeft stream) = socket.Failed stream
failing socket.Closed = socket.Closed

-- there is no channel for it
abbrev pub no_channel_left_of : RelaySocket → RelaySocket
no_channel_left_of (socket.Connecting stream) = socket.NoChannelLeft stream
no_channel_left_of (socket.Open stream) = socket.NoChannelLeft stream
no_channel_left_of socket.Unmade = socket.Unmade
no_channel_left_of (socket.Failed stream) = socket.NoChannelLeft stream
no_channel_left_of (socket.NoChannelLeft stream) = socket.NoChannelLeft stream
no_channel_left_of socket.Closed = socket.Closed

-- ---- a dialog

abbrev pub IsToDial : ChannelState → Type 0
IsToDial (Dialing dialog) = Unit {0}
IsToDial (Asked host port version) = ⊥
IsToDial (Opened version) = ⊥
IsToDial (Offered remote window maximum) = ⊥
IsToDial (Live live) = ⊥
IsToDial Over = ⊥

-- an OPEN to this end is to be sent
abbrev pub IsOpenAskedFor : List ℕ → ℕ → ChannelState → Type 0
IsOpenAskedFor host port (Dialing dialog) = ⊥
IsOpenAskedFor host port (Asked host' port' version) = (host' ≡ host) × (port' ≡ port)
IsOpenAskedFor host port (Opened version) = ⊥
IsOpenAskedFor host port (Offered remote window maximum) = ⊥
IsOpenAskedFor host port (Live live) = ⊥
IsOpenAskedFor host port Over = ⊥

-- it goes on while the dialog wants more bytes; where that asks for an end, it is asked for in a
-- channel, if one is free; and where it breaks, nothing more comes from it
abbrev pub ComesOf : Outcome → Bool → Relay → Relay → Type 0
ComesOf Wants free old new = IsToDial new.line × (new.socket ≡ old.socket)
ComesOf (Connects host port) true old new =
    IsOpenAskedFor host port new.line × (new.socket ≡ old.socket)
ComesOf (Connects host port) false old new =
    (new.line ≡ Over) × (new.socket ≡ no_channel_left_of old.socket)
ComesOf (Breaks reply) free old new = (new.line ≡ Over) × (new.socket ≡ old.socket)

-- nothing but what is held changed
abbrev pub SameChannel : Relay → Relay → Type 0
SameChannel old new = (new.line ≡ old.line) × (new.socket ≡ old.socket) × (new.queue ≡ old.queue)

-- bytes go into the dialog that is read, and where none is they change nothing of the channel
abbrev pub DialsIn : ChannelState → Bool → List ℕ → Relay → Relay → Type 0
DialsIn (Dialing dialog) free bytes old new =
    IsDialogReading dialog → ComesOf (outcome_in (dialog.bytes ++ bytes)) free old new
DialsIn (Asked host port version) free bytes old new = SameChannel old new
DialsIn (Opened version) free bytes old new = SameChannel old new
DialsIn (Offered remote window maximum) free bytes old new = SameChannel old new
DialsIn (Live live) free bytes old new = SameChannel old new
DialsIn Over free bytes old new = SameChannel old new

abbrev pub Dials : Bool → List ℕ → Relay → Relay → Type 0
Dials free bytes old new = DialsIn old.line free bytes old new
