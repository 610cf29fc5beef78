-- How a relay stands, for what happened in it.
use Rattle.std.specs.Prelude.{◌≡◌, ◌≢◌, ◌+◌, ◌-◌, ◌≤◌, ◌<◌, ◌&&◌, ◌||◌, ◌==◌, ℕ, Bool, true, false, not, is_some, List, [], ◌∷◌, ◌++◌, length, take, slice_index, IsTrue, Option, Some, None}
use Rattle.house_relay.specs.Acts.{RelayAct, SendsData, SendsAdjust, SendsEof, SendsClose, Other}
use Rattle.house_relay.specs.Acts.{read, all_data_sent, delivered, socket_accepted, accepted_length, adjusted, socket_has_ended, received_eof, received_close, sent_eof, was_close_sent}
use Rattle.house_relay.specs.Acts.{Unanswered, answer, outcome_in, before_in, dialog_replies, read_after_dialog, read_not_sent, to_take, waiting, taken_data}
use Rattle.mux_outside.specs.declared.order.Order.{Order}
use Rattle.mux_outside.specs.declared.order.Order.TheVariants.{Listen, Connect, Unlisten, Pause, Resume, Finish}
use Rattle.mux_outside.specs.declared.order.Order.TheVariants as close
use Rattle.mux_outside.specs.declared.own_streams.OwnStream.{OwnStream}
use Rattle.mux_outside.specs.declared.piece.TheConstants.{LONGEST_PIECE}
use Rattle.proxy_frames.specs.Queued.{with_bytes}
use Rattle.socks_dialog.specs.State.{DialogState, IsConnect}
use Rattle.socks_dialog.specs.declared.outcome.Outcome.{Outcome}
use Rattle.socks_dialog.specs.declared.outcome.Outcome.TheVariants.{Wants, Connects}
use Rattle.house_relay.specs.ChannelState.{takes, has_no_more, receives_end}
use Rattle.house_relay.specs.declared.line.Live.{Live as LiveState}
use Rattle.house_relay.specs.declared.line.ChannelState.{ChannelState}
use Rattle.house_relay.specs.declared.line.ChannelState.TheVariants.{Dialing, Asked, Opened, Offered, Live, Over}
use Rattle.house_relay.specs.declared.relay.Relay.{Relay}
use Rattle.house_relay.specs.declared.relay.Outgoing.{Outgoing}
use Rattle.house_relay.specs.declared.relay.Outgoing.TheVariants.{Open, Confirmation, OpenFailure, Close, Failure, Data, Eof, Adjust}
use Rattle.house_relay.specs.declared.relay.RelaySocket.{RelaySocket}
use Rattle.house_relay.specs.declared.relay.RelaySocket.TheVariants as socket

-- ---- sides

-- a fact of a channel that is confirmed and hasn't ended
abbrev pub InLive : ChannelState → (LiveState → Type 0) → Type 0
InLive (Dialing dialog) P = ⊥
InLive (Asked host port version) P = ⊥
InLive (Opened version) P = ⊥
InLive (Offered remote window maximum) P = ⊥
InLive (Live live) P = P live
InLive Over P = ⊥

abbrev pub IsChannelAsked : ChannelState → Type 0
IsChannelAsked (Dialing dialog) = ⊥
IsChannelAsked (Asked host port version) = Unit {0}
IsChannelAsked (Opened version) = ⊥
IsChannelAsked (Offered remote window maximum) = ⊥
IsChannelAsked (Live live) = ⊥
IsChannelAsked Over = ⊥

abbrev pub IsChannelOffered : ChannelState → Type 0
IsChannelOffered (Dialing dialog) = ⊥
IsChannelOffered (Asked host port version) = ⊥
IsChannelOffered (Opened version) = ⊥
IsChannelOffered (Offered remote window maximum) = Unit {0}
IsChannelOffered (Live live) = ⊥
IsChannelOffered Over = ⊥

-- its socket is connected
abbrev pub IsConnected : RelaySocket → Type 0
IsConnected (socket.Open t) = Unit {0}
IsConnected socket.Unmade = ⊥
IsConnected (socket.Connecting t) = ⊥
IsConnected (socket.Failed t) = ⊥
IsConnected (socket.NoChannelLeft t) = ⊥
IsConnected socket.Closed = ⊥

-- its socket failed, or there is none any more
abbrev pub is_broken : RelaySocket → Bool
is_broken (socket.Open t) = false
is_broken socket.Unmade = false
is_broken (socket.Connecting t) = false
is_broken (socket.Failed t) = true
is_broken (socket.NoChannelLeft t) = true
is_broken socket.Closed = true

-- whether a channel is to be closed: its socket is broken, or CLOSE was received, or EOF went both
-- ways and nothing waits for the socket
abbrev pub is_to_be_closed : RelaySocket → List ℕ → LiveState → Bool
is_to_be_closed s queue live = is_broken s
    || (live.close_received || (live.eof_sent && (live.eof_received && (length queue == 0))))

-- ---- what may be sent

abbrev pub IsSending : Outgoing → Relay → Type 0
IsSending Open r = IsChannelAsked r.line
IsSending Confirmation r = IsChannelOffered r.line × IsConnected r.socket
IsSending OpenFailure r = IsChannelOffered r.line
IsSending Close r = InLive r.line (λ live. (live.close_sent ≡ false)
    × IsTrue (is_to_be_closed r.socket r.queue.waiting live))
IsSending Failure r = InLive r.line (λ live. (live.close_sent ≡ false) × (0 < live.failures))
IsSending (Data n) r = InLive r.line (λ live. (live.close_sent ≡ false) × (0 < n)
    × (n ≤ length r.held.waiting) × (n ≤ takes live))
IsSending Eof r = InLive r.line (λ live. (live.close_sent ≡ false) × (live.eof_sent ≡ false)
    × IsTrue r.ended × (r.held.waiting ≡ []))
IsSending (Adjust n) r = InLive r.line (λ live. (live.close_sent ≡ false) × (0 < n) × (n ≤ live.owed))

-- what happens as that is sent
abbrev pub sent_act : Outgoing → Relay → RelayAct
sent_act Open r = Other
sent_act Confirmation r = Other
sent_act OpenFailure r = Other
sent_act Close r = SendsClose
sent_act Failure r = Other
sent_act (Data n) r = SendsData (take n r.held.waiting)
sent_act Eof r = SendsEof
sent_act (Adjust n) r = SendsAdjust n

-- what is received in a channel that is confirmed; in another nothing is
abbrev pub received_if_live : ChannelState → RelayAct → RelayAct
received_if_live (Dialing dialog) act = Other
received_if_live (Asked host port version) act = Other
received_if_live (Opened version) act = Other
received_if_live (Offered remote window maximum) act = Other
received_if_live (Live live) act = act
received_if_live Over act = Other

-- an answer to the OPEN is received while it is sent and unanswered
abbrev pub answered_in : ChannelState → RelayAct → RelayAct
answered_in (Dialing dialog) act = Other
answered_in (Asked host port version) act = Other
answered_in (Opened version) act = act
answered_in (Offered remote window maximum) act = Other
answered_in (Live live) act = Other
answered_in Over act = Other

-- ---- what it represents

-- the OPEN is unanswered, and nothing went through the channel
pub record NothingYet (dials : Bool) (acts : List RelayAct) : Type 0 where
  pub no_answer : answer acts ≡ Unanswered
  pub no_data : delivered acts ≡ []
  pub no_take : accepted_length acts ≤ length (dialog_replies dials acts)
  pub no_room : adjusted acts ≡ 0
  pub no_eof : sent_eof acts ≡ false
  pub no_close : was_close_sent acts ≡ false
  pub none_received : received_eof acts ≡ false
  pub none_closed : received_close acts ≡ false

-- a dialog that is read has all bytes that were read, has given all its replies, and wants more
-- bytes
pub record IsDialing (dialog : DialogState) (dials : Bool) (acts : List RelayAct) : Type 0 where
  pub socks : dials ≡ true
  pub bytes : dialog.bytes ≡ read acts
  pub given : dialog.given ≡ length (before_in (read acts))
  pub wants : outcome_in (read acts) ≡ Wants
  pub nothing : NothingYet dials acts

-- where a dialog waits for the answer, it spoke this version, and asked for an end
abbrev pub DialogWaitsFor : Option ℕ → Outcome → Bool → List RelayAct → Type 0
DialogWaitsFor None outcome dials acts = dials ≡ false
DialogWaitsFor (Some version) outcome dials acts =
    (dials ≡ true) × (version ≡ slice_index (read acts) 0) × (outcome_in (read acts) ≡ outcome)

-- an OPEN to this end is to be sent
pub record IsToAsk (host : List ℕ) (port : ℕ) (version : Option ℕ) (dials : Bool) (acts : List RelayAct) : Type 0 where
  pub waits : DialogWaitsFor version (Connects host port) dials acts
  pub nothing : NothingYet dials acts

-- an OPEN is sent and unanswered
pub record IsChannelOpened (version : Option ℕ) (dials : Bool) (acts : List RelayAct) : Type 0 where
  pub host : List ℕ
  pub port : ℕ
  pub waits : DialogWaitsFor version (Connects host port) dials acts
  pub nothing : NothingYet dials acts

-- an OPEN of the server is unanswered; it has no dialog
pub record IsToAnswer (dials : Bool) (acts : List RelayAct) : Type 0 where
  pub plain : dials ≡ false
  pub nothing : NothingYet dials acts

-- a dialog, if there is one, has an outcome
abbrev pub IsDialogSettled : Bool → List ℕ → Type 0
IsDialogSettled false bytes = Unit {0}
IsDialogSettled true bytes = outcome_in bytes ≢ Wants

-- a dialog, if there is one, asked for an end
abbrev pub HasAsked : Bool → List ℕ → Type 0
HasAsked false bytes = Unit {0}
HasAsked true bytes = IsConnect (outcome_in bytes)

-- what a channel that is confirmed keeps: what was sent and received, and, until CLOSE is sent, how
-- many bytes of replies wait, and how much room is to be given back
pub record IsLive (live : LiveState) (dials : Bool) (acts : List RelayAct) : Type 0 where
  pub eof_sent : live.eof_sent ≡ sent_eof acts
  pub eof_received : live.eof_received ≡ received_eof acts
  pub close_sent : live.close_sent ≡ was_close_sent acts
  pub close_received : live.close_received ≡ received_close acts
  pub replies : live.close_sent ≡ false → live.replies ≡ length (dialog_replies dials acts) - accepted_length acts
  pub owed : live.close_sent ≡ false → adjusted acts + live.owed ≡ taken_data dials acts
  pub most : adjusted acts ≤ taken_data dials acts
  pub settled : IsDialogSettled dials (read acts)
  pub asked : HasAsked dials (read acts)

-- what is left of a channel that has ended
pub record IsChannelOver (dials : Bool) (acts : List RelayAct) : Type 0 where
  pub most : adjusted acts ≤ taken_data dials acts
  pub settled : IsDialogSettled dials (read acts)

abbrev pub LineStands : ChannelState → Bool → List RelayAct → Type 0
LineStands (Dialing dialog) dials acts = IsDialing dialog dials acts
LineStands (Asked host port version) dials acts = IsToAsk host port version dials acts
LineStands (Opened version) dials acts = IsChannelOpened version dials acts
LineStands (Offered remote window maximum) dials acts = IsToAnswer dials acts
LineStands (Live live) dials acts = IsLive live dials acts
LineStands Over dials acts = IsChannelOver dials acts

-- a relay represents what happened in it; it began with a dialog, or not
pub record RelayRepresents (dials : Bool) (acts : List RelayAct) (r : Relay) : Type 0 where
  pub sends : all_data_sent acts ++ r.held.waiting ≡ read_after_dialog dials acts
  pub delivers : socket_accepted acts ++ r.queue.waiting ≡ to_take dials acts
  pub ends : r.ended ≡ socket_has_ended acts
  pub last : IsTrue (sent_eof acts) → IsTrue (socket_has_ended acts) × (r.held.waiting ≡ [])
  pub few : length r.held.waiting ≤ LONGEST_PIECE
  pub line : LineStands r.line dials acts

-- from all that it represented, it represents one thing more
abbrev pub RelayGoesOn : Relay → Relay → RelayAct → Type 0
RelayGoesOn old new act =
    (dials : Bool) (acts : List RelayAct) → RelayRepresents dials acts old → RelayRepresents dials (act ∷ acts) new

-- its socket may give these bytes: it hasn't ended, and they are no more than may be held
pub record RelayMayRead (bytes : List ℕ) (r : Relay) : Type 0 where
  pub unended : r.ended ≡ false
  pub room : length r.held.waiting + length bytes ≤ LONGEST_PIECE

-- with these bytes held too
abbrev pub holding : List ℕ → Relay → Relay
holding bytes r = record r { held = with_bytes bytes r.held }

-- ---- at rest

-- nothing is to be sent
abbrev pub SilentIn : ChannelState → Relay → Type 0
SilentIn (Dialing dialog) r = Unit {0}
SilentIn (Asked host port version) r = ⊥
SilentIn (Opened version) r = Unit {0}
SilentIn (Offered remote window maximum) r = is_broken r.socket ≡ false
SilentIn (Live live) r = live.close_sent ≡ false
    → (is_to_be_closed r.socket r.queue.waiting live ≡ false) × (live.failures ≡ 0)
    × (live.owed ≡ 0) × (0 < length r.held.waiting → takes live ≡ 0)
    × (IsTrue r.ended → r.held.waiting ≡ [] → IsTrue live.eof_sent)
SilentIn Over r = Unit {0}

-- its stream, if it has one
abbrev pub socket_stream_of : RelaySocket → Option ℕ
socket_stream_of (socket.Open t) = Some t
socket_stream_of socket.Unmade = None
socket_stream_of (socket.Connecting t) = Some t
socket_stream_of (socket.Failed t) = Some t
socket_stream_of (socket.NoChannelLeft t) = Some t
socket_stream_of socket.Closed = None

-- whether data that comes in the channel is for the socket
abbrev pub delivers_in : ChannelState → RelaySocket → Bool
delivers_in (Dialing dialog) s = false
delivers_in (Asked host port version) s = false
delivers_in (Opened version) s = false
delivers_in (Offered remote window maximum) s = false
delivers_in (Live live) s = not live.eof_received && is_some (socket_stream_of s)
delivers_in Over s = false

abbrev pub delivers : Relay → Bool
delivers r = delivers_in r.line r.socket

-- whether bytes are held that the channel doesn't take now
abbrev pub stuck_in : ChannelState → Bool
stuck_in (Dialing dialog) = true
stuck_in (Asked host port version) = true
stuck_in (Opened version) = true
stuck_in (Offered remote window maximum) = true
stuck_in (Live live) = live.close_sent || (takes live == 0)
stuck_in Over = true

abbrev pub is_stuck : ChannelState → List ℕ → Bool
is_stuck line [] = false
is_stuck line (x ∷ xs) = stuck_in line

-- whether its stream is to be closed: it failed, or there was no channel for it, or the channel has
-- ended, or its dialog never asked for one, and nothing waits
abbrev pub is_done : Relay → Bool
is_done r = is_broken r.socket || (has_no_more r.ended r.line && (length r.queue.waiting == 0))

-- which orders may be given of its stream
abbrev pub OrdersRight : Order → Relay → OwnStream → Type 0
OrdersRight (Listen host port) r stream = ⊥
OrdersRight (Connect host port) r stream = ⊥
OrdersRight (Unlisten l) r stream = ⊥
OrdersRight (Pause t) r stream = (t ≡ stream.number) × (stream.paused ≡ false)
    × IsTrue (is_stuck r.line r.held.waiting)
OrdersRight (Resume t) r stream = (t ≡ stream.number) × (stream.paused ≡ true)
    × (r.held.waiting ≡ [])
OrdersRight (Finish t) r stream = (t ≡ stream.number) × (stream.finished ≡ false)
    × IsTrue (receives_end r.line) × (r.queue.waiting ≡ [])
OrdersRight (close.Close t) r stream = (t ≡ stream.number) × IsTrue (is_done r)

-- nothing is to be ordered of its stream: it isn't to be closed; where EOF was received and nothing
-- waits it is finished; where bytes are held that the channel doesn't take it is paused; and it is
-- paused only where bytes are held
pub record IsResting (r : Relay) (stream : OwnStream) : Type 0 where
  pub stays : is_done r ≡ false
  pub finished : IsTrue (receives_end r.line) → r.queue.waiting ≡ [] → IsTrue stream.finished
  pub paused : IsTrue (is_stuck r.line r.held.waiting) → IsTrue stream.paused
  pub holds : IsTrue stream.paused → 0 < length r.held.waiting

-- what a relay keeps is what is left: of the bytes for the channel those not sent, and of the bytes
-- for the socket those not written; and, until CLOSE is sent, what it owes is the room that wasn't
-- given back
abbrev pub OwesRight : ChannelState → Bool → List RelayAct → Type 0
OwesRight (Dialing dialog) dials acts = Unit {0}
OwesRight (Asked host port version) dials acts = Unit {0}
OwesRight (Opened version) dials acts = Unit {0}
OwesRight (Offered remote window maximum) dials acts = Unit {0}
OwesRight (Live live) dials acts =
    was_close_sent acts ≡ false → live.owed ≡ 0 → adjusted acts ≡ taken_data dials acts
OwesRight Over dials acts = Unit {0}

-- a channel is that of a dialog that asked for its end, if there is a dialog; one that wants more
-- bytes is read, and after one that broke it is over
abbrev pub AsksRight : ChannelState → Bool → List RelayAct → Type 0
AsksRight (Dialing dialog) dials acts = outcome_in (read acts) ≡ Wants
AsksRight (Asked host port version) dials acts =
    dials ≡ true → outcome_in (read acts) ≡ Connects host port
AsksRight (Opened version) dials acts = HasAsked dials (read acts)
AsksRight (Offered remote window maximum) dials acts = dials ≡ false
AsksRight (Live live) dials acts = HasAsked dials (read acts)
AsksRight Over dials acts = IsDialogSettled dials (read acts)

pub record RelayKeeps (dials : Bool) (acts : List RelayAct) (r : Relay) : Type 0 where
  pub holds : r.held.waiting ≡ read_not_sent dials acts
  pub waits : r.queue.waiting ≡ waiting dials acts
  pub owes : OwesRight r.line dials acts
  pub asks : AsksRight r.line dials acts
