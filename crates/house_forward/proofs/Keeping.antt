-- What stays of a relay's socket, and how much it owes at most, as it goes on.
use Rattle.std.proofs.Common.{◌≡◌, ◌∙◌, refl, sym, ap, subst, arith, ℕ, ◌+◌, ◌-◌, ◌^◌, ◌≤◌, min, Bool, true, false, List, ◌∷◌, ◌++◌, length, Option, Some, None}
use Rattle.std.specs.Prelude.{if◌then◌else◌}
use Rattle.conn_messages.specs.declared.message.Message.{Message}
use Rattle.conn_messages.specs.declared.message.Message.TheVariants as message
use Rattle.socks_dialog.specs.State.{DialogState}
use Rattle.socks_dialog.specs.declared.outcome.Outcome.{Outcome}
use Rattle.socks_dialog.specs.declared.outcome.Outcome.TheVariants.{Wants, Connects, Breaks}
use Rattle.house_relay.specs.Acts.{RelayAct, Confirms, Refuses, Delivers, ReceivesEof, ReceivesClose, Other, accepted_length, outcome_in, before_in}
use Rattle.house_relay.specs.Dialing.{IsDialogReading}
use Rattle.house_relay.specs.ChannelState.{owed_in, step_if_live, receives_room, receives_close, receives_request, takes_in, takes_more, live_after_close, answers_failure, live_after_sending, ends, live_after_grant, over_if}
use Rattle.house_relay.specs.Relay.{RelayRepresents, LineStands, IsDialing, socket_stream_of, delivers, answered_in, received_if_live, sent_act}
use Rattle.house_relay.specs.Steps.{sent_of, socket_connected, failing, channel_after_open, sent_confirmation, room_received, eof_received, close_received, request_received, confirmed_in, refused_in, data_received, no_channel_left_of, IsToDial, IsOpenAskedFor, ComesOf, DialsIn, Dials}
use Rattle.house_relay.specs.declared.line.Live.{Live as LiveState}
use Rattle.house_relay.specs.declared.line.ChannelState.{ChannelState}
use Rattle.house_relay.specs.declared.line.ChannelState.TheVariants.{Dialing, Asked, Opened, Offered, Live, Over}
use Rattle.house_relay.specs.declared.relay.Relay.{Relay}
use Rattle.house_relay.specs.declared.relay.Outgoing.{Outgoing}
use Rattle.house_relay.specs.declared.relay.Outgoing.TheVariants as outgoing
use Rattle.house_relay.specs.declared.relay.RelaySocket.{RelaySocket}
use Rattle.house_relay.specs.declared.relay.RelaySocket.TheVariants as socket
use Rattle.house_forward.specs.Going.{act_of_sending}
use Rattle.house_forward.specs.Heard.{received_of, act_received}
use Rattle.house_forward.specs.Links.{relay_after_sending}

-- the socket stays, and no more is owed
pub record Stays (old new : Relay) : Type 0 where
  pub socket_is : new.socket ≡ old.socket
  pub ended_is : new.ended ≡ old.ended
  pub owes : owed_in new.line ≤ owed_in old.line

stays : (r : Relay) → Stays r r
stays r = record { socket_is = refl; ended_is = refl; owes = omega arith }

-- ---- lines

owed-live : (step : LiveState → ChannelState) → ((live : LiveState) → owed_in (step live) ≤ live.owed) → (line : ChannelState)
    → owed_in (step_if_live step line) ≤ owed_in line
owed-live step f (Dialing dialog) = omega arith
owed-live step f (Asked host port version) = omega arith
owed-live step f (Opened version) = omega arith
owed-live step f (Offered remote window maximum) = omega arith
owed-live step f (Live live) = f live
owed-live step f Over = omega arith

owed-if : (b : Bool) (x y : LiveState) (n : ℕ) → x.owed ≤ n → y.owed ≤ n → (if b then x else y).owed ≤ n
owed-if true x y n h k = h
owed-if false x y n h k = k

owed-over : (b : Bool) (live : LiveState) (n : ℕ) → live.owed ≤ n → owed_in (over_if b live) ≤ n
owed-over true live n h = omega arith
owed-over false live n h = h

-- ---- what is received

owed-room : (n : ℕ) (line : ChannelState) → owed_in (room_received n line) ≤ owed_in line
owed-room n line = owed-live (λ live. Live (receives_room n live))
    (λ live. owed-if _ (record live { room = live.room + n }) live live.owed (omega arith) (omega arith)) line

owed-eof : (line : ChannelState) → owed_in (eof_received line) ≤ owed_in line
owed-eof line = owed-live _ (λ live. omega arith) line

owed-close : (line : ChannelState) → owed_in (close_received line) ≤ owed_in line
owed-close line = owed-live receives_close
    (λ live. owed-over live.close_sent (record live { close_received = true }) live.owed (omega arith)) line

owed-request : (want : Bool) (line : ChannelState) → owed_in (request_received want line) ≤ owed_in line
owed-request want line = owed-live (λ live. Live (receives_request want live))
    (λ live. owed-if _ (record live { failures = min (live.failures + 1) (2 ^ 32 - 1) }) live live.owed (omega arith) (omega arith)) line

stays-confirmed : (line : ChannelState) (remote window maximum : ℕ) (r : Relay)
    → Stays r (confirmed_in line remote window maximum r)
stays-confirmed (Dialing dialog) remote window maximum r = stays r
stays-confirmed (Asked host port version) remote window maximum r = stays r
stays-confirmed (Opened version) remote window maximum r = record { socket_is = refl; ended_is = refl; owes = omega arith }
stays-confirmed (Offered theirs room most) remote window maximum r = stays r
stays-confirmed (Live live) remote window maximum r = stays r
stays-confirmed Over remote window maximum r = stays r

stays-refused : (line : ChannelState) (reason : ℕ) (r : Relay) → Stays r (refused_in line reason r)
stays-refused (Dialing dialog) reason r = stays r
stays-refused (Asked host port version) reason r = stays r
stays-refused (Opened version) reason r = record { socket_is = refl; ended_is = refl; owes = omega arith }
stays-refused (Offered remote window maximum) reason r = stays r
stays-refused (Live live) reason r = stays r
stays-refused Over reason r = stays r

stays-data : (b : Bool) (bytes : List ℕ) (r : Relay) → Stays r (data_received b bytes r)
stays-data true bytes r = record { socket_is = refl; ended_is = refl; owes = omega arith }
stays-data false bytes r = stays r

pub stays-heard : (m : Message) (r : Relay) → Stays r (received_of m r)
stays-heard (message.Transport number rest) r = stays r
stays-heard (message.GlobalRequest name want rest what) r = stays r
stays-heard (message.RequestSuccess rest) r = stays r
stays-heard message.RequestFailure r = stays r
stays-heard (message.Open kind sender window maximum rest what) r = stays r
stays-heard (message.Confirmation recipient sender window maximum rest) r = stays-confirmed r.line sender window maximum r
stays-heard (message.OpenFailure recipient reason text language) r = stays-refused r.line reason r
stays-heard (message.Adjust recipient add) r = record { socket_is = refl; ended_is = refl; owes = owed-room add r.line }
stays-heard (message.Data recipient bytes) r = stays-data (delivers r) bytes.now r
stays-heard (message.Extended recipient code bytes) r = stays r
stays-heard (message.Eof recipient) r = record { socket_is = refl; ended_is = refl; owes = owed-eof r.line }
stays-heard (message.Close recipient) r = record { socket_is = refl; ended_is = refl; owes = owed-close r.line }
stays-heard (message.Request recipient kind want rest) r = record { socket_is = refl; ended_is = refl; owes = owed-request want r.line }
stays-heard (message.Success recipient) r = stays r
stays-heard (message.Failure recipient) r = stays r

-- nothing is accepted by that
answered-none : (line : ChannelState) (act : RelayAct) (acts : List RelayAct) → accepted_length (act ∷ acts) ≡ accepted_length acts
    → accepted_length (answered_in line act ∷ acts) ≡ accepted_length acts
answered-none (Dialing dialog) act acts e = refl
answered-none (Asked host port version) act acts e = refl
answered-none (Opened version) act acts e = e
answered-none (Offered remote window maximum) act acts e = refl
answered-none (Live live) act acts e = refl
answered-none Over act acts e = refl

heard-none : (line : ChannelState) (act : RelayAct) (acts : List RelayAct) → accepted_length (act ∷ acts) ≡ accepted_length acts
    → accepted_length (received_if_live line act ∷ acts) ≡ accepted_length acts
heard-none (Dialing dialog) act acts e = refl
heard-none (Asked host port version) act acts e = refl
heard-none (Opened version) act acts e = refl
heard-none (Offered remote window maximum) act acts e = refl
heard-none (Live live) act acts e = e
heard-none Over act acts e = refl

data-none : (b : Bool) (bytes : List ℕ) (acts : List RelayAct) → accepted_length ((if b then Delivers bytes else Other) ∷ acts) ≡ accepted_length acts
data-none true bytes acts = refl
data-none false bytes acts = refl

pub none-heard : (m : Message) (r : Relay) (acts : List RelayAct) → accepted_length (act_received m r ∷ acts) ≡ accepted_length acts
none-heard (message.Transport number rest) r acts = refl
none-heard (message.GlobalRequest name want rest what) r acts = refl
none-heard (message.RequestSuccess rest) r acts = refl
none-heard message.RequestFailure r acts = refl
none-heard (message.Open kind sender window maximum rest what) r acts = refl
none-heard (message.Confirmation recipient sender window maximum rest) r acts = answered-none r.line Confirms acts refl
none-heard (message.OpenFailure recipient reason text language) r acts = answered-none r.line (Refuses reason) acts refl
none-heard (message.Adjust recipient add) r acts = refl
none-heard (message.Data recipient bytes) r acts = data-none (delivers r) bytes.now acts
none-heard (message.Extended recipient code bytes) r acts = refl
none-heard (message.Eof recipient) r acts = heard-none r.line ReceivesEof acts refl
none-heard (message.Close recipient) r acts = heard-none r.line ReceivesClose acts refl
none-heard (message.Request recipient kind want rest) r acts = refl
none-heard (message.Success recipient) r acts = refl
none-heard (message.Failure recipient) r acts = refl

-- ---- what is sent

owed-open : (line : ChannelState) → owed_in (channel_after_open line) ≤ owed_in line
owed-open (Dialing dialog) = omega arith
owed-open (Asked host port version) = omega arith
owed-open (Opened version) = omega arith
owed-open (Offered remote window maximum) = omega arith
owed-open (Live live) = omega arith
owed-open Over = omega arith

owed-confirmation : (line : ChannelState) → owed_in (sent_confirmation line) ≤ owed_in line
owed-confirmation (Dialing dialog) = omega arith
owed-confirmation (Asked host port version) = omega arith
owed-confirmation (Opened version) = omega arith
owed-confirmation (Offered remote window maximum) = omega arith
owed-confirmation (Live live) = omega arith
owed-confirmation Over = omega arith

stays-said : (s : Outgoing) (r : Relay) → Stays r (sent_of s r)
stays-said outgoing.Open r = record { socket_is = refl; ended_is = refl; owes = owed-open r.line }
stays-said outgoing.Confirmation r = record { socket_is = refl; ended_is = refl; owes = owed-confirmation r.line }
stays-said outgoing.OpenFailure r = record { socket_is = refl; ended_is = refl; owes = omega arith }
stays-said outgoing.Close r = record {
  socket_is = refl;
  ended_is = refl;
  owes = owed-live live_after_close
      (λ live. owed-over live.close_received (record live { close_sent = true; failures = 0; owed = 0 }) live.owed (omega arith)) r.line;
}
stays-said outgoing.Failure r = record {
  socket_is = refl;
  ended_is = refl;
  owes = owed-live (λ live. Live (answers_failure live)) (λ live. omega arith) r.line;
}
stays-said (outgoing.Data n) r = record {
  socket_is = refl;
  ended_is = refl;
  owes = owed-live (λ live. Live (live_after_sending n live)) (λ live. omega arith) r.line;
}
stays-said outgoing.Eof r = record {
  socket_is = refl;
  ended_is = refl;
  owes = owed-live (λ live. Live (ends live)) (λ live. omega arith) r.line;
}
stays-said (outgoing.Adjust n) r = record {
  socket_is = refl;
  ended_is = refl;
  owes = owed-live (λ live. Live (live_after_grant n live)) (λ live. omega arith) r.line;
}

pub stays-after : (o : Option Outgoing) (r : Relay) → Stays r (relay_after_sending o r)
stays-after None r = stays r
stays-after (Some s) r = stays-said s r

none-said : (s : Outgoing) (r : Relay) (acts : List RelayAct) → accepted_length (sent_act s r ∷ acts) ≡ accepted_length acts
none-said outgoing.Open r acts = refl
none-said outgoing.Confirmation r acts = refl
none-said outgoing.OpenFailure r acts = refl
none-said outgoing.Close r acts = refl
none-said outgoing.Failure r acts = refl
none-said (outgoing.Data n) r acts = refl
none-said outgoing.Eof r acts = refl
none-said (outgoing.Adjust n) r acts = refl

pub none-after : (o : Option Outgoing) (r : Relay) (acts : List RelayAct) → accepted_length (act_of_sending o r ∷ acts) ≡ accepted_length acts
none-after None r acts = refl
none-after (Some s) r acts = none-said s r acts

-- ---- what a socket gives

-- its stream stays, and no more is owed
pub record KeepsStream (old new : Relay) : Type 0 where
  pub stream_is : socket_stream_of new.socket ≡ socket_stream_of old.socket
  pub owes : owed_in new.line ≤ owed_in old.line

no_channel_left-stream : (s : RelaySocket) → socket_stream_of (no_channel_left_of s) ≡ socket_stream_of s
no_channel_left-stream (socket.Connecting stream) = refl
no_channel_left-stream (socket.Open stream) = refl
no_channel_left-stream socket.Unmade = refl
no_channel_left-stream (socket.Failed stream) = refl
no_channel_left-stream (socket.NoChannelLeft stream) = refl
no_channel_left-stream socket.Closed = refl

dial-owes : (line : ChannelState) → IsToDial line → owed_in line ≡ 0
dial-owes (Dialing dialog) h = refl
dial-owes (Asked host port version) h = absurd h
dial-owes (Opened version) h = absurd h
dial-owes (Offered remote window maximum) h = absurd h
dial-owes (Live live) h = absurd h
dial-owes Over h = absurd h

ask-owes : (host : List ℕ) (port : ℕ) (line : ChannelState) → IsOpenAskedFor host port line → owed_in line ≡ 0
ask-owes host port (Dialing dialog) h = absurd h
ask-owes host port (Asked host' port' version) h = refl
ask-owes host port (Opened version) h = absurd h
ask-owes host port (Offered remote window maximum) h = absurd h
ask-owes host port (Live live) h = absurd h
ask-owes host port Over h = absurd h

comes-keeps : (o : Outcome) (free : Bool) (old new : Relay) → ComesOf o free old new → KeepsStream old new
comes-keeps Wants free old new h =
    let none = dial-owes new.line h.0 in
    record { stream_is = ap socket_stream_of h.1; owes = omega (arith, none) }
comes-keeps (Connects host port) true old new h =
    let none = ask-owes host port new.line h.0 in
    record { stream_is = ap socket_stream_of h.1; owes = omega (arith, none) }
comes-keeps (Connects host port) false old new h =
    let none : owed_in new.line ≡ 0 = ap owed_in h.0 in
    record { stream_is = ap socket_stream_of h.1 ∙ no_channel_left-stream old.socket; owes = omega (arith, none) }
comes-keeps (Breaks reply) free old new h =
    let none : owed_in new.line ≡ 0 = ap owed_in h.0 in
    record { stream_is = ap socket_stream_of h.1; owes = omega (arith, none) }

same-keeps : (old new : Relay) → new.line ≡ old.line → new.socket ≡ old.socket → KeepsStream old new
same-keeps old new line socket =
    let same : owed_in new.line ≡ owed_in old.line = ap owed_in line in
    record { stream_is = ap socket_stream_of socket; owes = omega (arith, same) }

dials-keeps : (line : ChannelState) (free : Bool) (bytes : List ℕ) (old new : Relay)
    → ((dialog : DialogState) → line ≡ Dialing dialog → IsDialogReading dialog) → DialsIn line free bytes old new → KeepsStream old new
dials-keeps (Dialing dialog) free bytes old new reads h =
    comes-keeps (outcome_in (dialog.bytes ++ bytes)) free old new (h (reads dialog refl))
dials-keeps (Asked host port version) free bytes old new reads h = same-keeps old new h.0 h.1
dials-keeps (Opened version) free bytes old new reads h = same-keeps old new h.0 h.1
dials-keeps (Offered remote window maximum) free bytes old new reads h = same-keeps old new h.0 h.1
dials-keeps (Live live) free bytes old new reads h = same-keeps old new h.0 h.1
dials-keeps Over free bytes old new reads h = same-keeps old new h.0 h.1

-- a dialog that stands has given all replies, and wants more bytes
pub is-reading : (dials : Bool) (acts : List RelayAct) (r : Relay) → RelayRepresents dials acts r → (dialog : DialogState) → r.line ≡ Dialing dialog
    → IsDialogReading dialog
is-reading dials acts r s dialog e =
    let d : IsDialing dialog dials acts = subst (λ (l : ChannelState). LineStands l dials acts) e s.line in
    record {
      given = d.given ∙ ap (λ b. length (before_in b)) (sym d.bytes);
      wants = ap outcome_in d.bytes ∙ d.wants;
    }

pub keeps-stream : (dials free : Bool) (acts : List RelayAct) (bytes : List ℕ) (old new : Relay) → RelayRepresents dials acts old
    → Dials free bytes old new → KeepsStream old new
keeps-stream dials free acts bytes old new s h = dials-keeps old.line free bytes old new (is-reading dials acts old s) h

-- ---- what a socket accepts

owed-more : (n : ℕ) (live : LiveState) → (takes_more n live).owed ≤ live.owed + n
owed-more n live = owed-if live.close_sent live (record live { owed = live.owed + (n - live.replies); replies = live.replies - n }) (live.owed + n) (omega arith) (omega arith)

pub owed-takes : (n : ℕ) (line : ChannelState) → owed_in (takes_in n line) ≤ owed_in line + n
owed-takes n (Dialing dialog) = omega arith
owed-takes n (Asked host port version) = omega arith
owed-takes n (Opened version) = omega arith
owed-takes n (Offered remote window maximum) = omega arith
owed-takes n (Live live) = owed-more n live
owed-takes n Over = omega arith

-- ---- steps

pub connected-stream : (s : RelaySocket) → socket_stream_of (socket_connected s) ≡ socket_stream_of s
connected-stream (socket.Connecting stream) = refl
connected-stream (socket.Open stream) = refl
connected-stream socket.Unmade = refl
connected-stream (socket.Failed stream) = refl
connected-stream (socket.NoChannelLeft stream) = refl
connected-stream socket.Closed = refl

pub failing-stream : (s : RelaySocket) → socket_stream_of (failing s) ≡ socket_stream_of s
failing-stream (socket.Connecting stream) = refl
failing-stream (socket.Open stream) = refl
failing-stream socket.Unmade = refl
failing-stream (socket.Failed stream) = refl
failing-stream (socket.NoChannelLeft stream) = refl
failing-stream socket.Closed = refl
