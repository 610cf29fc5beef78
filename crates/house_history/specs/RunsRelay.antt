-- What a run of the program with a forwarder does for its relays and for the requests of its
-- clients: all that house_forward's laws say of any calls, of the calls that the run hands to it.
use Rattle.std.specs.Prelude.{◌≡◌, ◌≢◌, ◌⊎◌, ◌≤◌, ◌<◌, ◌+◌, ◌-◌, ◌*◌, ◌^◌, ℕ, Bool, true, false, List, [], ◌∷◌, ◌++◌, ◌==◌, get_or, length, slice_get, IfSome, IsTrue, Option, Some, None}
use Rattle.std.specs.List.{All, AllPairs, filter_map, sum_by}
use Rattle.ssh_grammar.specs.SpellMessage.{close}
use Rattle.ssh_grammar.specs.declared.numbers.TheConstants.{CHANNEL_CLOSE}
use Rattle.mux_outside.specs.House.{HouseState}
use Rattle.mux_outside.specs.HouseCalls.{HouseCall, Receives}
use Rattle.mux_outside.specs.OwnStreams.{numbers_of}
use Rattle.mux_outside.specs.Seen.{Seen}
use Rattle.mux_outside.specs.declared.house.HouseReply.{HouseReply}
use Rattle.mux_outside.specs.declared.house.HouseReply.TheVariants.{Refused}
use Rattle.mux_outside.specs.declared.house_mark.HouseMark.{HouseMark}
use Rattle.mux_outside.specs.declared.house_mark.HouseMark.TheVariants.{HouseOrder, HouseSaid}
use Rattle.mux_outside.specs.declared.mark.Mark.{Mark}
use Rattle.mux_outside.specs.declared.mark.Mark.TheVariants.{House, Joins}
use Rattle.mux_outside.specs.declared.order.Order.TheVariants as order
use Rattle.mux_outside.specs.declared.own_streams.OwnStream.{OwnStream}
use Rattle.mux_outside.specs.declared.piece.TheConstants.{LONGEST_PIECE}
use Rattle.mux_outside.specs.declared.start_ask.StartAsk.{StartAsk}
use Rattle.mux_outside.specs.declared.starts.Starts.{Starts}
use Rattle.mux_history.specs.declared.ended.Ended.{Ended}
use Rattle.mux_history.specs.declared.ended.Ended.TheVariants.{OutOfMemory}
use Rattle.mux_history.specs.declared.limits.TheConstants.{HOUSE}
use Rattle.mux_history.specs.Journal.{bytes_of, is_own_stream, log_of_journal, taken_by}
use Rattle.mux_history.specs.Pending.{given_to, joined, pending}
use Rattle.mux_history.specs.Policy.{Policy}
use Rattle.mux_history.specs.Rows.{Row, is_lost, rows_of}
use Rattle.mux_engine.specs.Called.{calls_in}
use Rattle.mux_engine.specs.Places.{listeners_in, own_in}
use Rattle.mux_engine.specs.Run.{IsRun, setting_of}
use Rattle.house_relay.specs.Acts.{RelayAct, adjusted, read_after_dialog, delivered, read, received_close, received_eof, dialog_replies, all_data_sent, was_close_sent, sent_eof, socket_has_ended, accepted_length, taken_data, socket_accepted}
use Rattle.house_relay.specs.Relay.{is_broken}
use Rattle.house_relay.specs.declared.TheConstants.{WINDOW}
use Rattle.house_relay.specs.declared.line.Live.{Live as LiveState}
use Rattle.house_relay.specs.declared.line.ChannelState.TheVariants.{Live}
use Rattle.house_forward.specs.Causes.{AnswerHasCause, AwaitsReply, CancelsAsked, EndsAsked, EndsCancel, ForwarderIsAtRest, IsGrant, IsRequestRefused, IsRequestServed}
use Rattle.house_forward.specs.Closing.{IsCloseOf}
use Rattle.house_forward.specs.Confirming.{IsConfirmationOf, IsFailureOf, is_confirmation, is_failure}
use Rattle.house_forward.specs.Connects.{connects_in, still_to_connect, accepted_places_in as opens_taken_in}
use Rattle.house_forward.specs.ForwarderEvents.{Answers, Asks, ForwarderEvent, Happen, Leave, Replies, Requests, Unlistens}
use Rattle.house_forward.specs.Forwardings.{first_forwarding_request, forwarding_request_of, listeners_of}
use Rattle.house_forward.specs.Greeting.{GreetsOnce, sent_in}
use Rattle.house_forward.specs.Laws.{KeepsWindow, Rests}
use Rattle.house_forward.specs.Numbers.{made_by_mark, open_streams, relay_channels_of}
use Rattle.house_forward.specs.Opening.{IsOneJoined, IsOpenOf, is_open_message, openers_in, openers_left, opens_in}
use Rattle.house_forward.specs.RelayTraces.{Life, Trace, first_trace, accepted_length_in}
use Rattle.house_forward.specs.Said.{framed}
use Rattle.house_forward.specs.Starting.{IsRecorded, WasRefused, WasServed}
use Rattle.house_forward.specs.declared.forwarding.Forwarding.{Forwarding}
use Rattle.house_forward.specs.declared.forwarding.ForwardingRequest.TheVariants.{Cancel}
use Rattle.ssh_mux.specs.Starts.{BeganWith, BegunRests}
use Rattle.house_history.specs.Moments.{AtEachEvent, WhereverMarked, AtEachMoment, AtEachRead, ForwarderRun, HasMoments, IsMoment, calls_up_to}

-- ---- bytes

-- What one relay carries.
--
-- - What was sent in its channel, then what it holds, are the bytes that its socket gave after its
--   dialog.
-- - What its socket accepted, then what waits for it, are the dialog's replies, then what was
--   delivered in its channel.
-- - No more room is given back than data was accepted.
-- - EOF is sent only after the socket's end, with nothing held.
-- - At most 65,536 bytes are held.
pub record CarriesBytes (l : Life) : Type 0 where
  pub sends : all_data_sent l.acts ++ l.relay.held.waiting ≡ read_after_dialog l.dials l.acts
  pub accepts : socket_accepted l.acts ++ l.relay.queue.waiting ≡ dialog_replies l.dials l.acts ++ delivered l.acts
  pub grants : adjusted l.acts ≤ taken_data l.dials l.acts
  pub last : IsTrue (sent_eof l.acts)
      → IsTrue (socket_has_ended l.acts) × (l.relay.held.waiting ≡ [])
  pub few : length l.relay.held.waiting ≤ LONGEST_PIECE

-- the number of the own stream that a mark opens, if it opens one
abbrev pub stream_opened_at : Mark → Option ℕ
stream_opened_at (Joins listener stream) = Some stream
stream_opened_at (House mark) = made_by_mark mark
stream_opened_at mark = None

-- what was read and accepted are the bytes that this stream gave and accepted in the journal since
-- a mark opened it
pub record IsOfSocket (journal : List Mark) (t : ℕ) (acts : List RelayAct) : Type 0 where
  pub since : List Mark
  pub opening : Mark
  pub before : List Mark
  pub are : journal ≡ since ++ opening ∷ before
  pub opens : stream_opened_at opening ≡ Some t
  pub gave : read acts ≡ bytes_of t since
  pub accepted : socket_accepted acts ≡ taken_by t since

-- the same of a relay and its stream, while that is open, if its number is that of an own stream, as
-- each is that a wire gives
abbrev pub HasItsSocket : List Mark → Life → Type 0
HasItsSocket journal l = IfSome l.own (λ own. is_own_stream own.number ≡ true
    → IsOfSocket journal own.number l.acts)

-- What waits for the socket of one relay.
--
-- - No more data was delivered in its channel than a window, and the room that was given back.
-- - At most a window and what is left of the dialog's replies wait for its socket.
pub record StaysInWindow (l : Life) : Type 0 where
  pub delivers : KeepsWindow l.acts
  pub waits : length l.relay.queue.waiting
      ≤ WINDOW + (length (dialog_replies l.dials l.acts) - accepted_length l.acts)

-- the replies of a dialog: 2 bytes for its methods, and 10 for its outcome
abbrev pub longest_replies : ℕ
longest_replies = 12

-- at most so many bytes wait for one own stream: 2,097,164
abbrev pub longest_own_queue : ℕ
longest_own_queue = WINDOW + longest_replies

-- how many bytes wait for the stream of a relay, while it is open
abbrev pub waiting_if : Option OwnStream → ℕ → ℕ
waiting_if None size = 0
waiting_if (Some own) size = size

abbrev pub waiting_for : Life → ℕ
waiting_for l = waiting_if l.own (length l.relay.queue.waiting)

-- At each moment of a run.
--
-- - Each relay carries its bytes, also one of which nothing is left.
-- - What a relay read and has as accepted are the bytes that its own stream gave and accepted.
-- - At most a window and what is left of the dialog's replies wait for its socket, whatever the
--   server sends.
-- - For all own streams that are open at most so many times 2,097,164 bytes wait.
-- - The streams of the relays are exactly the own streams that the journal leaves open. No two
--   relays have one stream, and no two have one channel number.
pub record CarriesAll (run : ForwarderRun) : Type 0 where
  pub relays : AtEachMoment run (λ earlier trace. All CarriesBytes (trace.relay_traces ++ trace.past))
  pub sockets : AtEachMoment run (λ earlier trace. All (HasItsSocket earlier) trace.relay_traces)
  pub bounded : AtEachMoment run (λ earlier trace. All StaysInWindow (trace.relay_traces ++ trace.past))
  pub bounded_in_all : AtEachMoment run (λ earlier trace.
      sum_by waiting_for trace.relay_traces ≤ length (own_in earlier) * longest_own_queue)
  pub streams : AtEachMoment run (λ earlier trace.
      open_streams trace.relay_traces ≡ numbers_of (own_in earlier))
  pub apart : AtEachMoment run (λ earlier trace.
      AllPairs (λ a b. a ≢ b) (open_streams trace.relay_traces))
  pub channels : AtEachMoment run (λ earlier trace.
      AllPairs (λ a b. a ≢ b) (relay_channels_of trace.relay_traces))

-- ---- what it sends and receives as a client

-- the bytes that the forwarder received by a call, and by all of them
abbrev pub received_by_call : HouseCall → List ℕ
received_by_call (Receives bytes) = bytes
received_by_call call = []

abbrev pub received_in_calls : List HouseCall → List ℕ
received_in_calls [] = []
received_in_calls (call ∷ calls) = received_by_call call ++ received_in_calls calls

-- At each moment of a run.
--
-- - The pieces that the forwarder sent are all that the journal has of it as a client.
-- - What it received, then what waits for it, is what the rows give it as a client.
pub record RunSpeaksRight (run : ForwarderRun) : Type 0 where
  pub sends : AtEachMoment run (λ earlier trace.
      joined (sent_in (calls_up_to run earlier)) ≡ bytes_of HOUSE earlier)
  pub receives : AtEachMoment run (λ earlier trace.
      received_in_calls (calls_up_to run earlier) ++ pending HOUSE (log_of_journal run.setting earlier)
      ≡ given_to HOUSE (log_of_journal run.setting earlier))

-- ---- connections

-- whether what is sent is a CLOSE: its payload begins after the length and the padding of its frame
abbrev pub is_close : List ℕ → Bool
is_close bytes = get_or bytes 5 0 == CHANNEL_CLOSE

-- EOF went both ways, and nothing waits for the socket
pub record HasFinished (l : Life) : Type 0 where
  pub eof_sent_so : sent_eof l.acts ≡ true
  pub eof_received_so : received_eof l.acts ≡ true
  pub none_waits : l.relay.queue.waiting ≡ []

-- What is sent is the CLOSE of one of the relays. Its socket failed or is closed, or CLOSE was
-- received, or it has finished. Of what was read exactly what it holds wasn't sent, at most 65,536
-- bytes, and is lost.
pub record IsChannelCloseOf (relay_traces : List Life) (bytes : List ℕ) : Type 0 where
  pub front : List Life
  pub life : Life
  pub others : List Life
  pub live : LiveState
  pub were : relay_traces ≡ front ++ life ∷ others
  pub line : life.relay.line ≡ Live live
  pub says : bytes ≡ framed (close live.remote)
  pub cause : (is_broken life.relay.socket ≡ true)
      ⊎ ((received_close life.acts ≡ true) ⊎ HasFinished life)
  pub lost : read_after_dialog life.dials life.acts ≡ all_data_sent life.acts ++ life.relay.held.waiting
  pub few : length life.relay.held.waiting ≤ LONGEST_PIECE

-- Opens, connects and closes.
--
-- - Each OPEN that is sent, or still to be, is of a socket that was accepted, and no two are of
--   one. It goes where the forwarding of its listener connects, or where its dialog asked.
-- - For each forwarded open that is accepted one Connect is ordered, to that forwarding's target, in
--   their order, or is still to be; and none besides.
-- - An open of the server is confirmed only once the socket of its Connect is writable. It is
--   refused only where that Connect got no number, or its stream failed.
-- - A stream is closed only where it failed; or nothing waits for it and its channel ended, its OPEN
--   was refused, or its dialog broke or ended; or there was no channel, dialog or forwarding for it.
-- - CLOSE is sent in a channel only where its socket failed or is closed, CLOSE was received, or EOF
--   went both ways and nothing waits. What the relay holds then is what is lost.
pub record ConnectsRight (run : ForwarderRun) : Type 0 where
  pub recorded : (earlier : List Mark) (trace : Trace) (moment : IsMoment run earlier trace)
      → length (openers_in (calls_up_to run earlier) first_trace trace moment.reached)
      ≡ opens_in (calls_up_to run earlier)
  pub joined : (earlier : List Mark) (trace : Trace) (moment : IsMoment run earlier trace)
      → All (IsOneJoined (calls_up_to run earlier))
      (openers_in (calls_up_to run earlier) first_trace trace moment.reached
      ++ openers_left trace.relay_traces)
  pub once : (earlier : List Mark) (trace : Trace) (moment : IsMoment run earlier trace)
      → AllPairs (λ a b. a ≢ b)
      (openers_in (calls_up_to run earlier) first_trace trace moment.reached
      ++ openers_left trace.relay_traces)
  pub goes : (bytes : List ℕ) → WhereverMarked run (HouseSaid bytes) (λ calls trace.
      is_open_message bytes ≡ true → IsOpenOf calls trace.relay_traces bytes)
  pub connects : (earlier : List Mark) (trace : Trace) (moment : IsMoment run earlier trace)
      → opens_taken_in (calls_up_to run earlier) first_trace trace moment.reached
      ≡ connects_in (calls_up_to run earlier) ++ still_to_connect trace.relay_traces
  pub confirms : (bytes : List ℕ) → WhereverMarked run (HouseSaid bytes) (λ calls trace.
      is_confirmation bytes ≡ true → IsConfirmationOf calls trace.relay_traces bytes)
  pub refuses : (bytes : List ℕ) → WhereverMarked run (HouseSaid bytes) (λ calls trace.
      is_failure bytes ≡ true → IsFailureOf calls trace.relay_traces bytes)
  pub closes : (t : ℕ) (number : Option ℕ) → WhereverMarked run (HouseOrder (order.Close t) number)
      (λ calls trace. IsCloseOf calls trace.relay_traces t)
  pub ends : (bytes : List ℕ) → WhereverMarked run (HouseSaid bytes) (λ calls trace.
      is_close bytes ≡ true → IsChannelCloseOf trace.relay_traces bytes)

-- ---- requests

-- What the requests to open and close get, and what is sent and closed for them.
--
-- - At each moment it is known what happened: it is what the forwarder's marks and the server's
--   replies record, in order.
-- - A request that is granted at once is for a forwarding that has a listener, or that the server
--   granted. One that is refused at once has a cause of the rules. A later reply has its cause in
--   what happened since the request.
-- - A listener is closed, and a cancel sent, only for a forwarding that a client requested to close,
--   which has no reply yet. The server's reply to a cancel decides that request.
-- - The first piece that is sent is HELLO and PROXY, and each later one a frame of the forwarder.
pub record AnswersRight (run : ForwarderRun) : Type 0 where
  pub happened : AtEachMoment run (λ earlier trace. (events : List ForwarderEvent)
      × Happen first_trace (calls_up_to run earlier) events trace
      × Leave events trace.forwarding_state)
  pub served : (client id : ℕ) (opening : Bool) (ask : StartAsk) (reply : HouseReply)
      → AtEachEvent run (Asks client id opening ask reply) (λ before old new.
      IsGrant reply → IsRequestServed opening ask reply old.all before)
  pub refused : (client id : ℕ) (opening : Bool) (ask : StartAsk)
      → AtEachEvent run (Asks client id opening ask Refused) (λ before old new.
      IsRequestRefused client id opening ask old)
  pub answered : (client id : ℕ) (reply : HouseReply)
      → AtEachEvent run (Answers client id reply) (λ before old new.
      AnswerHasCause client id reply before)
  pub unlistens : (l : ℕ) → AtEachEvent run (Unlistens l) (λ before old new.
      EndsAsked l before old new)
  pub cancels : (f : Forwarding) → AtEachEvent run (Requests f) (λ before old new.
      forwarding_request_of f ≡ Cancel f.serial → CancelsAsked f old.waiting before)
  pub cancelled : (success : Bool) (port : Option ℕ) (serial : ℕ)
      → AtEachEvent run (Replies success port) (λ before old new.
      first_forwarding_request old.requests ≡ Some (Cancel serial) → EndsCancel serial success before old new)
  pub greets : AtEachMoment run (λ earlier trace. GreetsOnce (sent_in (calls_up_to run earlier)))

-- ---- at rest

-- a forwarding of the start was refused, and that is recorded, or it has begun
abbrev pub StartHasBegun : Starts → List ForwarderEvent → Option ℕ → ℕ → StartAsk → Type 0
StartHasBegun starts events first i ask =
    (WasRefused starts i ask × IsRecorded first i) ⊎ WasServed starts ask events

-- in a channel that is confirmed and in which no CLOSE was sent, room is given back for all data
-- that the socket accepted
abbrev pub HasGrantedAll : Life → Type 0
HasGrantedAll l = (live : LiveState) → l.relay.line ≡ Live live → was_close_sent l.acts ≡ false
    → adjusted l.acts ≡ taken_data l.dials l.acts

-- Before a wait at which more is read.
--
-- - The streams of the relays are the own streams that the journal leaves open, paused, finished and
--   ended as it leaves them; the listeners of the forwardings are those that it leaves open.
-- - Each relay is at rest, and so is its stream: nothing is to be sent in its channel, and nothing
--   to be ordered of its stream. Room is given back for all data that its socket accepted.
-- - There is no request to send, no listener to order or to close, and no answer to give. Each
--   request of a client that has no answer waits for the server.
-- - Each forwarding of the start was refused, or its listener was ordered or its request sent.
pub record RestsAt (run : ForwarderRun) (earlier : List Mark) (trace : Trace) : Type 0 where
  pub streams : filter_map (λ l. l.own) trace.relay_traces ≡ own_in earlier
  pub listeners : listeners_of trace.forwarding_state.all ≡ listeners_in earlier
  pub relays : All Rests trace.relay_traces
  pub granted : All HasGrantedAll trace.relay_traces
  pub requests : ForwarderIsAtRest trace.forwarding_state
  pub awaits : All (AwaitsReply trace.forwarding_state.requests) trace.forwarding_state.waiting
  pub begun : (i : ℕ) (ask : StartAsk) → slice_get run.starts.asks i ≡ Some ask
      → (events : List ForwarderEvent)
      × Happen first_trace (calls_up_to run earlier) events trace
      × StartHasBegun run.starts events trace.forwarding_state.refused i ask

-- ---- runs of the program

-- What a run does, which ended so.
--
-- - Unless memory ran out, its calls lead to a trace at each moment.
-- - At each moment its relays carry their bytes, what it sends and receives as a client is what the
--   journal and the rows have of it, each connection goes where its forwarding says, and what each
--   request gets has its cause.
-- - At each wait at which more is read, all of it is at rest.
-- - Unless memory ran out, no row drops the forwarder.
pub record RelaysRight (answer : Ended) (rows : List Row) (run : ForwarderRun) : Type 0 where
  pub moments : answer ≢ OutOfMemory → HasMoments run
  pub carries : CarriesAll run
  pub speaks : RunSpeaksRight run
  pub connects : ConnectsRight run
  pub answers : AnswersRight run
  pub rests : AtEachRead run (RestsAt run)
  pub stays : answer ≢ OutOfMemory → is_lost (rows_of HOUSE rows) ≡ false

-- this is so of each run of the program that leaves this of its forwarder, which began with some
-- forwardings, unless its own streams accepted 2^64 bytes or more
abbrev pub RunsRelay : {T : Type 0} → (HouseReply → Type 0) → (T → HouseState) → HouseState → Type 0
RunsRelay May state left = (starts : Starts) (policy : Policy) (pid turns : ℕ)
    (before : Option (List HouseMark)) (start : Option (List Mark)) (seen : Seen)
    (refused : Option ℕ) (answer : Ended)
    → (run : IsRun May (BegunRests state true starts).rests (BeganWith starts)
    left true policy pid turns before left.recorded start seen refused answer)
    → accepted_length_in (calls_in (setting_of policy pid run.choices) run.wire.journal) < 2 ^ 64
    → RelaysRight answer run.log.rows (record {
      setting = setting_of policy pid run.choices;
      starts = starts;
      journal = run.wire.journal;
    })
