-- What becomes of what a client sends in proxy mode. `own` are the client's rows so far: nothing
-- else is looked at.
use Rattle.std.specs.Prelude.{ℕ, ◌==◌, List, [], ◌∷◌, Option, Some, None, Ok, Err, Bool, true, false, not, ◌&&◌, length, find, nat_lt, nat_le}
use Rattle.ssh_grammar.specs.declared.side.Side.TheVariants.{Up}
use Rattle.ssh_grammar.specs.declared.fault.Breach.{Breach}
use Rattle.ssh_grammar.specs.declared.numbers.TheConstants.{DISCONNECT, REQUEST_SUCCESS, REQUEST_FAILURE, ADMINISTRATIVELY_PROHIBITED, UNKNOWN_CHANNEL_TYPE, RESOURCE_SHORTAGE}
use Rattle.ssh_grammar.specs.Messages.{Opens, Session, Direct, Global, Forward, Cancel, KeepAlive, OtherName}
use Rattle.ssh_grammar.specs.SpellMessage.{with_sender, open_failure, not_permitted, unknown_type, too_many_channels}
use Rattle.ssh_grammar.specs.Frames.{frame_payload}
use Rattle.mux_history.specs.declared.limits.TheConstants.{MAX_CHANNELS, MAX_FORWARDINGS, MAX_GLOBAL_REQUESTS}
use Rattle.mux_history.specs.declared.why.Why.{Why}
use Rattle.mux_history.specs.declared.why.Why.TheVariants as why
use Rattle.mux_history.specs.Summary.{Summary, Transport, Requests, Succeeds, Refuses, Open, Confirmation, Within, Act, Fails, read_summary}
use Rattle.mux_history.specs.Rows.{Row, any_of, Fate, Goes, Drop}
use Rattle.mux_history.specs.Channels.{Channel, held_of, is_confirmed, is_up, is_number, with_own}
use Rattle.mux_history.specs.Ledger.{breach}
use Rattle.mux_history.specs.Requests.{unanswered_asks}
use Rattle.mux_history.specs.Policy.{Policy, may_open, permits}
use Rattle.mux_history.specs.Keys.{is_askable}
use Rattle.mux_history.specs.Forwardings.{current, is_forwarding_free_at}

-- what an item does before answers, the queue's bound and the farewell: payloads up, frames down,
-- and a fate
pub record Outcome : Type 0 where
  pub sent : List (List ℕ)
  pub recorded : List (List ℕ)
  pub ends : Fate

-- nothing
abbrev pub silent : Outcome
silent = record { sent = []; recorded = []; ends = Goes }

-- one payload up
abbrev pub sends_payload : List ℕ → Outcome
sends_payload p = record { sent = p ∷ []; recorded = []; ends = Goes }

-- one frame down
abbrev pub records : List ℕ → Outcome
records frame = record { sent = []; recorded = frame ∷ []; ends = Goes }

-- the client is dropped
abbrev pub drops : Why → Outcome
drops cause = record { sent = []; recorded = []; ends = Drop cause }

-- ---- channels

-- a channel of this client that the server opened and that waits for the client's answer
abbrev pub waiting_at : List Row → ℕ → Option Channel
waiting_at own s =
    find (λ x. is_number x.remote s && (not (is_up x.by) && not (is_confirmed x))) (held_of own)

-- a confirmed channel of this client
abbrev pub confirmed_at : List Row → ℕ → Option Channel
confirmed_at own s = find (λ x. is_number x.remote s && is_confirmed x) (held_of own)

-- the open fails, which the master reports to the client
abbrev pub fails_open : ℕ → ℕ → List ℕ → Outcome
fails_open sender reason text = records (frame_payload (open_failure sender reason text))

-- sent with a fresh number at the sender's place
abbrev pub sends_as : ℕ → List ℕ → Outcome
sends_as pick p = sends_payload (with_sender p pick)

-- a client has at most 256 channels
abbrev pub sends_open : List Row → ℕ → List ℕ → ℕ → Outcome
sends_open own pick p sender = elim (nat_lt (length (held_of own)) MAX_CHANNELS) [
  | true ↦ sends_as pick p
  | false ↦ fails_open sender RESOURCE_SHORTAGE too_many_channels
]

-- why one that isn't permitted fails
abbrev pub reason_for : Opens → ℕ
reason_for Session = ADMINISTRATIVELY_PROHIBITED
reason_for (Direct key) = ADMINISTRATIVELY_PROHIBITED
reason_for _ = UNKNOWN_CHANNEL_TYPE

-- and with which text
abbrev pub text_for : Opens → List ℕ
text_for Session = not_permitted
text_for (Direct key) = not_permitted
text_for _ = unknown_type

-- permitted sessions and direct channels alone
abbrev pub open_outcome : Policy → List Row → ℕ → List ℕ → ℕ → Opens → Outcome
open_outcome policy own pick p sender what = elim (may_open policy what) [
  | true ↦ sends_open own pick p sender
  | false ↦ fails_open sender (reason_for what) (text_for what)
]

-- an open of the server must wait under this number
abbrev pub on_waiting : ℕ → Outcome → Option Channel → Outcome
on_waiting s o None = drops (why.NotYours s)
on_waiting s o (Some x) = o

-- a breach drops the client
abbrev pub on_breach : List ℕ → ℕ → Option Breach → Outcome
on_breach p s None = sends_payload p
on_breach p s (Some b) = drops (why.Channel s b)

-- a confirmed channel must have this number
abbrev pub on_confirmed : List ℕ → ℕ → Act → Option Channel → Outcome
on_confirmed p s act None = drops (why.NotYours s)
on_confirmed p s act (Some x) = on_breach p s (breach Up act x)

-- a failed open
abbrev pub is_failing : Act → Bool
is_failing Fails = true
is_failing _ = false

-- a failed open answers one that waits; all else is sent in a confirmed channel
abbrev pub sent_within : List Row → List ℕ → ℕ → Act → Outcome
sent_within own p s act = elim (is_failing act) [
  | true ↦ on_waiting s (sends_payload p) (waiting_at own s)
  | false ↦ on_confirmed p s act (confirmed_at own s)
]

-- the client's own number may not be in use
abbrev pub on_unused : ℕ → Outcome → Option Channel → Outcome
on_unused c o None = o
on_unused c o (Some x) = drops (why.OwnInUse c)

-- ---- global requests

-- what isn't sent is refused, as the row's answers say
abbrev pub sends_if : Bool → List ℕ → Outcome
sends_if true p = sends_payload p
sends_if false p = silent

-- a global request, by its name
abbrev pub sent_request : Policy → ℕ → List Row → List ℕ → Global → Bool → Outcome
sent_request policy k own p KeepAlive wants = sends_payload p
sent_request policy k own p OtherName wants = silent
sent_request policy k own p (Forward key) wants =
    sends_if (wants && (is_askable key
    && (permits policy.listens key && nat_lt (length (current own)) MAX_FORWARDINGS))) p
sent_request policy k own p (Cancel key) wants =
    sends_if (any_of (is_forwarding_free_at k key) (current own)) p

-- one wanted request too many
abbrev pub is_full_of_asks : Bool → List Row → Bool
is_full_of_asks wants own = wants && nat_le MAX_GLOBAL_REQUESTS (unanswered_asks own)

-- ---- all messages

-- a message, by its number
abbrev pub sent_summary : Policy → ℕ → List Row → ℕ → List ℕ → Summary → Outcome
sent_summary policy k own pick p (Transport number) = elim (number == DISCONNECT) [
  | true ↦ drops why.Disconnected
  | false ↦ silent
]
sent_summary policy k own pick p (Requests what wants) = elim (is_full_of_asks wants own) [
  | true ↦ drops (why.TooManyAsks MAX_GLOBAL_REQUESTS)
  | false ↦ sent_request policy k own p what wants
]
sent_summary policy k own pick p (Succeeds rest) = drops (why.Unasked REQUEST_SUCCESS)
sent_summary policy k own pick p Refuses = drops (why.Unasked REQUEST_FAILURE)
sent_summary policy k own pick p (Open what sender window maximum) =
    on_unused sender (open_outcome policy own pick p sender what) (with_own own sender)
sent_summary policy k own pick p (Confirmation s sender window maximum) =
    on_waiting s (on_unused sender (sends_as pick p) (with_own own sender)) (waiting_at own s)
sent_summary policy k own pick p (Within s act) = sent_within own p s act

-- a payload; one that does not read drops the client
abbrev pub sent_payload : Policy → ℕ → List Row → ℕ → List ℕ → Outcome
sent_payload policy k own pick p = elim (read_summary p) [
  | Err bad ↦ drops (why.BadMessage bad)
  | Ok m ↦ sent_summary policy k own pick p m
]
