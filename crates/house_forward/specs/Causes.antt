-- Why requests get their replies and answers, by what happened before.
use Rattle.std.specs.Prelude.{◌≡◌, ◌≢◌, ◌⊎◌, ◌≤◌, ℕ, Bool, true, false, ◌==◌, ◌&&◌, List, [], ◌∷◌, ◌++◌, drop, find, IfSome, Option, Some, None}
use Rattle.std.specs.List.{All, AllPairs, list_any, Contains}
use Rattle.mux_outside.specs.Streams.{among, without}
use Rattle.mux_outside.specs.declared.house.HouseReply.{HouseReply}
use Rattle.mux_outside.specs.declared.house.HouseReply.TheVariants as given
use Rattle.mux_outside.specs.declared.start_ask.StartAsk.{StartAsk}
use Rattle.house_forward.specs.Asks.{turns_away, request_waiting_for}
use Rattle.house_forward.specs.ForwarderEvents.{ForwarderEvent, Does, Leave}
use Rattle.house_forward.specs.ForwarderEvents.{Begins, Asks, Answers, Greets, Requests, Replies, Listens, Unlistens}
use Rattle.house_forward.specs.ForwardingState.{ForwardingState}
use Rattle.house_forward.specs.Forwardings.{first_forwarding_request, outcome_of_grant, bound_port, forwarding_request_of, forwarding_outcome_of, reply_to, standing, connects_same_end, how_many, has_request, next_listener_order, listener_of, listeners_of, listeners_made, is_asked_or_live}
use Rattle.house_forward.specs.Quiet.{answers_none}
use Rattle.house_forward.specs.Rules.{AreEnds, kind_of, listen_host, listens_here, connects_there, is_refused_alone, rules_of, first_rules, is_unpermitted}
use Rattle.house_forward.specs.declared.asks.ImmediateOutcome.TheVariants.{Now}
use Rattle.house_forward.specs.declared.asks.RequestOutcome.{RequestOutcome}
use Rattle.house_forward.specs.declared.asks.RequestOutcome.TheVariants.{Done, Refused}
use Rattle.house_forward.specs.declared.asks.Waiting.{Waiting}
use Rattle.house_forward.specs.declared.forwarding.Forwarding.{Forwarding}
use Rattle.house_forward.specs.declared.forwarding.ForwardingRequest.{ForwardingRequest}
use Rattle.house_forward.specs.declared.forwarding.ForwardingRequest.TheVariants.{Listen, Cancel}
use Rattle.house_forward.specs.declared.forwarding.Stage.{Stage}
use Rattle.house_forward.specs.declared.forwarding.Stage.TheVariants.{ToListen, Ordered, Listening, ToRequest, Requested, Live, Cancelling}
use Rattle.house_forward.specs.declared.rules.Ends.{Ends}
use Rattle.house_forward.specs.declared.rules.ListenRules.{ListenRules}
use Rattle.house_forward.specs.declared.rules.TheConstants.{MOST_FORWARDINGS}

-- ---- what happened

-- the rules of listening here: the latest start says them
abbrev pub rules_in : List ForwarderEvent → ListenRules
rules_in [] = first_rules
rules_in (Begins starts ∷ forwarder_events) = rules_of starts
rules_in (Asks client id opening ask reply ∷ forwarder_events) = rules_in forwarder_events
rules_in (Answers client id reply ∷ forwarder_events) = rules_in forwarder_events
rules_in (Greets ∷ forwarder_events) = rules_in forwarder_events
rules_in (Requests f ∷ forwarder_events) = rules_in forwarder_events
rules_in (Replies success port ∷ forwarder_events) = rules_in forwarder_events
rules_in (Listens host port number ∷ forwarder_events) = rules_in forwarder_events
rules_in (Unlistens l ∷ forwarder_events) = rules_in forwarder_events

-- the forwardings whose requests were sent and have no reply yet, as they were then: a reply of the
-- server is to the first
abbrev pub unanswered_requests : List ForwarderEvent → List Forwarding
unanswered_requests [] = []
unanswered_requests (Begins starts ∷ forwarder_events) = unanswered_requests forwarder_events
unanswered_requests (Asks client id opening ask reply ∷ forwarder_events) = unanswered_requests forwarder_events
unanswered_requests (Answers client id reply ∷ forwarder_events) = unanswered_requests forwarder_events
unanswered_requests (Greets ∷ forwarder_events) = unanswered_requests forwarder_events
unanswered_requests (Requests f ∷ forwarder_events) = unanswered_requests forwarder_events ++ f ∷ []
unanswered_requests (Replies success port ∷ forwarder_events) = drop 1 (unanswered_requests forwarder_events)
unanswered_requests (Listens host port number ∷ forwarder_events) = unanswered_requests forwarder_events
unanswered_requests (Unlistens l ∷ forwarder_events) = unanswered_requests forwarder_events

-- whether this listener is closed
abbrev pub closes_listener : ℕ → ForwarderEvent → Bool
closes_listener l (Begins starts) = false
closes_listener l (Asks client id opening ask reply) = false
closes_listener l (Answers client id reply) = false
closes_listener l Greets = false
closes_listener l (Requests f) = false
closes_listener l (Replies success port) = false
closes_listener l (Listens host port number) = false
closes_listener l (Unlistens k) = l == k

-- whether this is the answer to a client's ask with this id
abbrev pub is_answer_to : ℕ → ℕ → ForwarderEvent → Bool
is_answer_to client id (Begins starts) = false
is_answer_to client id (Asks c i opening ask reply) = false
is_answer_to client id (Answers c i reply) = (client == c) && (id == i)
is_answer_to client id Greets = false
is_answer_to client id (Requests f) = false
is_answer_to client id (Replies success port) = false
is_answer_to client id (Listens host port number) = false
is_answer_to client id (Unlistens l) = false

-- ---- a forwarding

-- both are one forwarding, at two times
pub record AreOne (f g : Forwarding) : Type 0 where
  pub serial : f.serial ≡ g.serial
  pub kind : f.kind ≡ g.kind
  pub listens : f.listen_host ≡ g.listen_host
  pub listen_port : f.listen_port ≡ g.listen_port
  pub connects : f.connect_host ≡ g.connect_host
  pub connect_port : f.connect_port ≡ g.connect_port

-- a request is for this forwarding: it listens where the request specifies; and one to open is
-- connected where the request specifies, if that is specified in it
pub record IsFor (rules : ListenRules) (opening : Bool) (ask : StartAsk) (f : Forwarding) : Type 0 where
  pub kind : kind_of ask.kind ≡ Some f.kind
  pub listens : f.listen_host ≡ listen_host f.kind rules.gateway ask.listen_host
  pub listen_port : f.listen_port ≡ ask.listen_port
  pub connects : opening ≡ true → connects_there f.kind ≡ true
      → (f.connect_host ≡ ask.connect_host) × (f.connect_port ≡ ask.connect_port)

-- a listener was made at this host and port, and was not closed since
pub record ListensSince (host : List ℕ) (port l : ℕ) (forwarder_events : List ForwarderEvent) : Type 0 where
  pub later : List ForwarderEvent
  pub earlier : List ForwarderEvent
  pub were : forwarder_events ≡ later ++ Listens host port (Some l) ∷ earlier
  pub open_yet : list_any (closes_listener l) later ≡ false

-- the first request that has no reply is this one, for this forwarding, which the server is to
-- listen for
pub record IsNextRequest (what : ℕ → ForwardingRequest) (f : Forwarding) (forwarder_events : List ForwarderEvent) : Type 0 where
  pub first : Forwarding
  pub others : List Forwarding
  pub were : unanswered_requests forwarder_events ≡ first ∷ others
  pub is : AreOne f first
  pub asks : forwarding_request_of first ≡ what first.serial
  pub there : listens_here f.kind ≡ false

-- the server replied that it listens for it on this port: it granted the request to listen
pub record IsGranted (f : Forwarding) (port : ℕ) (forwarder_events : List ForwarderEvent) : Type 0 where
  pub chosen : Option ℕ
  pub later : List ForwarderEvent
  pub earlier : List ForwarderEvent
  pub were : forwarder_events ≡ later ++ Replies true chosen ∷ earlier
  pub next : IsNextRequest Listen f earlier
  pub bound : port ≡ bound_port f.listen_port chosen

-- it is served: it has a listener, or the server listens for it
abbrev pub ServesAt : Stage → Forwarding → List ForwarderEvent → Type 0
ServesAt (ToListen host) f forwarder_events = ⊥
ServesAt Ordered f forwarder_events = ⊥
ServesAt (Listening l) f forwarder_events =
    (listens_here f.kind ≡ true) × ListensSince f.listen_host f.listen_port l forwarder_events
ServesAt ToRequest f forwarder_events = ⊥
ServesAt Requested f forwarder_events = ⊥
ServesAt (Live port) f forwarder_events = (listens_here f.kind ≡ false) × IsGranted f port forwarder_events
ServesAt (Cancelling port) f forwarder_events = (listens_here f.kind ≡ false) × IsGranted f port forwarder_events

-- ---- what a request gets at once

-- Done, or a port
abbrev pub IsGrant : HouseReply → Type 0
IsGrant given.Done = Unit {0}
IsGrant (given.Port port) = Unit {0}
IsGrant given.Refused = ⊥
IsGrant given.Later = ⊥

-- A request to open that gets Done or a port at once. The very forwarding that it is for is there.
-- It has a listener that isn't to be closed or is live, and gives the port where the server was to
-- choose one.
pub record IsRequestServed (opening : Bool) (ask : StartAsk) (reply : HouseReply) (all : List Forwarding)
    (forwarder_events : List ForwarderEvent) : Type 0 where
  pub opens : opening ≡ true
  pub forwarding : Forwarding
  pub outcome : RequestOutcome
  pub stands : Contains all forwarding
  pub is_for : IsFor (rules_in forwarder_events) true ask forwarding
  pub counts_yet : is_asked_or_live forwarding ≡ true
  pub serves : ServesAt forwarding.stage forwarding forwarder_events
  pub comes : forwarding_outcome_of forwarding ≡ Some outcome
  pub replies : reply ≡ reply_to (Now outcome)

-- each that does
abbrev pub EachServed : Type 0
EachServed = (client id : ℕ) (opening : Bool) (ask : StartAsk) (reply : HouseReply) (forwarder_events : List ForwarderEvent)
    (old new : ForwardingState) → Leave forwarder_events old → Does (Asks client id opening ask reply) old new → IsGrant reply
    → IsRequestServed opening ask reply old.all forwarder_events

-- ---- the later outcome of a request

-- where its listener was made, those that asked for it get Done; where none could be, all that asked
-- are refused
abbrev pub ListenerMadeBy : Option ℕ → Bool → RequestOutcome → Type 0
ListenerMadeBy None opening outcome = outcome ≡ Refused
ListenerMadeBy (Some l) true outcome = outcome ≡ Done
ListenerMadeBy (Some l) false outcome = ⊥

-- a success makes it live, with the port where the server was to choose one, or ends it; a failure
-- refuses it to all that asked, or lets it live
abbrev pub RepliedBy : Bool → Option ℕ → List ForwarderEvent → Bool → Forwarding → RequestOutcome → Type 0
RepliedBy true port earlier true f outcome = IsNextRequest Listen f earlier
    × (outcome ≡ outcome_of_grant f.listen_port (bound_port f.listen_port port))
RepliedBy true port earlier false f outcome = IsNextRequest Cancel f earlier × (outcome ≡ Done)
RepliedBy false port earlier true f outcome = IsNextRequest Listen f earlier × (outcome ≡ Refused)
RepliedBy false port earlier false f outcome =
    (IsNextRequest Listen f earlier ⊎ IsNextRequest Cancel f earlier) × (outcome ≡ Refused)

-- as its listener was closed, those that asked for that get Done
abbrev pub ClosedBy : Bool → RequestOutcome → Type 0
ClosedBy true outcome = ⊥
ClosedBy false outcome = outcome ≡ Done

-- those that requested to open or to close it had this outcome by this event, after the earlier
-- ones
abbrev pub CameBy : ForwarderEvent → List ForwarderEvent → Bool → Forwarding → RequestOutcome → Type 0
CameBy (Begins starts) earlier opening f outcome = ⊥
CameBy (Asks client id opens ask reply) earlier opening f outcome = ⊥
CameBy (Answers client id reply) earlier opening f outcome = ⊥
CameBy Greets earlier opening f outcome = ⊥
CameBy (Requests g) earlier opening f outcome = ⊥
CameBy (Replies success port) earlier opening f outcome =
    RepliedBy success port earlier opening f outcome
CameBy (Listens host port number) earlier opening f outcome = (host ≡ f.listen_host)
    × (port ≡ f.listen_port) × (listens_here f.kind ≡ true) × ListenerMadeBy number opening outcome
CameBy (Unlistens l) earlier opening f outcome = (listens_here f.kind ≡ true)
    × ListensSince f.listen_host f.listen_port l earlier × ClosedBy opening outcome

-- an answer: its request had none yet, and has this outcome by what happened since, to the
-- forwarding that it is for
pub record AnswerHasCause (client id : ℕ) (reply : HouseReply) (forwarder_events : List ForwarderEvent) : Type 0 where
  pub opening : Bool
  pub ask : StartAsk
  pub forwarding : Forwarding
  pub outcome : RequestOutcome
  pub later : List ForwarderEvent
  pub forwarder_event : ForwarderEvent
  pub between : List ForwarderEvent
  pub earlier : List ForwarderEvent
  pub were : forwarder_events ≡ later ++ forwarder_event ∷ (between ++ Asks client id opening ask given.Later ∷ earlier)
  pub open_yet : list_any (is_answer_to client id) (later ++ forwarder_event ∷ between) ≡ false
  pub is_for : IsFor (rules_in earlier) opening ask forwarding
  pub came : CameBy forwarder_event (between ++ Asks client id opening ask given.Later ∷ earlier) opening
      forwarding outcome
  pub replies : reply ≡ reply_to (Now outcome)

-- each has its cause
abbrev pub EachAnswer : Type 0
EachAnswer = (client id : ℕ) (reply : HouseReply) (forwarder_events : List ForwarderEvent) (old new : ForwardingState) → Leave forwarder_events old
    → Does (Answers client id reply) old new → AnswerHasCause client id reply forwarder_events

-- ---- what is closed

-- a client requested to close it, and its answer was deferred; it has none yet: its request waits,
-- and has no outcome
pub record WaitsToClose (f : Forwarding) (waiting : List Waiting) (forwarder_events : List ForwarderEvent) : Type 0 where
  pub client : ℕ
  pub id : ℕ
  pub ask : StartAsk
  pub later : List ForwarderEvent
  pub earlier : List ForwarderEvent
  pub were : forwarder_events ≡ later ++ Asks client id false ask given.Later ∷ earlier
  pub open_yet : list_any (is_answer_to client id) later ≡ false
  pub is_for : IsFor (rules_in earlier) false ask f
  pub waits : Contains waiting (request_waiting_for client id false f.serial)

-- a request that has this outcome, as that many had one
abbrev pub come_to : ℕ → RequestOutcome → Waiting → Waiting
come_to at outcome w = record w { outcome = Some (at, outcome) }

-- a listener that is closed is that of a forwarding that a client requested to close, and that
-- request has no answer yet: its outcome is Done now
pub record EndsAsked (l : ℕ) (forwarder_events : List ForwarderEvent) (old new : ForwardingState) : Type 0 where
  pub forwarding : Forwarding
  pub stands : Contains old.all forwarding
  pub listens : listener_of forwarding ≡ Some l
  pub serves : ListensSince forwarding.listen_host forwarding.listen_port l forwarder_events
  pub asked : WaitsToClose forwarding old.waiting forwarder_events
  pub comes : Contains new.waiting
      (come_to old.done Done (request_waiting_for asked.client asked.id false forwarding.serial))

abbrev pub EachUnlisten : Type 0
EachUnlisten = (l : ℕ) (forwarder_events : List ForwarderEvent) (old new : ForwardingState) → Leave forwarder_events old
    → Does (Unlistens l) old new → EndsAsked l forwarder_events old new

-- a cancel is sent for a forwarding that is live and that a client requested to close, and that
-- request has no answer yet
pub record CancelsAsked (f : Forwarding) (waiting : List Waiting) (forwarder_events : List ForwarderEvent) : Type 0 where
  pub serves : ServesAt f.stage f forwarder_events
  pub asked : WaitsToClose f waiting forwarder_events

abbrev pub EachCancel : Type 0
EachCancel = (f : Forwarding) (forwarder_events : List ForwarderEvent) (old new : ForwardingState) → Leave forwarder_events old
    → Does (Requests f) old new → forwarding_request_of f ≡ Cancel f.serial → CancelsAsked f old.waiting forwarder_events

-- the outcome of a request to close as the server replies to its cancel
abbrev pub outcome_of_cancel : Bool → RequestOutcome
outcome_of_cancel true = Done
outcome_of_cancel false = Refused

-- The reply to a cancel is for a forwarding that is live and that a client requested to close, and
-- that request has no answer yet. Its outcome is Done now where the cancel was granted, and else it
-- is refused.
pub record EndsCancel (serial : ℕ) (success : Bool) (forwarder_events : List ForwarderEvent) (old new : ForwardingState) : Type 0 where
  pub forwarding : Forwarding
  pub stands : Contains old.all forwarding
  pub is : forwarding.serial ≡ serial
  pub cancels : CancelsAsked forwarding old.waiting forwarder_events
  pub comes : Contains new.waiting (come_to old.done (outcome_of_cancel success)
      (request_waiting_for cancels.asked.client cancels.asked.id false serial))

abbrev pub EachCancelReply : Type 0
EachCancelReply = (serial : ℕ) (success : Bool) (port : Option ℕ) (forwarder_events : List ForwarderEvent)
    (old new : ForwardingState) → Leave forwarder_events old → Does (Replies success port) old new
    → first_forwarding_request old.requests ≡ Some (Cancel serial) → EndsCancel serial success forwarder_events old new

-- ---- what is refused at once

-- A request is refused at once.
--
-- - Any request: its client has an open request with its id, or as many requests wait as may, of its
--   client or in all; or it is refused whatever stands, or is to listen here where it may not.
-- - One to open: the forwarding that listens there connects elsewhere, or none does and as many are
--   requested or live as may be.
-- - One to close: none listens there, or one that closes already.
pub data IsRequestRefused (client id : ℕ) (opening : Bool) (ask : StartAsk) (d : ForwardingState) : Type 0 where
  TurnedAway : turns_away client id d.waiting ≡ true → IsRequestRefused client id opening ask d
  RefusedAlone : is_refused_alone ask ≡ true → IsRequestRefused client id opening ask d
  NotPermittedHere : is_unpermitted d.rules ask ≡ true → IsRequestRefused client id opening ask d
  ConnectsElsewhere : (ends : Ends) (f : Forwarding) → opening ≡ true → AreEnds d.rules ask ends
      → standing ends d.all ≡ Some f → connects_same_end ends f ≡ false → IsRequestRefused client id opening ask d
  NoRoom : (ends : Ends) → opening ≡ true → AreEnds d.rules ask ends → standing ends d.all ≡ None
      → MOST_FORWARDINGS ≤ how_many d.all → IsRequestRefused client id opening ask d
  NoneThere : (ends : Ends) → opening ≡ false → AreEnds d.rules ask ends → standing ends d.all ≡ None
      → IsRequestRefused client id opening ask d
  ClosesAlready : (ends : Ends) (f : Forwarding) → opening ≡ false → AreEnds d.rules ask ends
      → standing ends d.all ≡ Some f → f.closing ≡ true → IsRequestRefused client id opening ask d

-- each has one of these causes
abbrev pub EachRefused : Type 0
EachRefused = (client id : ℕ) (opening : Bool) (ask : StartAsk) (old new : ForwardingState)
    → Does (Asks client id opening ask given.Refused) old new → IsRequestRefused client id opening ask old

-- ---- at rest

-- there is no request to send, no listener to order or to close, and no answer to give
pub record ForwarderIsAtRest (d : ForwardingState) : Type 0 where
  pub says : find has_request d.all ≡ None
  pub orders : next_listener_order d.waiting d.all ≡ None
  pub answers : answers_none d.waiting ≡ true

-- the request to listen for the forwarding that a request waits for, or its cancel, was sent and
-- has no reply yet
abbrev pub AwaitsReply : List ForwardingRequest → Waiting → Type 0
AwaitsReply requests w =
    Contains requests (Listen w.forwarding) ⊎ Contains requests (Cancel w.forwarding)

-- at rest each request that waits awaits a reply of the server
abbrev pub EachAwaits : Type 0
EachAwaits = (forwarder_events : List ForwarderEvent) (d : ForwardingState) → Leave forwarder_events d → ForwarderIsAtRest d → All (AwaitsReply d.requests) d.waiting

-- ---- listeners

-- those that were made and not closed since, in the order in which they were made
abbrev pub listened : List ForwarderEvent → List ℕ
listened [] = []
listened (Begins starts ∷ forwarder_events) = listened forwarder_events
listened (Asks client id opening ask reply ∷ forwarder_events) = listened forwarder_events
listened (Answers client id reply ∷ forwarder_events) = listened forwarder_events
listened (Greets ∷ forwarder_events) = listened forwarder_events
listened (Requests f ∷ forwarder_events) = listened forwarder_events
listened (Replies success port ∷ forwarder_events) = listened forwarder_events
listened (Listens host port number ∷ forwarder_events) = listened forwarder_events ++ listeners_made number
listened (Unlistens l ∷ forwarder_events) = without l (listened forwarder_events)

-- these are exactly those of the forwardings, each of one, in their order
abbrev pub ListenersAreTheirs : Type 0
ListenersAreTheirs = (forwarder_events : List ForwarderEvent) (d : ForwardingState) → Leave forwarder_events d → listeners_of d.all ≡ listened forwarder_events

-- each that is made has a number that none of them has
abbrev pub EachListenerIsNew : Type 0
EachListenerIsNew = (host : List ℕ) (port : ℕ) (number : Option ℕ) (forwarder_events : List ForwarderEvent)
    (old new : ForwardingState) → Leave forwarder_events old → Does (Listens host port number) old new
    → IfSome number (λ l. among l (listened forwarder_events) ≡ false)

-- no two forwardings have the same
abbrev pub ListenersDiffer : Type 0
ListenersDiffer = (forwarder_events : List ForwarderEvent) (d : ForwardingState) → Leave forwarder_events d → AllPairs (λ a b. a ≢ b) (listeners_of d.all)
