-- The forwardings of the forwarder, and the outcome of a request by those that stand.
use Rattle.std.specs.Prelude.{◌≡◌, ◌+◌, ℕ, zero, suc, Bool, true, false, not, ◌&&◌, ◌||◌, if◌then◌else◌, ◌==◌, nat_lt, nat_le, List, [], ◌∷◌, ◌++◌, length, map, filter, find, get_or, set, slice_get, is_some, IfSome, Option, Some, None}
use Rattle.std.specs.List.{list_any, filter_map, position, remove}
use Rattle.std.specs.Str.{bytes_eq}
use Rattle.house_forward.specs.Asks.{owes_opening, requests_settled, all_requests_refused, request_waiting_for, one_more_outcome}
use Rattle.mux_outside.specs.declared.order.Order.{Order}
use Rattle.mux_outside.specs.declared.order.Order.TheVariants as order
use Rattle.mux_outside.specs.declared.house.HouseReply.{HouseReply}
use Rattle.mux_outside.specs.declared.house.HouseReply.TheVariants as reply
use Rattle.mux_outside.specs.declared.start_ask.StartAsk.{StartAsk}
use Rattle.house_forward.specs.Rules.{listens_here, connects_there, same_kind, AreEnds, is_ruled_out}
use Rattle.house_forward.specs.declared.asks.RequestOutcome.{RequestOutcome}
use Rattle.house_forward.specs.declared.asks.RequestOutcome.TheVariants.{Done, Port, Refused}
use Rattle.house_forward.specs.declared.asks.Waiting.{Waiting}
use Rattle.house_forward.specs.declared.forwarding.Change.{Change}
use Rattle.house_forward.specs.declared.forwarding.Change.TheVariants as change
use Rattle.house_forward.specs.declared.forwarding.Forwarding.{Forwarding}
use Rattle.house_forward.specs.declared.forwarding.ForwardingRequest.{ForwardingRequest}
use Rattle.house_forward.specs.declared.forwarding.ForwardingRequest.TheVariants.{Listen, Cancel}
use Rattle.house_forward.specs.declared.forwarding.Stage.{Stage}
use Rattle.house_forward.specs.declared.forwarding.Stage.TheVariants.{ToListen, Ordered, Listening, ToRequest, Requested, Live, Cancelling}
use Rattle.house_forward.specs.declared.asks.ImmediateOutcome.{ImmediateOutcome}
use Rattle.house_forward.specs.declared.asks.ImmediateOutcome.TheVariants.{Now, Later}
use Rattle.house_forward.specs.declared.forwardings.ListenerOrder.{ListenerOrder}
use Rattle.house_forward.specs.declared.forwardings.ListenerOrder.TheVariants.{Listen as ListensAt, Unlisten as Unlistens}
use Rattle.house_forward.specs.declared.forwardings.ForwardingWant.{ForwardingWant}
use Rattle.house_forward.specs.declared.forwardings.ForwardingWant.TheVariants as want
use Rattle.house_forward.specs.declared.rules.Ends.{Ends}
use Rattle.house_forward.specs.declared.rules.ForwardingKind.{ForwardingKind}
use Rattle.house_forward.specs.declared.rules.ForwardingKind.TheVariants.{Local, Remote, Dynamic}
use Rattle.house_forward.specs.declared.rules.ListenRules.{ListenRules}
use Rattle.house_forward.specs.declared.rules.TheConstants.{MOST_FORWARDINGS}

-- whether it is asked or live: one that listens here ends as it is asked to close
abbrev pub is_asked_or_live : Forwarding → Bool
is_asked_or_live f = not (f.closing && listens_here f.kind)

-- whether it listens where this is to listen
abbrev pub listens_at : Ends → Forwarding → Bool
listens_at ends f = same_kind f.kind ends.kind
    && ((f.listen_port == ends.listen_port) && bytes_eq f.listen_host ends.listen_host.now)

-- whether it connects where this is to connect: where a dialog specifies that, whatever was asked
abbrev pub connects_same_end : Ends → Forwarding → Bool
connects_same_end ends f = not (connects_there f.kind)
    || ((f.connect_port == ends.connect_port) && bytes_eq f.connect_host ends.connect_host.now)

abbrev pub listener_at : Stage → Option ℕ
listener_at (ToListen host) = None
listener_at Ordered = None
listener_at (Listening l) = Some l
listener_at ToRequest = None
listener_at Requested = None
listener_at (Live port) = None
listener_at (Cancelling port) = None

abbrev pub is_listener : ℕ → Option ℕ → Bool
is_listener l None = false
is_listener l (Some k) = k == l

-- the listener, if it listens here
abbrev pub listener_of : Forwarding → Option ℕ
listener_of f = listener_at f.stage

abbrev pub bound_at : Stage → Option ℕ
bound_at (ToListen host) = None
bound_at Ordered = None
bound_at (Listening l) = None
bound_at ToRequest = None
bound_at Requested = None
bound_at (Live port) = Some port
bound_at (Cancelling port) = Some port

-- the port that the server listens on, if it does
abbrev pub bound_of : Forwarding → Option ℕ
bound_of f = bound_at f.stage

-- serials rise from this number on, and are below that one
abbrev pub is_numbered : ℕ → List Forwarding → ℕ → Bool
is_numbered low [] high = nat_le low high
is_numbered low (f ∷ fs) high = nat_le low f.serial && is_numbered (f.serial + 1) fs high

-- with the port where it was asked as 0
abbrev pub outcome_of_grant : ℕ → ℕ → RequestOutcome
outcome_of_grant asked port = if asked == 0 then Port port else Done

abbrev pub outcome_at : Stage → ℕ → Option RequestOutcome
outcome_at (ToListen host) asked = None
outcome_at Ordered asked = None
outcome_at (Listening l) asked = Some Done
outcome_at ToRequest asked = None
outcome_at Requested asked = None
outcome_at (Live port) asked = Some (outcome_of_grant asked port)
outcome_at (Cancelling port) asked = Some (outcome_of_grant asked port)

-- the outcome of those that request it, once that is known
abbrev pub forwarding_outcome_of : Forwarding → Option RequestOutcome
forwarding_outcome_of f = outcome_at f.stage f.listen_port

-- nothing was done for it yet
abbrev pub is_first : Stage → Bool
is_first (ToListen host) = true
is_first Ordered = false
is_first (Listening l) = false
is_first ToRequest = true
is_first Requested = false
is_first (Live port) = false
is_first (Cancelling port) = false

-- the host at which a listener is to be ordered, and else this one
abbrev pub listen_host_at : Stage → List ℕ → List ℕ
listen_host_at (ToListen texts) host = texts.one
listen_host_at Ordered host = host
listen_host_at (Listening l) host = host
listen_host_at ToRequest host = host
listen_host_at Requested host = host
listen_host_at (Live port) host = host
listen_host_at (Cancelling port) host = host

-- a listener is to be ordered at this host
abbrev pub IsAt : Stage → List ℕ → Type 0
IsAt stage host = listen_host_at stage host ≡ host

abbrev pub waits_at : Stage → Bool
waits_at (ToListen host) = true
waits_at Ordered = true
waits_at (Listening l) = false
waits_at ToRequest = false
waits_at Requested = false
waits_at (Live port) = false
waits_at (Cancelling port) = false

-- whether it is to listen here, and has no listener yet
abbrev pub to_listen : Forwarding → Bool
to_listen f = waits_at f.stage

-- a forwarding that is asked for
pub record IsAskedFor (ends : Ends) (serial : ℕ) (start : Option ℕ) (f : Forwarding) : Type 0 where
  pub serial_is : f.serial ≡ serial
  pub kind_is : f.kind ≡ ends.kind
  pub listens : f.listen_host ≡ ends.listen_host.now
  pub listen_port_is : f.listen_port ≡ ends.listen_port
  pub connects : f.connect_host ≡ ends.connect_host.now
  pub connect_port_is : f.connect_port ≡ ends.connect_port
  pub first : is_first f.stage ≡ true
  pub here : to_listen f ≡ listens_here ends.kind
  pub place : IsAt f.stage f.listen_host
  pub open_yet : f.closing ≡ false
  pub start_is : f.start ≡ start

-- ---- requests

-- the forwarding that listens there, asked or live
abbrev pub standing : Ends → List Forwarding → Option Forwarding
standing ends fs = find (λ f. is_asked_or_live f && listens_at ends f) fs

-- how many are asked or live
abbrev pub how_many : List Forwarding → ℕ
how_many fs = length (filter is_asked_or_live fs)

-- the same ask again gets what the first one gets
abbrev pub as_first : Forwarding → Option RequestOutcome → ImmediateOutcome
as_first f None = Later f.serial
as_first f (Some outcome) = Now outcome

-- The outcome of a request to open. Another connect end is refused, and so is one that isn't the
-- same request again while as many are requested or live as may be. Else there is a new one with
-- this serial.
abbrev pub opens_of : ℕ → Ends → List Forwarding → Option Forwarding → ImmediateOutcome
opens_of serial ends fs None =
    if nat_lt (how_many fs) MOST_FORWARDINGS then Later serial else Now Refused
opens_of serial ends fs (Some f) =
    if connects_same_end ends f then as_first f (forwarding_outcome_of f) else Now Refused

-- the outcome of a request to close
abbrev pub closes_of : Option Forwarding → ImmediateOutcome
closes_of None = Now Refused
closes_of (Some f) = if f.closing then Now Refused else Later f.serial

abbrev pub comes_of_ends : Bool → ℕ → Ends → List Forwarding → ImmediateOutcome
comes_of_ends true serial ends fs = opens_of serial ends fs (standing ends fs)
comes_of_ends false serial ends fs = closes_of (standing ends fs)

abbrev pub requests_at : Stage → Bool → Bool
requests_at (ToListen host) closing = false
requests_at Ordered closing = false
requests_at (Listening l) closing = false
requests_at ToRequest closing = true
requests_at Requested closing = false
requests_at (Live port) closing = closing
requests_at (Cancelling port) closing = false

-- whether a request is to be sent for it: to listen, or to do so no longer
abbrev pub has_request : Forwarding → Bool
has_request f = requests_at f.stage f.closing

abbrev pub forwarding_request_at : Stage → ℕ → ForwardingRequest
forwarding_request_at (ToListen host) serial = Listen serial
forwarding_request_at Ordered serial = Listen serial
forwarding_request_at (Listening l) serial = Listen serial
forwarding_request_at ToRequest serial = Listen serial
forwarding_request_at Requested serial = Listen serial
forwarding_request_at (Live port) serial = Cancel serial
forwarding_request_at (Cancelling port) serial = Listen serial

-- the request that is to be sent for it: where the server listens it is to do so no longer
abbrev pub forwarding_request_of : Forwarding → ForwardingRequest
forwarding_request_of f = forwarding_request_at f.stage f.serial

-- ---- listeners

-- the listeners, in the order in which they were made
abbrev pub listeners_of : List Forwarding → List ℕ
listeners_of fs = filter_map listener_of fs

abbrev pub ordered_at : Stage → Bool
ordered_at (ToListen host) = false
ordered_at Ordered = true
ordered_at (Listening l) = false
ordered_at ToRequest = false
ordered_at Requested = false
ordered_at (Live port) = false
ordered_at (Cancelling port) = false

abbrev pub is_ordered_first : Option Forwarding → Bool
is_ordered_first None = false
is_ordered_first (Some f) = ordered_at f.stage

-- whether one has a listener
abbrev pub has_a_listener : List Forwarding → Bool
has_a_listener fs = list_any (λ f. is_some (listener_of f)) fs

-- listeners were made in the order of asking: none that has one stands after one that has none yet
abbrev pub is_in_order : List Forwarding → Bool
is_in_order [] = true
is_in_order (f ∷ fs) = not (to_listen f && has_a_listener fs) && is_in_order fs

abbrev pub has_listener : ℕ → Forwarding → Bool
has_listener l f = is_listener l (listener_of f)

-- ---- what is ordered

abbrev pub forwarding_ends_at : ℕ → Bool → ℕ → List Waiting → Option ForwardingWant → Option ForwardingWant
forwarding_ends_at listener false serial waiting next = next
forwarding_ends_at listener true serial waiting next =
    if owes_opening serial waiting then None else Some (want.Unlisten serial listener)

abbrev pub next_at : Stage → Bool → ℕ → List Waiting → Option ForwardingWant → Option ForwardingWant
next_at (ToListen host) closing serial waiting next = Some want.Listen
next_at Ordered closing serial waiting next = None
next_at (Listening l) closing serial waiting next = forwarding_ends_at l closing serial waiting next
next_at ToRequest closing serial waiting next = next
next_at Requested closing serial waiting next = next
next_at (Live port) closing serial waiting next = next
next_at (Cancelling port) closing serial waiting next = next

-- the next order about a listener, in the order of asking: the first that is to listen, or that is to be
-- closed; that one waits for the answers of those that asked for it
abbrev pub next_listener_order : List Waiting → List Forwarding → Option ForwardingWant
next_listener_order waiting [] = None
next_listener_order waiting (f ∷ fs) = next_at f.stage f.closing f.serial waiting (next_listener_order waiting fs)

abbrev pub pends : Stage → Bool → Bool
pends (ToListen host) closing = true
pends Ordered closing = true
pends (Listening l) closing = closing
pends ToRequest closing = false
pends Requested closing = false
pends (Live port) closing = false
pends (Cancelling port) closing = false

-- whether it is to be ordered, or to be closed
abbrev pub is_order_pending : Forwarding → Bool
is_order_pending f = pends f.stage f.closing

-- the order that it is to have, if nothing is in the way
abbrev pub want_in : List Waiting → Option Forwarding → Option ForwardingWant
want_in waiting None = None
want_in waiting (Some f) = next_at f.stage f.closing f.serial waiting None

abbrev pub is_to_listen : Stage → Bool
is_to_listen (ToListen host) = true
is_to_listen Ordered = false
is_to_listen (Listening l) = false
is_to_listen ToRequest = false
is_to_listen Requested = false
is_to_listen (Live port) = false
is_to_listen (Cancelling port) = false

abbrev pub is_first_to_listen : Option Forwarding → Bool
is_first_to_listen None = false
is_first_to_listen (Some f) = is_to_listen f.stage

-- the order is to listen, where the first that has no listener yet is to
abbrev pub ListensFor : ListenerOrder → Option Forwarding → Type 0
ListensFor (ListensAt host port) None = ⊥
ListensFor (ListensAt host port) (Some f) = (host.one ≡ f.listen_host) × (port ≡ f.listen_port)
ListensFor (Unlistens l) first = ⊥

abbrev pub ListensFirst : Option Order → List Forwarding → Type 0
ListensFirst None fs = Unit {0}
ListensFirst (Some (order.Listen host port)) fs =
    IfSome (find to_listen fs) (λ f. (host ≡ f.listen_host) × (port ≡ f.listen_port))
ListensFirst (Some (order.Connect host port)) fs = Unit {0}
ListensFirst (Some (order.Unlisten l)) fs = Unit {0}
ListensFirst (Some (order.Pause t)) fs = Unit {0}
ListensFirst (Some (order.Resume t)) fs = Unit {0}
ListensFirst (Some (order.Finish t)) fs = Unit {0}
ListensFirst (Some (order.Close t)) fs = Unit {0}

abbrev pub listeners_made : Option ℕ → List ℕ
listeners_made None = []
listeners_made (Some l) = l ∷ []

abbrev pub serial_of : Option Forwarding → ℕ
serial_of None = 0
serial_of (Some f) = f.serial

-- ---- changes

abbrev pub chosen_port : Option ℕ → ℕ
chosen_port None = 0
chosen_port (Some port) = port

-- the port on which the server listens: it chose one where it was asked for 0
abbrev pub bound_port : ℕ → Option ℕ → ℕ
bound_port asked port = if asked == 0 then chosen_port port else asked

abbrev pub listener_stage_after : Change → ℕ → Stage → Stage
listener_stage_after c asked (ToListen host) = ToListen host
listener_stage_after c asked Ordered = Ordered
listener_stage_after c asked (Listening l) = Listening l
listener_stage_after change.Close asked ToRequest = ToRequest
listener_stage_after change.ForwardingRequest asked ToRequest = Requested
listener_stage_after change.Cancel asked ToRequest = ToRequest
listener_stage_after (change.Live port) asked ToRequest = ToRequest
listener_stage_after change.Stay asked ToRequest = ToRequest
listener_stage_after change.Close asked Requested = Requested
listener_stage_after change.ForwardingRequest asked Requested = Requested
listener_stage_after change.Cancel asked Requested = Requested
listener_stage_after (change.Live port) asked Requested = Live (bound_port asked port)
listener_stage_after change.Stay asked Requested = Requested
listener_stage_after change.Close asked (Live port) = Live port
listener_stage_after change.ForwardingRequest asked (Live port) = Live port
listener_stage_after change.Cancel asked (Live port) = Cancelling port
listener_stage_after (change.Live chosen_port) asked (Live port) = Live port
listener_stage_after change.Stay asked (Live port) = Live port
listener_stage_after change.Close asked (Cancelling port) = Cancelling port
listener_stage_after change.ForwardingRequest asked (Cancelling port) = Cancelling port
listener_stage_after change.Cancel asked (Cancelling port) = Cancelling port
listener_stage_after (change.Live chosen_port) asked (Cancelling port) = Cancelling port
listener_stage_after change.Stay asked (Cancelling port) = Live port

abbrev pub closing_after : Change → Bool → Bool
closing_after change.Close closing = true
closing_after change.ForwardingRequest closing = closing
closing_after change.Cancel closing = closing
closing_after (change.Live port) closing = closing
closing_after change.Stay closing = false

-- the forwarding with this serial changes
abbrev pub forwarding_changed : Change → ℕ → Forwarding → Forwarding
forwarding_changed c serial f = if f.serial == serial then record f {
  stage = listener_stage_after c f.listen_port f.stage;
  closing = closing_after c f.closing;
} else f

-- a request to close leaves one that closes
abbrev pub after_close : ImmediateOutcome → List Forwarding → List Forwarding
after_close (Now outcome) fs = fs
after_close (Later serial) fs = map (forwarding_changed change.Close serial) fs

-- whether there is a new one for a request to open
abbrev pub is_new : Ends → List Forwarding → Option Forwarding → Bool
is_new ends fs None = nat_lt (how_many fs) MOST_FORWARDINGS
is_new ends fs (Some f) = false

-- a request to open leaves the same, or one more after them
abbrev pub OpensForwarding : Bool → Ends → ℕ → Option ℕ → List Forwarding → List Forwarding → Type 0
OpensForwarding false ends serial start old new = new ≡ old
OpensForwarding true ends serial start old new =
    (f : Forwarding) × IsAskedFor ends serial start f × (new ≡ old ++ f ∷ [])

-- a new one takes the next serial
abbrev pub serials_after : Bool → ℕ → ℕ
serials_after false serials = serials
serials_after true serials = serials + 1

-- ---- the outcome of a request

-- what a request leaves of the forwardings
abbrev pub EndsLeave : Bool → ℕ → Ends → List Forwarding → List Forwarding → Type 0
EndsLeave true serial ends old new =
    OpensForwarding (is_new ends old (standing ends old)) ends serial None old new
EndsLeave false serial ends old new = new ≡ after_close (closes_of (standing ends old)) old

-- a request that is refused whatever stands changes nothing; of another the two ends are looked at
abbrev pub ComesIf : Bool → ListenRules → Bool → StartAsk → ℕ → List Forwarding → List Forwarding → ImmediateOutcome → Type 0
ComesIf true rules opening ask serial old new asked = (asked ≡ Now Refused) × (new ≡ old)
ComesIf false rules opening ask serial old new asked = (ends : Ends) × AreEnds rules ask ends
    × (asked ≡ comes_of_ends opening serial ends old) × EndsLeave opening serial ends old new

-- one is refused whose client has an open request with its id, or while as many wait as may
abbrev pub ComesUnless : Bool → ListenRules → Bool → StartAsk → ℕ → List Forwarding → List Forwarding → ImmediateOutcome → Type 0
ComesUnless true rules opening ask serial old new asked = (asked ≡ Now Refused) × (new ≡ old)
ComesUnless false rules opening ask serial old new asked =
    ComesIf (is_ruled_out rules ask) rules opening ask serial old new asked

abbrev pub reply_to : ImmediateOutcome → HouseReply
reply_to (Now Done) = reply.Done
reply_to (Now (Port port)) = reply.Port port
reply_to (Now Refused) = reply.Refused
reply_to (Later serial) = reply.Later

-- a request waits where it has no reply yet
abbrev pub waiting_after : ImmediateOutcome → ℕ → ℕ → Bool → List Waiting → List Waiting
waiting_after (Now outcome) client id opening waiting = waiting
waiting_after (Later serial) client id opening waiting =
    waiting ++ request_waiting_for client id opening serial ∷ []

-- a request that was sent is unanswered
abbrev pub after_request_sent : ForwardingRequest → List Forwarding → List Forwarding
after_request_sent (Listen serial) fs = map (forwarding_changed change.ForwardingRequest serial) fs
after_request_sent (Cancel serial) fs = map (forwarding_changed change.Cancel serial) fs

-- the first of those asked for at the start that was refused, with one more
abbrev pub first_refused : Option ℕ → Option ℕ → Option ℕ
first_refused None start = start
first_refused (Some first) start = Some first

-- the forwarding at a place isn't possible
abbrev pub ForwardingFailsAt : ℕ → List Forwarding → Option ℕ → Option ℕ → Type 0
ForwardingFailsAt i fs old new =
    (f : Forwarding) × (f ≡ get_or fs i f) × (new ≡ first_refused old f.start)

abbrev pub forwarding_start_of : Option Forwarding → Option ℕ
forwarding_start_of None = None
forwarding_start_of (Some f) = f.start

-- ---- the start

-- the forwardings, the next serial, and the first of those asked for at the start that was refused
pub record Standing : Type 0 where
  pub all : List Forwarding
  pub serials : ℕ
  pub refused : Option ℕ

abbrev pub what_stands : List Forwarding → ℕ → Option ℕ → Standing
what_stands fs serials all_requests_refused = record { all = fs; serials = serials; refused = all_requests_refused }

abbrev pub ask_refused_if : ImmediateOutcome → ℕ → Option ℕ → Option ℕ
ask_refused_if (Now Done) i all_requests_refused = all_requests_refused
ask_refused_if (Now (Port port)) i all_requests_refused = all_requests_refused
ask_refused_if (Now Refused) i all_requests_refused = first_refused all_requests_refused (Some i)
ask_refused_if (Later serial) i all_requests_refused = all_requests_refused

-- one with these two ends is asked for at the start, at this place
pub record StartsAt (ends : Ends) (i : ℕ) (old new : Standing) : Type 0 where
  pub all : OpensForwarding (is_new ends old.all (standing ends old.all)) ends old.serials (Some i) old.all new.all
  pub serials : new.serials ≡ serials_after (is_new ends old.all (standing ends old.all)) old.serials
  pub refused : new.refused ≡ ask_refused_if (opens_of old.serials ends old.all (standing ends old.all)) i old.refused

-- one that is refused whatever stands is the first that was refused, if none was yet
abbrev pub StartsIf : Bool → ListenRules → StartAsk → ℕ → Standing → Standing → Type 0
StartsIf true rules ask i old new =
    new ≡ what_stands old.all old.serials (first_refused old.refused (Some i))
StartsIf false rules ask i old new =
    (ends : Ends) × AreEnds rules ask ends × StartsAt ends i old new

-- so many of them were asked for, one after another
abbrev pub AskedAtStart : ListenRules → List StartAsk → ℕ → Standing → Standing → Type 0
AskedAtStart rules asks zero old new = new ≡ old
AskedAtStart rules asks (suc i) old new = (one : Standing) × AskedAtStart rules asks i old one
    × IfSome (slice_get asks i) (λ ask. StartsIf (is_ruled_out rules ask) rules ask i one new)

-- ---- what orders leave

-- the one at a place is ordered
abbrev pub OrderedAt : ℕ → List Forwarding → List Forwarding → Type 0
OrderedAt i old new =
    (f : Forwarding) × (f ≡ get_or old i f) × (new ≡ set old i (record f { stage = Ordered }))

-- the one at a place has this listener, or is gone where none could be made
abbrev pub MadeAt : Option ℕ → ℕ → List Forwarding → List Forwarding → Type 0
MadeAt None i old new = new ≡ remove old i
MadeAt (Some l) i old new = (f : Forwarding) × (f ≡ get_or old i f)
    × (new ≡ set old i (record f { stage = Listening l }))

abbrev pub made_refused : Option ℕ → Option Forwarding → Option ℕ → Option ℕ
made_refused None first all_requests_refused = first_refused all_requests_refused (forwarding_start_of first)
made_refused (Some l) first all_requests_refused = all_requests_refused

-- ---- replies of the server

abbrev pub asks_at : Stage → Bool
asks_at (ToListen host) = false
asks_at Ordered = false
asks_at (Listening l) = false
asks_at ToRequest = false
asks_at Requested = true
asks_at (Live port) = false
asks_at (Cancelling port) = false

-- whether the request to listen for this forwarding is unanswered
abbrev pub is_listen_unanswered : ℕ → Forwarding → Bool
is_listen_unanswered serial f = (f.serial == serial) && asks_at f.stage

abbrev pub cancels_at : Stage → Bool
cancels_at (ToListen host) = false
cancels_at Ordered = false
cancels_at (Listening l) = false
cancels_at ToRequest = false
cancels_at Requested = false
cancels_at (Live port) = false
cancels_at (Cancelling port) = true

-- whether the cancel of this forwarding is unanswered
abbrev pub is_cancelled : ℕ → Forwarding → Bool
is_cancelled serial f = (f.serial == serial) && cancels_at f.stage

abbrev pub live_outcome_in : Option ℕ → Option Forwarding → Option RequestOutcome
live_outcome_in port None = None
live_outcome_in port (Some f) = Some (outcome_of_grant f.listen_port (bound_port f.listen_port port))

abbrev pub opened_asks : Option RequestOutcome → ℕ → ℕ → List Waiting → List Waiting
opened_asks None serial at waiting = waiting
opened_asks (Some outcome) serial at waiting = requests_settled serial true at outcome waiting

abbrev pub replied_asks : Bool → Option ℕ → Option ForwardingRequest → List Forwarding → ℕ → List Waiting → List Waiting
replied_asks success port None fs at waiting = waiting
replied_asks true port (Some (Listen serial)) fs at waiting =
    opened_asks (live_outcome_in port (find (is_listen_unanswered serial) fs)) serial at waiting
replied_asks false port (Some (Listen serial)) fs at waiting = all_requests_refused serial at waiting
replied_asks true port (Some (Cancel serial)) fs at waiting = requests_settled serial false at Done waiting
replied_asks false port (Some (Cancel serial)) fs at waiting = requests_settled serial false at Refused waiting

abbrev pub opened_done : Option RequestOutcome → ℕ → ℕ
opened_done None at = at
opened_done (Some outcome) at = one_more_outcome at

-- how many requests had an outcome after a reply
abbrev pub replied_done : Bool → Option ℕ → Option ForwardingRequest → List Forwarding → ℕ → ℕ
replied_done success port None fs at = at
replied_done true port (Some (Listen serial)) fs at =
    opened_done (live_outcome_in port (find (is_listen_unanswered serial) fs)) at
replied_done false port (Some (Listen serial)) fs at = one_more_outcome (one_more_outcome at)
replied_done success port (Some (Cancel serial)) fs at = one_more_outcome at

abbrev pub removed_at : Option ℕ → List Forwarding → List Forwarding
removed_at None fs = fs
removed_at (Some i) fs = remove fs i

-- what a reply leaves: a forwarding whose request is refused, or whose cancel is granted, is gone
abbrev pub replied_all : Bool → Option ℕ → Option ForwardingRequest → List Forwarding → List Forwarding
replied_all success port None fs = fs
replied_all true port (Some (Listen serial)) fs = map (forwarding_changed (change.Live port) serial) fs
replied_all false port (Some (Listen serial)) fs = removed_at (position (is_listen_unanswered serial) fs) fs
replied_all true port (Some (Cancel serial)) fs = removed_at (position (is_cancelled serial) fs) fs
replied_all false port (Some (Cancel serial)) fs = map (forwarding_changed change.Stay serial) fs

abbrev pub replied_refused : Bool → Option ForwardingRequest → List Forwarding → Option ℕ → Option ℕ
replied_refused success None fs all_requests_refused = all_requests_refused
replied_refused true (Some (Listen serial)) fs all_requests_refused = all_requests_refused
replied_refused false (Some (Listen serial)) fs all_requests_refused =
    first_refused all_requests_refused (forwarding_start_of (find (is_listen_unanswered serial) fs))
replied_refused success (Some (Cancel serial)) fs all_requests_refused = all_requests_refused

abbrev pub first_forwarding_request : List ForwardingRequest → Option ForwardingRequest
first_forwarding_request [] = None
first_forwarding_request (r ∷ rs) = Some r

-- the outcome of the requests as a listener was made, or couldn't be
abbrev pub ordered_asks : Option ℕ → ℕ → ℕ → List Waiting → List Waiting
ordered_asks None serial at waiting = all_requests_refused serial at waiting
ordered_asks (Some listener) serial at waiting = requests_settled serial true at Done waiting

-- how many requests had an outcome then
abbrev pub ordered_done : Option ℕ → ℕ → ℕ
ordered_done None at = one_more_outcome (one_more_outcome at)
ordered_done (Some listener) at = one_more_outcome at

abbrev is_remote : ForwardingKind → Bool
is_remote Local = false
is_remote Remote = true
is_remote Dynamic = false

-- whether the server listens for it at this address and port
abbrev pub served_at : List ℕ → ℕ → Forwarding → Bool
served_at address port f = is_remote f.kind && (is_listener port (bound_of f) && bytes_eq f.listen_host address)
