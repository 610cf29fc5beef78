-- What is known of a forwarder, the marks that its calls add, and what each call leaves.
use Rattle.std.specs.Prelude.{◌≡◌, ◌<◌, ◌≤◌, ℕ, Bool, true, false, not, ◌&&◌, ◌==◌, if◌then◌else◌, List, [], ◌∷◌, ◌++◌, length, drop, IfOk, IsTrue, OnOk, Result, Ok, Err, Option, Some, None}
use Rattle.std.specs.List.{list_any}
use Rattle.std.specs.Option.{option_map}
use Rattle.mux_outside.specs.HouseCalls.{HandsOn, HouseCall, calls_of}
use Rattle.mux_outside.specs.OwnStreams.{new_stream, is_one, is_silent, with_pause, with_finish, with_end, without_stream}
use Rattle.mux_outside.specs.Streams.{among, without}
use Rattle.mux_outside.specs.declared.house.FwdAsk.{FwdAsk}
use Rattle.mux_outside.specs.declared.house.HouseReply.{HouseReply}
use Rattle.mux_outside.specs.declared.house.HouseReply.TheVariants.{Done, Port, Refused, Later}
use Rattle.mux_outside.specs.declared.house_mark.HouseMark.{HouseMark}
use Rattle.mux_outside.specs.declared.house_mark.HouseMark.TheVariants.{HouseSaid, HouseTook, HouseAsked, HouseAnswer, HouseOrder}
use Rattle.mux_outside.specs.declared.order.Order.{Order}
use Rattle.mux_outside.specs.declared.order.Order.TheVariants.{Listen, Connect, Unlisten, Pause, Resume, Finish, Close}
use Rattle.mux_outside.specs.declared.own_streams.OwnStream.{OwnStream}
use Rattle.mux_outside.specs.declared.own_turn.OwnTurn.{OwnTurn}
use Rattle.mux_outside.specs.declared.own_turn.OwnTurn.TheVariants.{Joined, Got, End, Writable, Failed}
use Rattle.mux_outside.specs.declared.piece.TheConstants.{LONGEST_PIECE}
use Rattle.mux_outside.specs.declared.start_ask.StartAsk.{StartAsk}

-- ---- what is always known

-- a request that got the reply Later and has no answer yet
pub record OpenAsk : Type 0 where
  pub client : ℕ
  pub id : ℕ
  pub opening : Bool

-- whether it is there at all; the listeners and streams that were reported to it and that it hasn't
-- ordered to close, and the state of the streams by its orders; its open requests, in order; and
-- the Listen or Connect whose number it waits for
pub record Known : Type 0 where
  pub present : Bool
  pub listeners : List ℕ
  pub streams : List OwnStream
  pub asks : List OpenAsk
  pub ordering : Option Order

-- whether it has nothing to send, nothing to order and nothing to answer
pub record Quiet : Type 0 where
  pub says : Bool
  pub orders : Bool
  pub answers : Bool

-- nothing of the kind is known
abbrev pub nothing_known : Bool → Known
nothing_known present =
    record { present = present; listeners = []; streams = []; asks = []; ordering = None }

-- a forwarder is at rest: it has nothing to give
abbrev pub IsAtRest : Quiet → Type 0
IsAtRest quiet = quiet ≡ record { says = true; orders = true; answers = true }

-- no mark was recorded
abbrev pub NoMark : Option (List HouseMark) → Type 0
NoMark None = Unit {0}
NoMark (Some marks) = marks ≡ []

-- a forwarder that has nothing yet and has recorded nothing
pub record IsBlank (known : Known) (recorded : Option (List HouseMark)) : Type 0 where
  pub nothing : known ≡ nothing_known known.present
  pub no_mark : NoMark recorded

-- all that is known of a forwarder, whatever it is: its marks, if it records them; what is always
-- known; whether it has nothing to send, to order and to answer; what waits for each stream; the
-- first of the forwardings asked for at the start that was refused, if any was; whether the run
-- ends where one is; and which calls it represents, each with its answer, the oldest first
pub record HouseState : Type 1 where
  pub recorded : Option (List HouseMark)
  pub known : Known
  pub quiet : Quiet
  pub queue : ℕ → List ℕ
  pub refused : Option ℕ
  pub must : Bool
  pub stands : List HouseCall → Type 0

-- one that was never called
pub record IsFresh (state : HouseState) : Type 0 where
  pub blank : IsBlank state.known state.recorded
  pub unrefused : state.refused ≡ None
  pub stands : state.stands []

-- whether something waits for a stream, and it is none of those that failed
abbrev pub has_waiting : (ℕ → List ℕ) → List ℕ → ℕ → Bool
has_waiting queue failed t = not (among t failed) && not (length (queue t) == 0)

-- ---- what a call leaves

-- the marks that are recorded after these more
abbrev pub recorded_more : List HouseMark → Option (List HouseMark) → Option (List HouseMark)
recorded_more more recorded = option_map (λ marks. marks ++ more) recorded

-- after a call that gave this: what is known changes so, and the forwarder represents it
pub record Gave (marks : List HouseMark) (change : Known → Known) (old new : HouseState) :
    Type 0 where
  pub known : new.known ≡ change old.known
  pub must : new.must ≡ old.must
  pub recorded : new.recorded ≡ recorded_more marks old.recorded
  pub stands : HandsOn old.stands new.stands (calls_of marks)

-- the same where there may have been no memory for it: then only its marks are known, and whether the
-- run ends where a forwarding of the start is refused
pub record GaveOr {A E : Type 0} (result : Result A E) (marks : List HouseMark)
    (change : A → Known → Known) (old new : HouseState) : Type 0 where
  pub known : IfOk result (λ answer. new.known ≡ change answer old.known)
  pub must : new.must ≡ old.must
  pub recorded : new.recorded ≡ recorded_more marks old.recorded
  pub stands : OnOk result (HandsOn old.stands new.stands (calls_of marks))

-- it offers what it did before
pub record OffersSame (old new : HouseState) : Type 0 where
  pub quiet : new.quiet ≡ old.quiet
  pub queues : (t : ℕ) → new.queue t ≡ old.queue t

-- ---- ask

-- a client's ask as the marks have it
abbrev pub start_ask_of : FwdAsk → StartAsk
start_ask_of what = record {
  kind = what.kind;
  listen_host = what.listen_host.now;
  listen_port = what.listen_port;
  connect_host = what.connect_host.now;
  connect_port = what.connect_port;
  path = false;
}

-- the marks that a request adds: none if memory runs out
abbrev pub ask_marks : {E : Type 0} → Result HouseReply E → ℕ → ℕ → Bool → FwdAsk
    → List HouseMark
ask_marks (Ok reply) client id opening what =
    HouseAsked client id opening (start_ask_of what) reply ∷ []
ask_marks (Err e) client id opening what = []

-- the open requests after a request with this reply
abbrev pub asks_after : HouseReply → ℕ → ℕ → Bool → List OpenAsk → List OpenAsk
asks_after Later client id opening asks =
    asks ++ record { client = client; id = id; opening = opening } ∷ []
asks_after Done client id opening asks = asks
asks_after (Port port) client id opening asks = asks
asks_after Refused client id opening asks = asks

abbrev pub known_after_ask : HouseReply → ℕ → ℕ → Bool → Known → Known
known_after_ask reply client id opening known =
    record known { asks = asks_after reply client id opening known.asks }

-- ---- answer

-- whether an open ask has this client and id
abbrev pub is_ask : ℕ → ℕ → OpenAsk → Bool
is_ask client id ask = (ask.client == client) && (ask.id == id)

-- whether one of the open requests is an opening one or a closing one with this client and id
abbrev pub has_ask : ℕ → ℕ → Bool → List OpenAsk → Bool
has_ask client id true asks = list_any (λ a. is_ask client id a && a.opening) asks
has_ask client id false asks = list_any (λ a. is_ask client id a && not a.opening) asks

-- the open requests without the first that has this client and id
abbrev pub without_ask : ℕ → ℕ → List OpenAsk → List OpenAsk
without_ask client id [] = []
without_ask client id (ask ∷ asks) =
    let later = without_ask client id asks in
    if is_ask client id ask then asks else ask ∷ later

-- which reply the first open ask of a client and id may get: Port only where it is an opening one
abbrev pub ReplyFits : HouseReply → ℕ → ℕ → List OpenAsk → Type 0
ReplyFits Done client id asks = IsTrue (list_any (is_ask client id) asks)
ReplyFits Refused client id asks = IsTrue (list_any (is_ask client id) asks)
ReplyFits (Port port) client id asks = IsTrue (has_ask client id true asks)
ReplyFits Later client id asks = ⊥

-- which answer may be given
abbrev pub AnswerFits : Option (ℕ × ℕ × HouseReply) → List OpenAsk → Type 0
AnswerFits None asks = Unit {0}
AnswerFits (Some a) asks = ReplyFits a.2 a.0 a.1 asks

abbrev pub answer_marks : Option (ℕ × ℕ × HouseReply) → List HouseMark
answer_marks None = []
answer_marks (Some a) = HouseAnswer a.0 a.1 a.2 ∷ []

abbrev pub known_after_answer : Option (ℕ × ℕ × HouseReply) → Known → Known
known_after_answer None known = known
known_after_answer (Some a) known = record known { asks = without_ask a.0 a.1 known.asks }

-- whether no answer came
abbrev pub gives_none : {X : Type 0} → Option X → Bool
gives_none None = true
gives_none (Some x) = false

-- ---- sends and accepts

-- what was sent has a byte at least, and fits a piece
abbrev pub SendsFits : {E : Type 0} → Result Bool E → List ℕ → Type 0
SendsFits (Ok true) bytes = (0 < length bytes) × (length bytes ≤ LONGEST_PIECE)
SendsFits (Ok false) bytes = Unit {0}
SendsFits (Err e) bytes = Unit {0}

abbrev pub sends_marks : {E : Type 0} → Result Bool E → List ℕ → List HouseMark
sends_marks (Ok true) bytes = HouseSaid bytes ∷ []
sends_marks (Ok false) bytes = []
sends_marks (Err e) bytes = []

-- whether it reported that it has nothing to send
abbrev pub sends_nothing : {E : Type 0} → Result Bool E → Bool
sends_nothing (Ok true) = false
sends_nothing (Ok false) = true
sends_nothing (Err e) = false

abbrev pub takes_marks : {E : Type 0} → Result (Unit {0}) E → List ℕ → List HouseMark
takes_marks (Ok x) bytes = HouseTook (length bytes) ∷ []
takes_marks (Err e) bytes = []

-- ---- order

-- which orders may be given: of its own listeners and streams
abbrev pub OrderFits : Option Order → Known → Type 0
OrderFits None known = Unit {0}
OrderFits (Some (Listen host port)) known = Unit {0}
OrderFits (Some (Connect host port)) known = Unit {0}
OrderFits (Some (Unlisten l)) known = IsTrue (among l known.listeners)
OrderFits (Some (Pause t)) known = IsTrue (is_one t known.streams)
OrderFits (Some (Resume t)) known = IsTrue (is_one t known.streams)
OrderFits (Some (Finish t)) known = IsTrue (is_one t known.streams)
OrderFits (Some (Close t)) known = IsTrue (is_one t known.streams)

-- the marks that an order adds: that of a Listen or a Connect comes with its number
abbrev pub order_marks : Option Order → List HouseMark
order_marks None = []
order_marks (Some (Listen host port)) = []
order_marks (Some (Connect host port)) = []
order_marks (Some (Unlisten l)) = HouseOrder (Unlisten l) None ∷ []
order_marks (Some (Pause t)) = HouseOrder (Pause t) None ∷ []
order_marks (Some (Resume t)) = HouseOrder (Resume t) None ∷ []
order_marks (Some (Finish t)) = HouseOrder (Finish t) None ∷ []
order_marks (Some (Close t)) = HouseOrder (Close t) None ∷ []

abbrev pub known_after_order : Option Order → Known → Known
known_after_order None known = known
known_after_order (Some (Listen host port)) known =
    record known { ordering = Some (Listen host port) }
known_after_order (Some (Connect host port)) known =
    record known { ordering = Some (Connect host port) }
known_after_order (Some (Unlisten l)) known =
    record known { listeners = without l known.listeners }
known_after_order (Some (Pause t)) known =
    record known { streams = with_pause true t known.streams }
known_after_order (Some (Resume t)) known =
    record known { streams = with_pause false t known.streams }
known_after_order (Some (Finish t)) known =
    record known { streams = with_finish t known.streams }
known_after_order (Some (Close t)) known =
    record known { streams = without_stream t known.streams }

-- ---- ordered

-- a number is none of its listeners and streams
pub record IsNewTo (known : Known) (number : ℕ) : Type 0 where
  pub no_listener : among number known.listeners ≡ false
  pub no_stream : is_one number known.streams ≡ false

-- which number may be reported
abbrev pub HouseNumberFits : Option ℕ → Known → Type 0
HouseNumberFits None known = Unit {0}
HouseNumberFits (Some number) known = IsNewTo known number

-- what was ordered has this number from now on
abbrev pub with_number : Option Order → Option ℕ → Known → Known
with_number (Some (Listen host port)) (Some n) known =
    record known { listeners = known.listeners ++ n ∷ []; ordering = None }
with_number (Some (Connect host port)) (Some n) known =
    record known { streams = known.streams ++ new_stream n ∷ []; ordering = None }
with_number order number known = record known { ordering = None }

abbrev pub known_after_ordered : Option ℕ → Known → Known
known_after_ordered number known = with_number known.ordering number known

abbrev pub ordered_marks : Option Order → Option ℕ → List HouseMark
ordered_marks None number = []
ordered_marks (Some order) number = HouseOrder order number ∷ []

-- ---- turn

-- a stream of its own that isn't paused by its orders and hasn't ended
pub record KnownGives (known : Known) (t : ℕ) : Type 0 where
  pub own : IsTrue (is_one t known.streams)
  pub loud : is_silent t known.streams ≡ false

-- which turns may be handed on
abbrev pub OwnTurnFits : OwnTurn → Known → Quiet → Type 0
OwnTurnFits (Joined l t) known quiet = IsTrue (among l known.listeners) × IsNewTo known t
OwnTurnFits (Got t bytes) known quiet =
    KnownGives known t × IsAtRest quiet × (0 < length bytes.now) × (length bytes.now ≤ LONGEST_PIECE)
OwnTurnFits (End t) known quiet = KnownGives known t
OwnTurnFits (Writable t) known quiet = IsTrue (is_one t known.streams)
OwnTurnFits (Failed t) known quiet = IsTrue (is_one t known.streams)

abbrev pub known_after_own_turn : OwnTurn → Known → Known
known_after_own_turn (Joined l t) known =
    record known { streams = known.streams ++ new_stream t ∷ [] }
known_after_own_turn (Got t bytes) known = known
known_after_own_turn (End t) known = record known { streams = with_end t known.streams }
known_after_own_turn (Writable t) known = known
known_after_own_turn (Failed t) known = known

-- ---- queues

-- what waits for a stream after another stream, or this one, accepted so many bytes
abbrev pub queue_after_took : ℕ → ℕ → ℕ → List ℕ → List ℕ
queue_after_took stream n t queue = if t == stream then drop n queue else queue
