-- What is kept of a forwarder, and what its marks and the wire's streams are to each other.
use Rattle.std.specs.Prelude.{◌≡◌, ◌<◌, ◌≤◌, ℕ, Bool, true, false, not, List, [], ◌∷◌, ◌++◌, filter, length, Option, Some, None, IsTrue, OnOk, Result}
use Rattle.mux_outside.specs.House.{HouseState, IsAtRest, Known, OffersSame, OpenAsk, Quiet}
use Rattle.mux_outside.specs.HouseCalls.{HandsOn, HouseCall}
use Rattle.mux_outside.specs.OwnStreams.{is_one, is_own, numbers_of}
use Rattle.mux_outside.specs.Seen.{Seen}
use Rattle.mux_outside.specs.Streams.{among}
use Rattle.mux_outside.specs.WireState.{WireState}
use Rattle.mux_outside.specs.declared.house_mark.HouseMark.{HouseMark}
use Rattle.mux_outside.specs.declared.turn.Want.{Want}
use Rattle.mux_outside.specs.declared.turn.Want.TheVariants.{Read}
use Rattle.mux_outside.specs.declared.own_streams.OwnStream.{OwnStream}
use Rattle.mux_outside.specs.declared.own_turn.OwnTurn.{OwnTurn}
use Rattle.mux_outside.specs.declared.house_mark.HouseMark.TheVariants.{HouseIn}
use Rattle.mux_outside.specs.declared.mark.Mark.{Mark}
use Rattle.mux_outside.specs.declared.mark.Mark.TheVariants.{House}
use Rattle.mux_history.specs.declared.ended.Ended.{Ended}
use Rattle.mux_history.specs.declared.limits.TheConstants.{HOUSE}
use Rattle.mux_history.specs.Promises.{is_house_request, is_empty}
use Rattle.mux_state.specs.State.{EngineState}
use Rattle.mux_engine.specs.Turns.{failed_received, held_received, own_received}
use Rattle.mux_engine.specs.declared.room.Lists.{Lists}

-- ---- the forwarder's marks of a journal

-- the mark of a forwarder, which it records too unless it is that it is admitted
abbrev pub house_mark : Mark → List HouseMark
house_mark (House HouseIn) = []
house_mark (House mark) = mark ∷ []
house_mark mark = []

-- all that it records, the oldest first
abbrev pub house_marks : List Mark → List HouseMark
house_marks [] = []
house_marks (mark ∷ before) = house_marks before ++ house_mark mark

-- its requests
abbrev pub ask_marks_in : List HouseMark → List HouseMark
ask_marks_in marks = filter is_house_request marks

-- ---- a forwarder and what is noted of it

-- what it recorded; its open requests; the last of what it recorded, which is not noted yet;
-- whether it was admitted as a client; and its calls since the run began
pub record Side : Type 0 where
  pub recorded : Option (List HouseMark)
  pub asks : List OpenAsk
  pub unnoted : List HouseMark
  pub let_in : Bool
  pub calls : List HouseCall

-- a forwarder that is admitted where it is present, with this that is not noted yet
abbrev pub noting : List HouseMark → Option (List HouseMark) → Known → List HouseCall → Side
noting unnoted recorded known calls = record {
  recorded = recorded;
  asks = known.asks;
  unnoted = unnoted;
  let_in = known.present;
  calls = calls;
}

-- all of it is noted
abbrev pub all_marks_noted : Option (List HouseMark) → Known → List HouseCall → Side
all_marks_noted recorded known calls = noting [] recorded known calls

-- one that was not admitted yet
abbrev pub outside : Option (List HouseMark) → Known → List HouseCall → Side
outside recorded known calls = record (all_marks_noted recorded known calls) { let_in = false }

-- how a forwarder is right before a wait: it has nothing to order and nothing to answer, and it is
-- at rest where more is read; and no forwarding of the start was refused where none may be
pub record HouseWaits (want : Want) (quiet : Quiet) (must : Bool) (refused : Option ℕ) :
    Type 0 where
  pub orders : quiet.orders ≡ true
  pub answers : quiet.answers ≡ true
  pub rests : want ≡ Read → IsAtRest quiet
  pub permitted : IsTrue must → refused ≡ None

-- a forwarder knows these as its listeners and its streams, and waits for the number of none
pub record Knows (known : Known) (listeners : List ℕ) (own : List OwnStream) : Type 0 where
  pub listeners_are : known.listeners ≡ listeners
  pub streams_are : known.streams ≡ own
  pub none_awaited : known.ordering ≡ None

-- what may be so of a forwarder right before a wait for this, by what it recorded, by its calls since
-- the run began, by the listeners and streams of its own that are open, and by those of its streams
-- that are waited for and those that have not failed
abbrev pub AtWaits : Type 1
AtWaits = Want → Option (List HouseMark) → List HouseCall → List ℕ → List OwnStream → List ℕ
    → List ℕ → Type 0

-- whether a forwarder is present, and what is so of it right before a wait
pub record Resting : Type 1 where
  pub present : Bool
  pub rests : AtWaits

-- of the streams that have not failed exactly those are waited for for which something waits
abbrev pub OwnWaitedFor : (ℕ → List ℕ) → List ℕ → List ℕ → Type 0
OwnWaitedFor queue waiting unfailed = waiting ≡ filter (λ t. not (is_empty (queue t))) unfailed

-- there is a forwarder that has recorded this, knows these listeners and streams and is as it is
-- right before a wait, for all of whose streams it waits for which it must, and to which the first
-- one came by these calls, unless none is present
abbrev pub RestsOf : {T : Type 0} → (T → HouseState) → Bool → T → Resting
RestsOf {T} state present first = record {
  present = present;
  rests = λ want now calls listeners own waiting unfailed. IsTrue present
      → (house : T)
      × (HouseWaits want (state house).quiet (state house).must (state house).refused
      × ((state house).recorded ≡ now)
      × HandsOn (state first).stands (state house).stands calls
      × Knows (state house).known listeners own
      × OwnWaitedFor (state house).queue waiting unfailed);
}

-- ---- its streams and listeners

-- the same streams are open, and the same listeners; and clients aren't accepted where they weren't
pub record SameSockets (old new : Seen) : Type 0 where
  pub streams : new.streams ≡ old.streams
  pub listeners : new.listeners ≡ old.listeners
  pub own : new.own ≡ old.own
  pub last_own : new.last_own ≡ old.last_own
  pub silence : new.listens ≡ true → old.listens ≡ true

-- and the same are blocked
pub record SameStreamsSeen (old new : Seen) : Type 0 where
  pub places : SameSockets old new
  pub blocked : new.blocked ≡ old.blocked

-- the wire's own streams are the open ones with numbers of their own, and its listeners have such
-- numbers as were given
pub record OwnPlaces (seen : Seen) : Type 0 where
  pub opened : (t : ℕ) → IsTrue (is_one t seen.own) → IsTrue (among t seen.streams)
  pub numbered : (t : ℕ) → IsTrue (is_one t seen.own) → IsTrue (is_own t)
  pub listed : (t : ℕ) → IsTrue (among t seen.streams) → IsTrue (is_own t) → IsTrue (is_one t seen.own)
  pub given : (t : ℕ) → IsTrue (is_one t seen.own) → t ≤ seen.last_own
  pub listening : (l : ℕ) → IsTrue (among l seen.listeners) → l ≤ seen.last_own

-- what is known of the forwarder is what the wire has seen of it; these are the numbers of its
-- streams
pub record Housed (known : Known) (seen : Seen) (own : List ℕ) : Type 0 where
  pub ordering : known.ordering ≡ None
  pub listeners : known.listeners ≡ seen.listeners
  pub streams : known.streams ≡ seen.own
  pub own_is : own ≡ numbers_of seen.own
  pub places : OwnPlaces seen

-- where there is no forwarder, it has no listener and no stream
pub record IsAlone (known : Known) : Type 0 where
  pub listeners : known.present ≡ false → known.listeners ≡ []
  pub streams : known.present ≡ false → known.streams ≡ []

-- all of it, and which streams are blocked
pub record Together (house : HouseState) (wire : WireState) (lists : Lists) : Type 0 where
  pub housed : Housed house.known wire.seen lists.own
  pub alone : IsAlone house.known
  pub held_is : lists.held ≡ wire.seen.blocked

-- only its requests changed
pub record SameHouse (old new : Known) : Type 0 where
  pub present : new.present ≡ old.present
  pub ordering : new.ordering ≡ old.ordering
  pub listeners : new.listeners ≡ old.listeners
  pub streams : new.streams ≡ old.streams

-- whether there is a forwarder stays, and whether the run ends where a forwarding of the start is
-- refused
pub record StaysHouse {A E : Type 0} (result : Result A E) (old new : HouseState) : Type 0 where
  pub present : OnOk result (new.known.present ≡ old.known.present)
  pub must : new.must ≡ old.must

-- of what is known of it only its requests changed
pub record OnlyAsked {A E : Type 0} (result : Result A E) (old new : HouseState) : Type 0 where
  pub known : OnOk result (SameHouse old.known new.known)
  pub must : new.must ≡ old.must

-- nothing of what is known of it changed
pub record SameKnown {A E : Type 0} (result : Result A E) (old new : HouseState) : Type 0 where
  pub known : OnOk result (new.known ≡ old.known)
  pub must : new.must ≡ old.must

-- nor did it record anything
pub record OnlyTook {A E : Type 0} (result : Result A E) (old new : HouseState) : Type 0 where
  pub known : OnOk result (new.known ≡ old.known)
  pub must : new.must ≡ old.must
  pub recorded : new.recorded ≡ old.recorded

-- it gave no order, and nothing changed but that
pub record OrderedNothing (old new : HouseState) (lists lists' : Lists) : Type 0 where
  pub same : OffersSame old new
  pub orders : new.quiet.orders ≡ true
  pub still : lists' ≡ lists

-- it had no answer
pub record AnsweredNothing (old new : HouseState) : Type 0 where
  pub answers : new.quiet.answers ≡ true
  pub queues : (t : ℕ) → new.queue t ≡ old.queue t

-- it had an answer to one of its requests, or none
abbrev pub AnsweredOr : Bool → HouseState → HouseState → Type 0
AnsweredOr true old new = length new.known.asks < length old.known.asks
AnsweredOr false old new = AnsweredNothing old new

-- it had nothing to send, and nothing changed
pub record SentNothing (old new : HouseState) (seen seen' : Seen) (s s' : EngineState) : Type 0 where
  pub same : OffersSame old new
  pub says : new.quiet.says ≡ true
  pub engine : s' ≡ s
  pub seen_is : seen' ≡ seen

-- ---- what is received of its streams

-- the lists after what one of them recorded
pub record OwnReceivedBy (recorded : OwnTurn) (old new : Lists) : Type 0 where
  pub own : new.own ≡ own_received recorded old.own
  pub held : new.held ≡ held_received recorded old.held
  pub failed : new.failed ≡ failed_received recorded old.failed
