-- What is known of the forwarder, by all that it has except its notes.
use Rattle.std.specs.Prelude.{◌≡◌, ◌≤◌, ◌+◌, ℕ, Bool, true, false, List, [], ◌∷◌, length, Option}
use Rattle.mux_outside.specs.House.{HouseState, Known, Quiet}
use Rattle.mux_outside.specs.HouseCalls.{HouseCall}
use Rattle.mux_outside.specs.declared.greeting.TheConstants.{GREETING}
use Rattle.mux_outside.specs.declared.house_mark.HouseMark.{HouseMark}
use Rattle.mux_outside.specs.declared.order.Order.{Order}
use Rattle.house_forward.specs.Due.{due, most_due}
use Rattle.house_forward.specs.Forwardings.{ListensFirst}
use Rattle.house_forward.specs.Greeting.{sent_in}
use Rattle.house_forward.specs.Known.{known_of}
use Rattle.house_forward.specs.Links.{queue_at, ConnectsFirst}
use Rattle.house_forward.specs.RelayTraces.{Held, forwarder_held_of, GoesFurther, RelaySendsIn, StandsSince}
use Rattle.house_forward.specs.Quiet.{quiet_of}
use Rattle.house_forward.specs.declared.forwarder_state.ForwarderState.{ForwarderState}

-- what it has of that which its calls record
abbrev pub held_in : ForwarderState → Held
held_in has = forwarder_held_of has.relays has.framer has.stage has.rules has.greeted has.forwardings
    has.asks

abbrev pub known_in : ForwarderState → Known
known_in has = known_of has.forwardings.all.items has.relays.all.items has.asks.waiting.items
    has.ordering

abbrev pub quiet_in : ForwarderState → Quiet
quiet_in has = quiet_of has.greeted has.forwardings.all.items has.relays.all.items
    has.asks.waiting.items

-- for how many marks it needs room
abbrev pub due_in : ForwarderState → ℕ
due_in has = due has.forwardings.all.items has.relays.all.items has.asks.waiting.items

-- at most, where so many forwardings, relays and requests may come
abbrev pub most_due_in : ForwarderState → ℕ → ℕ → ℕ → ℕ
most_due_in has forwardings relays asks = most_due (length has.forwardings.all.items + forwardings)
    (length has.relays.all.items + relays) (length has.asks.waiting.items + asks)

-- where it greeted, the first that it sent is the greeting; else it sent nothing
abbrev pub HasGreeted : Bool → List (List ℕ) → Type 0
HasGreeted false said = said ≡ []
HasGreeted true [] = ⊥
HasGreeted true (first ∷ more) = first ≡ GREETING.now

-- the calls were made, and this is what they leave; and it greeted first, however much was accepted
pub record StandsIn (has : ForwarderState) (calls : List HouseCall) : Type 0 where
  pub since : StandsSince has.ordering calls (held_in has)
  pub greeting : HasGreeted has.greeted (sent_in calls)

-- ---- what a call leaves as it was

-- what is known of it, whose number it awaits, and whether the run ends where a forwarding of the
-- start is refused
pub record KnowsSame (old new : ForwarderState) : Type 0 where
  pub known : known_in new ≡ known_in old
  pub ordering : new.ordering ≡ old.ordering
  pub must : new.must ≡ old.must

-- whether it has greeted, and whether the run ends where a forwarding of the start is refused
pub record KeepsWord (old new : ForwarderState) : Type 0 where
  pub greeted : new.greeted ≡ old.greeted
  pub must : new.must ≡ old.must

-- what it receives leaves what is known of it, whether it has greeted, no more forwardings, one
-- relay more at most, and as many requests
pub record StaysKnown (old new : ForwarderState) : Type 0 where
  pub same : KnowsSame old new
  pub greeted : new.greeted ≡ old.greeted
  pub forwardings : length new.forwardings.all.items ≤ length old.forwardings.all.items
  pub relays : length new.relays.all.items ≤ length old.relays.all.items + 1
  pub asks : length new.asks.waiting.items ≡ length old.asks.waiting.items

-- all but its forwardings
pub record ChangesForwardings (old new : ForwarderState) : Type 0 where
  pub relays : new.relays ≡ old.relays
  pub asks : new.asks ≡ old.asks
  pub framer : new.framer ≡ old.framer
  pub stage : new.stage ≡ old.stage
  pub rules : new.rules ≡ old.rules
  pub greeted : new.greeted ≡ old.greeted
  pub ordering : new.ordering ≡ old.ordering
  pub must : new.must ≡ old.must

-- all but its relays
pub record ChangesRelays (old new : ForwarderState) : Type 0 where
  pub forwardings : new.forwardings ≡ old.forwardings
  pub asks : new.asks ≡ old.asks
  pub framer : new.framer ≡ old.framer
  pub stage : new.stage ≡ old.stage
  pub rules : new.rules ≡ old.rules
  pub greeted : new.greeted ≡ old.greeted
  pub ordering : new.ordering ≡ old.ordering
  pub must : new.must ≡ old.must

-- ---- what is sent and ordered

-- a Connect is to the end of the first socket that is to be connected, and a Listen is that of the
-- first forwarding that has no listener yet
pub record OrdersFirst (o : Option Order) (has : ForwarderState) : Type 0 where
  pub connects : ConnectsFirst o has.relays.all.items
  pub listens : ListensFirst o has.forwardings.all.items

-- it sent this: it has greeted then, and where it had not this is the greeting
pub record HasSent (bytes : List ℕ) (old new : ForwarderState) : Type 0 where
  pub goes : GoesFurther (RelaySendsIn bytes) (held_in old) (held_in new)
  pub greeted : new.greeted ≡ true
  pub first : old.greeted ≡ false → bytes ≡ GREETING.now

-- all that is known of it, with the marks that it recorded
abbrev pub house_state_of : Option (List HouseMark) → ForwarderState → HouseState
house_state_of recorded has = record {
  recorded = recorded;
  known = known_in has;
  quiet = quiet_in has;
  queue = λ t. queue_at has.relays.all.items t;
  refused = has.forwardings.refused;
  must = has.must;
  stands = λ calls. StandsIn has calls;
}
