-- What carrying out an order leaves.
use Rattle.std.specs.Prelude.{◌≡◌, ◌≤◌, ◌⊎◌, ℕ, Bool, true, false, List, [], ◌∷◌, ◌++◌, Option, Some, None, Result, Ok, Err, IsErr}
use Rattle.std.specs.Option.{option_map}
use Rattle.mux_outside.specs.House.{HouseState, Known, OrderFits, known_after_order, known_after_ordered, recorded_more}
use Rattle.mux_outside.specs.HouseCalls.{HandsOn, calls_of}
use Rattle.mux_outside.specs.Seen.{Seen, seen_after_close, seen_after_finish, seen_after_note, seen_after_pause, seen_after_unlisten}
use Rattle.mux_outside.specs.Streams.{without}
use Rattle.mux_outside.specs.Wire.{IsNewOwn}
use Rattle.mux_outside.specs.declared.file_error.FileError.{FileError}
use Rattle.mux_outside.specs.declared.file_error.FileError.TheVariants.{Failed, OutOfMemory}
use Rattle.mux_outside.specs.declared.house_mark.HouseMark.{HouseMark}
use Rattle.mux_outside.specs.declared.house_mark.HouseMark.TheVariants.{HouseOrder}
use Rattle.mux_outside.specs.declared.mark.Mark.TheVariants.{House}
use Rattle.mux_outside.specs.declared.order.Order.{Order}
use Rattle.mux_outside.specs.declared.order.Order.TheVariants.{Listen, Connect, Unlisten, Pause, Resume, Finish, Close}
use Rattle.mux_outside.specs.OwnStreams.{new_stream}
use Rattle.mux_engine.specs.OwnFaults.{OrderCounted}
use Rattle.mux_engine.specs.Sides.{Housed}
use Rattle.mux_engine.specs.declared.room.Lists.{Lists}

-- what is seen then; the number is that of what was made
abbrev pub seen_carried : Order → Option ℕ → Seen → Seen
seen_carried (Listen host port) (Some n) seen =
    record seen { listeners = seen.listeners ++ n ∷ []; last_own = n }
seen_carried (Connect host port) (Some n) seen = record seen {
  streams = seen.streams ++ n ∷ [];
  blocked = seen.blocked ++ n ∷ [];
  own = seen.own ++ new_stream n ∷ [];
  last_own = n;
}
seen_carried (Unlisten l) number seen = seen_after_unlisten l seen
seen_carried (Pause t) number seen = seen_after_pause true t seen
seen_carried (Resume t) number seen = seen_after_pause false t seen
seen_carried (Finish t) number seen = seen_after_finish t seen
seen_carried (Close t) number seen = seen_after_close t seen
seen_carried order number seen = seen

-- an order is to make something
abbrev pub makes : Order → Bool
makes (Listen host port) = true
makes (Connect host port) = true
makes order = false

-- the mark of such an order is recorded as it is carried out
abbrev pub told_carried : Order → Option ℕ → Seen → Seen
told_carried (Listen host port) number seen =
    seen_after_note {E = Unit {0}} (Ok tt) (HouseOrder (Listen host port) number) seen
told_carried (Connect host port) number seen =
    seen_after_note {E = Unit {0}} (Ok tt) (HouseOrder (Connect host port) number) seen
told_carried order number seen = seen

-- the numbers of the forwarder's streams then
abbrev pub own_carried : Order → Option ℕ → List ℕ → List ℕ
own_carried (Connect host port) (Some n) own = own ++ n ∷ []
own_carried (Close t) number own = without t own
own_carried order number own = own

-- those that are blocked then
abbrev pub held_carried : Order → Option ℕ → List ℕ → List ℕ
held_carried (Connect host port) (Some n) held = held ++ n ∷ []
held_carried (Close t) number held = without t held
held_carried order number held = held

-- those that failed then
abbrev pub failed_carried : Order → List ℕ → List ℕ
failed_carried (Close t) failed = without t failed
failed_carried order failed = failed

-- what is known of the forwarder then
abbrev pub known_carried : Order → Option ℕ → Known → Known
known_carried (Listen host port) number known = known_after_ordered number known
known_carried (Connect host port) number known = known_after_ordered number known
known_carried order number known = known

-- what it recorded then, which it did as it gave the order where it makes nothing
abbrev pub more_recorded : Order → Option ℕ → List HouseMark
more_recorded (Listen host port) number = HouseOrder (Listen host port) number ∷ []
more_recorded (Connect host port) number = HouseOrder (Connect host port) number ∷ []
more_recorded order number = []

-- an order makes nothing but a listener or a stream, with a number that is new
abbrev pub OrderMadeBy : Order → Option ℕ → Seen → Type 0
OrderMadeBy (Listen host port) (Some n) seen = IsNewOwn seen.last_own n
OrderMadeBy (Connect host port) (Some n) seen = IsNewOwn seen.last_own n
OrderMadeBy (Listen host port) None seen = Unit {0}
OrderMadeBy (Connect host port) None seen = Unit {0}
OrderMadeBy order number seen = number ≡ None

-- the forwarder gave this order last
pub record HasOrdered (order : Order) (known : Known) (seen : Seen) (own : List ℕ) : Type 0 where
  pub before : Known
  pub housed : Housed before seen own
  pub fits : OrderFits (Some order) before
  pub known_is : known ≡ known_after_order (Some order) before

-- ---- what was made

-- the number of what was made, and none where that failed; running out of memory is no refusal
abbrev pub IsMade : {E : Type 0} → Result ℕ FileError → Result (Option ℕ) E → Type 0
IsMade (Ok n) result = result ≡ Ok (Some n)
IsMade (Err Failed) result = result ≡ Ok None
IsMade (Err OutOfMemory) result = IsErr result

-- ---- what carrying out leaves

-- an order was carried out: what it made has this number
pub record CarriedOut (order : Order) (number : Option ℕ) (seen seen' : Seen) (lists lists' : Lists)
    (house house' : HouseState) : Type 0 where
  pub made : OrderMadeBy order number seen
  pub seen_is : seen' ≡ told_carried order number (seen_carried order number seen)
  pub own : lists'.own ≡ own_carried order number lists.own
  pub held : lists'.held ≡ held_carried order number lists.held
  pub failed : lists'.failed ≡ failed_carried order lists.failed
  pub known : house'.known ≡ known_carried order number house.known
  pub recorded : house'.recorded ≡ recorded_more (more_recorded order number) house.recorded
  pub stands : HandsOn house.stands house'.stands (calls_of (more_recorded order number))

-- nothing more was recorded
pub record ToldNothing (seen seen' : Seen) (house house' : HouseState) : Type 0 where
  pub marks : seen'.recorded ≡ seen.recorded
  pub recorded : house'.recorded ≡ house.recorded

-- a stream was made, and both recorded so
pub record ToldMade (order : Order) (number : ℕ) (seen seen' : Seen) (house house' : HouseState) :
    Type 0 where
  pub makes : makes order ≡ true
  pub made : OrderMadeBy order (Some number) seen
  pub marks : seen'.recorded
      ≡ option_map (λ m. m ++ House (HouseOrder order (Some number)) ∷ []) seen.recorded
  pub recorded : house'.recorded ≡ recorded_more (more_recorded order (Some number)) house.recorded

-- there was no memory for it: nothing was made, or none to keep what was made
abbrev pub NotCarried : Order → Seen → Seen → HouseState → HouseState → Type 0
NotCarried order seen seen' house house' =
    ToldNothing seen seen' house house'
    ⊎ ((number : ℕ) × ToldMade order number seen seen' house house')

abbrev pub Carries : {E : Type 0} → Result (Option ℕ) E → Order → Seen → Seen → Lists → Lists
    → HouseState → HouseState → Type 0
Carries (Ok number) order seen seen' lists lists' house house' =
    CarriedOut order number seen seen' lists lists' house house'
Carries (Err e) order seen seen' lists lists' house house' =
    NotCarried order seen seen' house house'

-- one that got no number was counted as an own fault; if memory runs out none need be, and the
-- count does not fall
abbrev pub CarryCounted : {E : Type 0} → Result (Option ℕ) E → Order → ℕ → ℕ → Type 0
CarryCounted (Ok number) order faults faults' = OrderCounted order number faults faults'
CarryCounted (Err e) order faults faults' = faults ≤ faults'
