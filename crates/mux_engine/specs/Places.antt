-- What the marks of a journal leave open of the master's own listeners and streams.
use Rattle.std.specs.Prelude.{◌==◌, ◌≡◌, ℕ, Bool, true, false, not, List, [], ◌∷◌, ◌++◌, filter, Option, Some, IsTrue}
use Rattle.mux_outside.specs.OwnStreams.{is_finished, is_one, is_own, is_silent, new_stream, numbers_of, with_end, with_finish, with_pause, without_stream}
use Rattle.mux_outside.specs.Seen.{Seen}
use Rattle.mux_outside.specs.Streams.{among, without}
use Rattle.mux_outside.specs.declared.house_mark.HouseMark.TheVariants.{HouseOrder}
use Rattle.mux_outside.specs.declared.mark.Mark.{Mark}
use Rattle.mux_outside.specs.declared.mark.Mark.TheVariants.{Waits, Gets, Ends, Frees, Fails, Takes, Holds, WriteFails, Joins, House}
use Rattle.mux_outside.specs.declared.order.Order.{Order}
use Rattle.mux_outside.specs.declared.order.Order.TheVariants.{Listen, Connect, Unlisten, Pause, Resume, Finish, Close}
use Rattle.mux_outside.specs.declared.own_streams.OwnStream.{OwnStream}
use Rattle.mux_outside.specs.declared.shown.Shown.{Shown}
use Rattle.mux_history.specs.declared.limits.TheConstants.{HOUSE}
use Rattle.mux_history.specs.Promises.{Throughout, has_failed}

-- the streams after an order, whose number is that of what it made
abbrev pub own_ordered : Order → Option ℕ → List OwnStream → List OwnStream
own_ordered (Connect host port) (Some t) own = own ++ new_stream t ∷ []
own_ordered (Pause t) number own = with_pause true t own
own_ordered (Resume t) number own = with_pause false t own
own_ordered (Finish t) number own = with_finish t own
own_ordered (Close t) number own = without_stream t own
own_ordered order number own = own

-- the listeners after it
abbrev pub listeners_ordered : Order → Option ℕ → List ℕ → List ℕ
listeners_ordered (Listen host port) (Some l) listeners = listeners ++ l ∷ []
listeners_ordered (Unlisten l) number listeners = without l listeners
listeners_ordered order number listeners = listeners

-- both after a mark
abbrev pub own_marked : Mark → List OwnStream → List OwnStream
own_marked (Joins l t) own = own ++ new_stream t ∷ []
own_marked (Ends t) own = with_end t own
own_marked (House (HouseOrder order number)) own = own_ordered order number own
own_marked mark own = own

abbrev pub listeners_marked : Mark → List ℕ → List ℕ
listeners_marked (House (HouseOrder order number)) listeners =
    listeners_ordered order number listeners
listeners_marked mark listeners = listeners

-- both after all marks
abbrev pub own_in : List Mark → List OwnStream
own_in [] = []
own_in (mark ∷ before) = own_marked mark (own_in before)

abbrev pub listeners_in : List Mark → List ℕ
listeners_in [] = []
listeners_in (mark ∷ before) = listeners_marked mark (listeners_in before)

-- the numbers of those that have not failed
abbrev pub unfailed_in : List Mark → List ℕ
unfailed_in journal = filter (λ t. not (has_failed t journal)) (numbers_of (own_in journal))

-- ---- what is so of each mark

-- what a wire shows of the master's own at a wait is what those marks leave: its streams among the
-- open ones, in the order in which they were opened; how each stands; and its listeners
pub record ShowsOwn (before : List Mark) (streams : List ℕ) (shown : Shown) : Type 0 where
  pub numbers : filter is_own streams ≡ numbers_of (own_in before)
  pub own : shown.own ≡ own_in before
  pub listeners : shown.listeners ≡ listeners_in before

-- of a wait
abbrev pub OpenOwn : List Mark → Mark → Type 0
OpenOwn before (Waits waiting want streams shown) = ShowsOwn before streams shown
OpenOwn before mark = Unit {0}

-- it is one of these that gives something: it is not paused, and has not ended
pub record IsGiving (t : ℕ) (own : List OwnStream) : Type 0 where
  pub is : IsTrue (is_one t own)
  pub speaks : is_silent t own ≡ false

-- what an own stream gives comes from one that gives something
abbrev pub GivesOwn : List Mark → Mark → Type 0
GivesOwn before (Gets t bytes) = IsTrue (is_own t) → IsGiving t (own_in before)
GivesOwn before (Ends t) = IsTrue (is_own t) → IsGiving t (own_in before)
GivesOwn before mark = Unit {0}

-- it is one of those that are open and accepts bytes: it is not finished, and has not failed
pub record IsTaking (t : ℕ) (before : List Mark) : Type 0 where
  pub is : IsTrue (is_one t (own_in before))
  pub unfinished : is_finished t (own_in before) ≡ false
  pub unfailed : has_failed t before ≡ false

-- an own stream is written to only where it accepts bytes
abbrev pub WritesOwn : List Mark → Mark → Type 0
WritesOwn before (Takes t bytes accepts) = IsTrue (is_own t) → IsTaking t before
WritesOwn before (Holds t) = IsTrue (is_own t) → IsTaking t before
WritesOwn before (WriteFails t) = IsTrue (is_own t) → IsTaking t before
WritesOwn before mark = Unit {0}

-- a socket is accepted at an open listener
abbrev pub JoinsOwn : List Mark → Mark → Type 0
JoinsOwn before (Joins l t) = IsTrue (among l (listeners_in before))
JoinsOwn before mark = Unit {0}

-- it records what happened to this stream
abbrev pub is_mark_about : ℕ → Mark → Bool
is_mark_about t (Gets stream bytes) = stream == t
is_mark_about t (Ends stream) = stream == t
is_mark_about t (Frees stream) = stream == t
is_mark_about t (Fails stream) = stream == t
is_mark_about t (Takes stream bytes accepts) = stream == t
is_mark_about t (Holds stream) = stream == t
is_mark_about t (WriteFails stream) = stream == t
is_mark_about t mark = false

-- nothing ever happens to a stream with the number of the forwarder, which has none
abbrev pub IsOfOthers : List Mark → Mark → Type 0
IsOfOthers before mark = is_mark_about HOUSE mark ≡ false

-- all of it
pub record IsMarkPlaced (before : List Mark) (mark : Mark) : Type 0 where
  pub opened : OpenOwn before mark
  pub gives : GivesOwn before mark
  pub writes : WritesOwn before mark
  pub joins : JoinsOwn before mark
  pub others : IsOfOthers before mark

-- each of it throughout
pub record KeepsOwn (journal : List Mark) : Type 0 where
  pub opened : Throughout OpenOwn journal
  pub gives : Throughout GivesOwn journal
  pub writes : Throughout WritesOwn journal
  pub joins : Throughout JoinsOwn journal
  pub others : Throughout IsOfOthers journal

-- ---- a wire after its marks

-- its own streams and listeners are those of the marks, and its own streams are open
pub record HasPlaces (seen : Seen) (journal : List Mark) : Type 0 where
  pub own : seen.own ≡ own_in journal
  pub listeners : seen.listeners ≡ listeners_in journal
  pub streams : filter is_own seen.streams ≡ numbers_of seen.own
