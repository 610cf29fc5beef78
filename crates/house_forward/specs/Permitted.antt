-- That the forwarder listens on this machine only where the list of its start permits it.
use Rattle.std.specs.Prelude.{◌≡◌, ℕ, true, List, [], ◌∷◌, ◌++◌, Option}
use Rattle.std.specs.List.{All}
use Rattle.mux_outside.specs.HouseCalls.{HouseCall, Marks, Receives, Turns, Takes}
use Rattle.mux_outside.specs.HouseCalls as call
use Rattle.mux_outside.specs.declared.house_mark.HouseMark.TheVariants.{HouseOrder}
use Rattle.mux_outside.specs.declared.order.Order.TheVariants.{Listen}
use Rattle.mux_outside.specs.declared.starts.ListenPermit.{ListenPermit}
use Rattle.mux_outside.specs.declared.starts.Starts.{Starts}
use Rattle.house_forward.specs.ForwarderEvents.{ForwarderEvent, Does, Leave}
use Rattle.house_forward.specs.ForwarderEvents.{Begins, Asks, Answers, Greets, Requests, Replies, Listens, Unlistens}
use Rattle.house_forward.specs.ForwardingState.{ForwardingState}
use Rattle.house_forward.specs.RelayTraces.{Trace, Follows, TraceReaches, first_trace}
use Rattle.house_forward.specs.Rules.{is_permitted_here, listens_here}
use Rattle.house_forward.specs.declared.forwarding.Forwarding.{Forwarding}

-- ---- by what happened

-- it is no start
abbrev pub StartsNone : ForwarderEvent → Type 0
StartsNone (Begins starts) = ⊥
StartsNone (Asks client id opening ask reply) = Unit {0}
StartsNone (Answers client id reply) = Unit {0}
StartsNone Greets = Unit {0}
StartsNone (Requests f) = Unit {0}
StartsNone (Replies success port) = Unit {0}
StartsNone (Listens host port number) = Unit {0}
StartsNone (Unlistens l) = Unit {0}

-- a forwarding that listens on this machine does so where the list permits it
abbrev pub MayListen : ListenPermit → Forwarding → Type 0
MayListen here f = listens_here f.kind ≡ true
    → is_permitted_here here f.listen_host f.listen_port ≡ true

-- of a forwarder that began so, and once: each forwarding may listen
abbrev pub EachMayListen : Type 0
EachMayListen = (starts : Starts) (later : List ForwarderEvent) (d : ForwardingState)
    → All StartsNone later → Leave (later ++ Begins starts ∷ []) d → All (MayListen starts.here) d.all

-- and each listener that is ordered is one that the list permits
abbrev pub EachListenIsPermitted : Type 0
EachListenIsPermitted = (starts : Starts) (later : List ForwarderEvent) (host : List ℕ) (port : ℕ)
    (number : Option ℕ) (old new : ForwardingState) → All StartsNone later
    → Leave (later ++ Begins starts ∷ []) old → Does (Listens host port number) old new
    → is_permitted_here starts.here host port ≡ true

-- ---- by the calls

-- it is no beginning
abbrev pub BeginsNone : HouseCall → Type 0
BeginsNone (call.Begins starts) = ⊥
BeginsNone (Marks mark) = Unit {0}
BeginsNone (Receives bytes) = Unit {0}
BeginsNone (Turns happening) = Unit {0}
BeginsNone (Takes t bytes) = Unit {0}

-- the same of the orders, whatever calls were made after the beginning
abbrev pub EachOrderIsPermitted : Type 0
EachOrderIsPermitted = (starts : Starts) (calls : List HouseCall) (host : List ℕ) (port : ℕ)
    (number : Option ℕ) (old new : Trace) → All BeginsNone calls
    → TraceReaches first_trace (call.Begins starts ∷ calls) old
    → Follows (Marks (HouseOrder (Listen host port) number)) old new
    → is_permitted_here starts.here host port ≡ true
