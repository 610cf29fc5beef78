-- What the forwarder sends over all its calls: the greeting, once and first, and then frames alone.
use Rattle.std.specs.Prelude.{◌≡◌, ◌⊎◌, ℕ, true, List, [], ◌∷◌, ◌++◌, is_some}
use Rattle.std.specs.List.{All}
use Rattle.mux_outside.specs.HouseCalls.{HouseCall}
use Rattle.mux_outside.specs.HouseCalls.{Begins, Marks, Receives, Turns, Takes}
use Rattle.mux_outside.specs.declared.house_mark.HouseMark.{HouseMark}
use Rattle.mux_outside.specs.declared.house_mark.HouseMark.TheVariants.{HouseIn, HouseSaid, HouseTook, HouseAsked, HouseAnswer, HouseOrder}
use Rattle.house_relay.specs.Next.{sends_of}
use Rattle.house_relay.specs.declared.relay.Relay.{Relay}
use Rattle.house_forward.specs.RelayTraces.{Trace, first_trace, TraceReaches}
use Rattle.house_forward.specs.Said.{framed, relay_sent_by, request_payload}
use Rattle.house_forward.specs.declared.forwarding.Forwarding.{Forwarding}
use Rattle.mux_outside.specs.declared.greeting.TheConstants.{GREETING}

abbrev pub sent_at : HouseMark → List (List ℕ)
sent_at HouseIn = []
sent_at (HouseSaid bytes) = bytes ∷ []
sent_at (HouseTook size) = []
sent_at (HouseAsked client id opening ask reply) = []
sent_at (HouseAnswer client id reply) = []
sent_at (HouseOrder o number) = []

abbrev pub sent_on : HouseCall → List (List ℕ)
sent_on (Begins starts) = []
sent_on (Marks mark) = sent_at mark
sent_on (Receives bytes) = []
sent_on (Turns happening) = []
sent_on (Takes t bytes) = []

-- what it sends, in order
abbrev pub sent_in : List HouseCall → List (List ℕ)
sent_in [] = []
sent_in (call ∷ calls) = sent_on call ++ sent_in calls

-- a frame of a proxy client: the request of a forwarding, or what a relay has to send
abbrev pub IsFrame : List ℕ → Type 0
IsFrame bytes = ((f : Forwarding) × (bytes ≡ framed (request_payload f)))
    ⊎ ((r : Relay) × (is_some (sends_of r) ≡ true) × (bytes ≡ framed (relay_sent_by r)))

-- the first is the greeting, and each after it a frame
abbrev pub GreetsOnce : List (List ℕ) → Type 0
GreetsOnce [] = Unit {0}
GreetsOnce (first ∷ more) = (first ≡ GREETING.now) × All IsFrame more

-- whatever calls were made
abbrev pub EachGreets : Type 0
EachGreets = (calls : List HouseCall) (trace : Trace) → TraceReaches first_trace calls trace
    → GreetsOnce (sent_in calls)
