-- How the relays go on: a call changes one of them, and it is known which and how.
use Rattle.std.specs.Prelude.{◌≡◌, ◌+◌, ◌<◌, ◌^◌, ℕ, Bool, List, [], ◌∷◌, ◌++◌, length, take, get_or, set, find, IfSome, false, Option, Some, None}
use Rattle.std.specs.List.{position, remove}
use Rattle.conn_messages.specs.declared.message.Message.{Message}
use Rattle.house_relay.specs.Acts.{RelayAct, Reads, Takes, Other}
use Rattle.house_relay.specs.ChannelState.{owed_in}
use Rattle.house_relay.specs.Next.{sends_of}
use Rattle.house_relay.specs.Relay.{RelayGoesOn, RelayMayRead, sent_act}
use Rattle.house_relay.specs.Steps.{Dials, relay_taken_of, made_as}
use Rattle.house_relay.specs.declared.relay.Relay.{Relay}
use Rattle.house_relay.specs.declared.relay.Outgoing.{Outgoing}
use Rattle.mux_outside.specs.OwnStreams.{is_one}
use Rattle.mux_outside.specs.declared.order.Order.{Order}
use Rattle.house_forward.specs.Heard.{received_of, act_received}
use Rattle.house_forward.specs.Links.{streams_of, is_left, relay_after_sending, has_order, IsOrderOf, obeyed, made_stream}
use Rattle.house_forward.specs.declared.link.Link.{Link}
use Rattle.house_forward.specs.declared.link.LinkStream.TheVariants.{Awaited}

-- the relay at a place goes on so, and all else stays
abbrev pub RelayGoesAt : Option ℕ → (Relay → Relay → Type 0) → List Link → List Link → Type 0
RelayGoesAt None so old new = new ≡ old
RelayGoesAt (Some i) so old new = (l : Link) × (r : Relay) × (l ≡ get_or old i l) × so l.relay r
    × (new ≡ set old i (record l { relay = r }))

abbrev pub without_at : Option ℕ → List Link → List Link
without_at None links = links
without_at (Some i) links = remove links i

-- the first of which nothing is left is forgotten
abbrev pub swept : List Link → List Link
swept links = without_at (position is_left links) links

abbrev pub LeavesAt : Option ℕ → (Relay → Relay → Type 0) → List Link → List Link → Type 0
LeavesAt None so old new = new ≡ old
LeavesAt (Some i) so old new = (now : List Link) × RelayGoesAt (Some i) so old now × (new ≡ swept now)

-- ---- how a relay goes on

-- its socket gave these bytes
abbrev pub Gets : Bool → List ℕ → Relay → Relay → Type 0
Gets free bytes old new = Dials free bytes old new
    × (RelayMayRead bytes old → RelayGoesOn old new (Reads bytes)) × (new.number ≡ old.number)

-- it may give them, and the relay represents that too
abbrev pub GetsOn : Bool → List ℕ → Relay → Relay → Type 0
GetsOn free bytes old new = Dials free bytes old new × RelayMayRead bytes old
    × RelayGoesOn old new (Reads bytes) × (new.number ≡ old.number)

-- its socket accepted these bytes, the first of those that wait for it, and the relay represents
-- that too
abbrev pub TakesOn : List ℕ → Relay → Relay → Type 0
TakesOn bytes old new = (new ≡ relay_taken_of (length bytes) old) × RelayGoesOn old new (Takes bytes)
    × (bytes ≡ take (length bytes) old.queue.waiting)

-- unless it is to give back room for 2^64 bytes or more
abbrev pub TakesOf : List ℕ → Relay → Relay → Type 0
TakesOf bytes old new = owed_in old.line + length bytes < 2 ^ 64 → TakesOn bytes old new

-- it sent what it had to send
abbrev pub RelaySays : Relay → Relay → Type 0
RelaySays old new = new ≡ relay_after_sending (sends_of old) old

-- what happens as that is sent
abbrev pub act_of_sending : Option Outgoing → Relay → RelayAct
act_of_sending None r = Other
act_of_sending (Some outgoing) r = sent_act outgoing r

-- it represents that too
abbrev pub RelaySendsOn : Relay → Relay → Type 0
RelaySendsOn old new = RelaySays old new × RelayGoesOn old new (act_of_sending (sends_of old) old)

-- it received a message in its channel
abbrev pub Receives : Message → Relay → Relay → Type 0
Receives message old new = new ≡ received_of message old

-- it represents that too
abbrev pub RelayReceivesOn : Message → Relay → Relay → Type 0
RelayReceivesOn message old new = Receives message old new × RelayGoesOn old new (act_received message old)

-- ---- orders

-- an order is one that the first relay with an order may give of its stream
abbrev pub MayBeFirst : Order → Option Link → Type 0
MayBeFirst o None = ⊥
MayBeFirst o (Some l) = IsOrderOf o l

-- it is obeyed
abbrev pub Obeys : Option Order → List Link → List Link → Type 0
Obeys None old new = new ≡ old
Obeys (Some o) old new = MayBeFirst o (find has_order old) × (new ≡ swept (obeyed o old))

-- the first socket that is to be connected is ordered
abbrev pub AwaitsAt : Option ℕ → List Link → List Link → Type 0
AwaitsAt None old new = new ≡ old
AwaitsAt (Some i) old new = (l : Link) × (l ≡ get_or old i l)
    × (new ≡ set old i (record l { stream = Awaited }))

-- the socket that is awaited is made, or couldn't be: it is the last from now on
abbrev pub MakesAt : Option ℕ → Option ℕ → List Link → List Link → Type 0
MakesAt None number old new = ⊥
MakesAt (Some i) number old new = (l : Link) × (l ≡ get_or old i l)
    × (new ≡ remove old i ++ record {
      relay = record l.relay { socket = made_as number };
      stream = made_stream number;
    } ∷ []) × IfSome number (λ t. is_one t (streams_of old) ≡ false)
