-- What holds of the relays of the forwarder, whatever calls were made.
use Rattle.std.specs.Prelude.{◌≡◌, ◌≤◌, ◌+◌, ◌-◌, true, List, ◌++◌, length, IfSome}
use Rattle.std.specs.List.{All}
use Rattle.mux_outside.specs.HouseCalls.{HouseCall}
use Rattle.house_relay.specs.Acts.{RelayAct, Relays, adjusted, delivered, dialog_replies, accepted_length}
use Rattle.house_relay.specs.Relay.{RelayKeeps, SilentIn, IsResting}
use Rattle.house_relay.specs.declared.TheConstants.{WINDOW}
use Rattle.house_forward.specs.RelayTraces.{Life, Held, HasLived}
use Rattle.house_forward.specs.Quiet.{sends_none, orders_none}

-- each that the calls leave relays, and so did each of which nothing is left
abbrev pub EachRelays : Type 0
EachRelays = (calls : List HouseCall) (h : Held) (lived : HasLived calls h)
    → All (λ l. Relays l.dials l.acts) (lived.trace.relay_traces ++ lived.trace.past)

-- and holds, queues, owes and asks what is left by what happened in it
abbrev pub EachKeeps : Type 0
EachKeeps = (calls : List HouseCall) (h : Held) (lived : HasLived calls h)
    → All (λ l. RelayKeeps l.dials l.acts l.relay) (lived.trace.relay_traces ++ lived.trace.past)

-- the server keeps to the window of a channel: no more data is delivered in it than that and the
-- room that was given back since
abbrev pub KeepsWindow : List RelayAct → Type 0
KeepsWindow acts = length (delivered acts) ≤ WINDOW + adjusted acts

-- where it does, no more waits for the socket than a window, and what is left of the replies of its
-- dialog
abbrev pub IsBounded : Life → Type 0
IsBounded l = KeepsWindow l.acts
    → length l.relay.queue.waiting ≤ WINDOW + (length (dialog_replies l.dials l.acts) - accepted_length l.acts)

-- this is so of each that the calls leave, and of each of which nothing is left
abbrev pub EachIsBounded : Type 0
EachIsBounded = (calls : List HouseCall) (h : Held) (lived : HasLived calls h)
    → All IsBounded (lived.trace.relay_traces ++ lived.trace.past)

-- one is at rest, and so is its stream, while it is open
pub record Rests (l : Life) : Type 0 where
  pub silent : SilentIn l.relay.line l.relay
  pub resting : IfSome l.own (λ own. IsResting l.relay own)

-- where the forwarder has nothing to send and nothing to order, each is at rest
abbrev pub EachRests : Type 0
EachRests = (calls : List HouseCall) (h : Held) (lived : HasLived calls h)
    → sends_none h.forwarding_state.greeted h.forwarding_state.all h.links ≡ true
    → orders_none h.forwarding_state.all h.links h.forwarding_state.waiting ≡ true → All Rests lived.trace.relay_traces
