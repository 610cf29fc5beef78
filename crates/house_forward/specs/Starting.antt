-- The outcome of the forwardings that are requested at the start.
use Rattle.std.specs.Prelude.{◌≡◌, ◌⊎◌, ◌≤◌, ℕ, true, List, [], ◌∷◌, ◌++◌, slice_get, Option, Some, None}
use Rattle.mux_outside.specs.HouseCalls.{HouseCall}
use Rattle.mux_outside.specs.declared.start_ask.StartAsk.{StartAsk}
use Rattle.mux_outside.specs.declared.starts.Starts.{Starts}
use Rattle.house_forward.specs.Causes.{AreOne, IsFor, ForwarderIsAtRest}
use Rattle.house_forward.specs.ForwarderEvents.{ForwarderEvent, Leave}
use Rattle.house_forward.specs.ForwarderEvents.{Begins, Requests, Listens}
use Rattle.house_forward.specs.ForwardingState.{ForwardingState, empty_forwarding_state, standing_at}
use Rattle.house_forward.specs.Forwardings.{AskedAtStart as BeginsAt, Standing, opens_of, standing, forwarding_request_of}
use Rattle.house_forward.specs.RelayTraces.{Held, HasLived}
use Rattle.house_forward.specs.Quiet.{quiet_of}
use Rattle.house_forward.specs.Rules.{AreEnds, is_ruled_out, rules_of}
use Rattle.house_forward.specs.declared.asks.ImmediateOutcome.TheVariants.{Now}
use Rattle.house_forward.specs.declared.asks.RequestOutcome.TheVariants.{Refused}
use Rattle.house_forward.specs.declared.forwarding.Forwarding.{Forwarding}
use Rattle.house_forward.specs.declared.forwarding.ForwardingRequest.TheVariants.{Listen}
use Rattle.house_forward.specs.declared.rules.Ends.{Ends}

-- its listener was ordered, where it is to listen; or its request to listen was sent
pub data HasBegun (f : Forwarding) (forwarder_events : List ForwarderEvent) : Type 0 where
  WasOrdered : (number : Option ℕ) (later earlier : List ForwarderEvent)
      → forwarder_events ≡ later ++ Listens f.listen_host f.listen_port number ∷ earlier → HasBegun f forwarder_events
  WasRequested : (first : Forwarding) (later earlier : List ForwarderEvent)
      → forwarder_events ≡ later ++ Requests first ∷ earlier → AreOne f first
      → forwarding_request_of first ≡ Listen first.serial → HasBegun f forwarder_events

-- the request at a place of the start was refused: whatever stands, or for those before it
pub record WasRefused (starts : Starts) (i : ℕ) (ask : StartAsk) : Type 0 where
  pub stood : Standing
  pub before : BeginsAt (rules_of starts) starts.asks i (standing_at empty_forwarding_state) stood
  pub cause : (is_ruled_out (rules_of starts) ask ≡ true) ⊎ ((ends : Ends) × AreEnds (rules_of starts) ask ends
      × (opens_of stood.serials ends stood.all (standing ends stood.all) ≡ Now Refused))

-- one is recorded as refused: this one, or one that was refused before it
abbrev pub IsRecorded : Option ℕ → ℕ → Type 0
IsRecorded None i = ⊥
IsRecorded (Some first) i = first ≤ i

-- the forwarding that it is for has begun
pub record WasServed (starts : Starts) (ask : StartAsk) (forwarder_events : List ForwarderEvent) : Type 0 where
  pub forwarding : Forwarding
  pub is_for : IsFor (rules_of starts) true ask forwarding
  pub begun : HasBegun forwarding forwarder_events

-- of a forwarder that began with these forwardings: at rest each was refused or has begun
abbrev pub EachStart : Type 0
EachStart = (starts : Starts) (later : List ForwarderEvent) (d : ForwardingState) → Leave (later ++ Begins starts ∷ []) d → ForwarderIsAtRest d
    → (i : ℕ) (ask : StartAsk) → slice_get starts.asks i ≡ Some ask
    → (WasRefused starts i ask × IsRecorded d.refused i) ⊎ WasServed starts ask (later ++ Begins starts ∷ [])

-- a forwarder that has nothing to send, to order and to answer is at rest
abbrev pub EachQuiet : Type 0
EachQuiet = (calls : List HouseCall) (h : Held) (lived : HasLived calls h)
    → quiet_of h.forwarding_state.greeted h.forwarding_state.all h.links h.forwarding_state.waiting ≡ record { says = true; orders = true; answers = true }
    → ForwarderIsAtRest lived.trace.forwarding_state
