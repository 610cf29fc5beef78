-- The answers that the forwarder sends to the server's OPENs.
use Rattle.std.specs.Prelude.{◌≡◌, ◌⊎◌, ◌==◌, ℕ, Bool, true, List, ◌∷◌, ◌++◌, get_or, Some, None}
use Rattle.ssh_grammar.specs.declared.numbers.TheConstants.{CHANNEL_OPEN_CONFIRMATION, CHANNEL_OPEN_FAILURE}
use Rattle.mux_outside.specs.HouseCalls.{HouseCall, Happening, Marks, Turns, Writable, Failed}
use Rattle.mux_outside.specs.declared.house_mark.HouseMark.TheVariants.{HouseSaid, HouseOrder}
use Rattle.mux_outside.specs.declared.order.Order.TheVariants as order
use Rattle.house_relay.specs.declared.line.ChannelState.TheVariants.{Offered}
use Rattle.house_forward.specs.Closing.{IsStream}
use Rattle.house_forward.specs.Connects.{ConnectPlace}
use Rattle.house_forward.specs.RelayTraces.{Life, Trace, Follows, TraceReaches, first_trace}
use Rattle.house_forward.specs.Said.{framed, confirmation_of_open, not_connected}

-- whether what is sent is an OPEN_CONFIRMATION, or an OPEN_FAILURE: its payload begins after the
-- length and the padding of its frame
abbrev pub is_confirmation : List ℕ → Bool
is_confirmation bytes = get_or bytes 5 0 == CHANNEL_OPEN_CONFIRMATION

abbrev pub is_failure : List ℕ → Bool
is_failure bytes = get_or bytes 5 0 == CHANNEL_OPEN_FAILURE

-- a Connect to there got this number, and this happened to that stream after it
pub record HasHappened (calls : List HouseCall) (to : ConnectPlace) (t : ℕ)
    (happening : Happening) : Type 0 where
  pub before : List HouseCall
  pub between : List HouseCall
  pub behind : List HouseCall
  pub are : calls ≡ before ++ Marks (HouseOrder (order.Connect to.0 to.1) (Some t))
      ∷ (between ++ Turns happening ∷ behind)

-- a Connect to there got no number
pub record HasNoNumber (calls : List HouseCall) (to : ConnectPlace) : Type 0 where
  pub before : List HouseCall
  pub behind : List HouseCall
  pub are : calls ≡ before ++ Marks (HouseOrder (order.Connect to.0 to.1) None) ∷ behind

-- its stream got its number from a Connect to where it is to be connected, and failed then
pub record HasFailedSince (calls : List HouseCall) (l : Life) (to : ConnectPlace) : Type 0 where
  pub stream : ℕ
  pub its : IsStream l.own stream
  pub failed : HasHappened calls to stream (Failed stream)

-- one of the relays, which the server opened and the forwarder didn't answer yet
pub record IsUnanswered (relay_traces : List Life) (l : Life) (remote : ℕ) (to : ConnectPlace) : Type 0 where
  pub before : List Life
  pub behind : List Life
  pub were : relay_traces ≡ before ++ l ∷ behind
  pub window : ℕ
  pub maximum : ℕ
  pub line : l.relay.line ≡ Offered remote window maximum
  pub there : l.to ≡ Some to

-- what is sent confirms the OPEN of one whose stream a Connect to where that is to be connected
-- made, and which was writable since
pub record IsConfirmationOf (calls : List HouseCall) (relay_traces : List Life) (bytes : List ℕ) : Type 0
  where
    pub life : Life
    pub remote : ℕ
    pub to : ConnectPlace
    pub stream : ℕ
    pub unanswered : IsUnanswered relay_traces life remote to
    pub says : bytes ≡ framed (confirmation_of_open remote life.relay.number)
    pub its : IsStream life.own stream
    pub writable : HasHappened calls to stream (Writable stream)

abbrev pub ConfirmsConnected : Type 0
ConfirmsConnected = (calls : List HouseCall) (trace next : Trace) (bytes : List ℕ)
    → TraceReaches first_trace calls trace
    → Follows (Marks (HouseSaid bytes)) trace next → is_confirmation bytes ≡ true
    → IsConfirmationOf calls trace.relay_traces bytes

-- what is sent refuses the OPEN of one whose Connect got no number, or whose stream failed
pub record IsFailureOf (calls : List HouseCall) (relay_traces : List Life) (bytes : List ℕ) : Type 0 where
  pub life : Life
  pub remote : ℕ
  pub to : ConnectPlace
  pub unanswered : IsUnanswered relay_traces life remote to
  pub says : bytes ≡ framed (not_connected remote)
  pub cause : HasNoNumber calls to ⊎ HasFailedSince calls life to

abbrev pub RefusesUnconnected : Type 0
RefusesUnconnected = (calls : List HouseCall) (trace next : Trace) (bytes : List ℕ)
    → TraceReaches first_trace calls trace
    → Follows (Marks (HouseSaid bytes)) trace next → is_failure bytes ≡ true
    → IsFailureOf calls trace.relay_traces bytes
