-- The account of one channel (RFC 4254, section 5.2): rooms, unanswered requests and breaches, as
-- sums over all that was done in it.
use Rattle.std.specs.Prelude.{ℕ, ◌+◌, ◌-◌, ◌==◌, List, [], ◌∷◌, Option, Some, None, true, false, nat_lt}
use Rattle.ssh_grammar.specs.declared.side.Side.{Side}
use Rattle.ssh_grammar.specs.declared.side.Side.TheVariants.{Up, Down}
use Rattle.ssh_grammar.specs.declared.fault.Breach.{Breach}
use Rattle.ssh_grammar.specs.declared.fault.Breach.TheVariants.{NotOpen, AfterClose, AfterEof, PastPacket, PastWindow, Overflow, Unasked, TooManyAsks}
use Rattle.mux_history.specs.declared.limits.TheConstants.{MAX_CHANNEL_REQUESTS, MAX_WINDOW}
use Rattle.mux_history.specs.Summary.{Act, Confirms, Grants, Carries, Ends, Asks, Answers}
use Rattle.mux_history.specs.Channels.{Channel, same_side, any_by, is_closes, is_ends, is_confirmed}

-- the direction back
abbrev pub other_side : Side → Side
other_side Up = Down
other_side Down = Up

-- what one act counts

-- what an adjustment grants
abbrev pub granted_size : Act → ℕ
granted_size (Grants n) = n
granted_size _ = 0

-- the length of data
abbrev pub carried : Act → ℕ
carried (Carries n) = n
carried _ = 0

-- one for a wanted request
abbrev pub request_count : Act → ℕ
request_count (Asks true) = 1
request_count _ = 0

-- one for a reply
abbrev pub reply_count : Act → ℕ
reply_count Answers = 1
reply_count _ = 0

-- the window that a confirmation gives
abbrev pub first_window : Act → ℕ
first_window (Confirms window maximum) = window
first_window _ = 0

-- the maximum that a confirmation gives
abbrev pub packet : Act → ℕ
packet (Confirms window maximum) = maximum
packet _ = 0

-- the sum of a count over what was done in one direction
abbrev pub sum_of : (Act → ℕ) → Side → List (Side × Act) → ℕ
sum_of count way [] = 0
sum_of count way (a ∷ acts) = elim (same_side a.0 way) [
  | true ↦ count a.1 + sum_of count way acts
  | false ↦ sum_of count way acts
]

-- the window that the receiver of a direction gave at first: a channel is confirmed once, so the
-- sum is that one's
abbrev pub initial : Side → Channel → ℕ
initial way x = elim (same_side x.by way) [
  | true ↦ sum_of first_window (other_side way) x.acts
  | false ↦ x.window
]

-- the longest data that the receiver of a direction takes at once: that sum too is the one
-- confirmation's
abbrev pub maximum_of : Side → Channel → ℕ
maximum_of way x = elim (same_side x.by way) [
  | true ↦ sum_of packet (other_side way) x.acts
  | false ↦ x.maximum
]

-- the room of a direction: that window, and all adjustments, without all data
abbrev pub room : Side → Channel → ℕ
room way x = initial way x + sum_of granted_size (other_side way) x.acts - sum_of carried way x.acts

-- the wanted channel requests of a direction that have no reply
abbrev pub unanswered : Side → Channel → ℕ
unanswered way x = sum_of request_count way x.acts - sum_of reply_count (other_side way) x.acts

-- ---- breaches, the first that fits

-- data is longer than a packet may be, or than there is room
abbrev pub packet_breach : ℕ → ℕ → ℕ → Option Breach
packet_breach maximum have n = elim (nat_lt maximum n) [
  | true ↦ Some (PastPacket maximum n)
  | false ↦ elim (nat_lt have n) [ true ↦ Some (PastWindow have n) | false ↦ None ]
]

-- the breach in a channel that is confirmed and not closed by this side
abbrev pub act_breach : Side → Act → Channel → Option Breach
act_breach way (Carries n) x = elim (any_by way is_ends x.acts) [
  | true ↦ Some AfterEof
  | false ↦ packet_breach (maximum_of way x) (room way x) n
]
act_breach way Ends x = elim (any_by way is_ends x.acts) [ true ↦ Some AfterEof | false ↦ None ]
act_breach way (Grants n) x = elim (nat_lt MAX_WINDOW (room (other_side way) x + n)) [
  | true ↦ Some (Overflow (room (other_side way) x) n)
  | false ↦ None
]
act_breach way Answers x =
    elim (unanswered (other_side way) x == 0) [ true ↦ Some Unasked | false ↦ None ]
act_breach way (Asks true) x = elim (nat_lt (unanswered way x) MAX_CHANNEL_REQUESTS) [
  | true ↦ None
  | false ↦ Some (TooManyAsks (unanswered way x))
]
act_breach way _ x = None

-- the breach of one more act in a direction
abbrev pub breach : Side → Act → Channel → Option Breach
breach way act x = elim (is_confirmed x) [
  | false ↦ Some NotOpen
  | true ↦ elim (any_by way is_closes x.acts) [
    | true ↦ Some AfterClose
    | false ↦ act_breach way act x
  ]
]
