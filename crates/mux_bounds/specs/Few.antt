-- How many channels, forwardings, requests and clients there are at most: each holds of every right
-- log of a lawful wire, whatever numbers are picked and whatever the forwarder replies.
use Rattle.std.specs.Prelude.{ℕ, ◌+◌, ◌≡◌, ◌≤◌, List, [], false, length}
use Rattle.mux_history.specs.declared.limits.TheConstants.{MAX_CHANNELS, MAX_CLIENTS, MAX_FORWARDINGS, MAX_GLOBAL_REQUESTS}
use Rattle.mux_history.specs.Rows.{Row, rows_of, is_lost}
use Rattle.mux_history.specs.Channels.{held_of}
use Rattle.mux_history.specs.Requests.{wanted_requests, replies, unanswered_asks}
use Rattle.mux_history.specs.Forwardings.{current}
use Rattle.mux_history.specs.Farewell.{has_open_matters}
use Rattle.mux_history.specs.Log.{open_matters}
use Rattle.mux_history.specs.Right.{IsAdmitted}
use Rattle.mux_history.specs.Kept.{AtEach}
use Rattle.mux_history.specs.Laws.{OverRight}

-- nothing is left of a client: no channel, no request without a reply, no forwarding
pub record HasNothing (own : List Row) : Type 0 where
  pub channels : held_of own ≡ []
  pub requests : length (wanted_requests own) ≤ length (replies own)
  pub forwardings : current own ≡ []

-- nothing is left of an admitted client whose matters are closed
abbrev pub LeavesNothing : List Row → Type 0
LeavesNothing rows = (k : ℕ) → IsAdmitted k rows → has_open_matters (rows_of k rows) ≡ false
    → HasNothing (rows_of k rows)

abbrev pub NothingIsLeft : Type 0
NothingIsLeft = OverRight (λ setting rows. AtEach LeavesNothing rows)

-- a client holds at most 256 channels
abbrev pub ChannelsBounded : List Row → Type 0
ChannelsBounded rows = (k : ℕ) → length (held_of (rows_of k rows)) ≤ MAX_CHANNELS

abbrev pub ChannelsAreFew : Type 0
ChannelsAreFew = OverRight (λ setting rows. AtEach ChannelsBounded rows)

-- a client has at most 64 forwardings, asked or live
abbrev pub ForwardingsBounded : List Row → Type 0
ForwardingsBounded rows = (k : ℕ) → length (current (rows_of k rows)) ≤ MAX_FORWARDINGS

abbrev pub ForwardingsAreFew : Type 0
ForwardingsAreFew = OverRight (λ setting rows. AtEach ForwardingsBounded rows)

-- at most 1,024 global requests of a client that were sent have no reply
abbrev pub RequestsBounded : List Row → Type 0
RequestsBounded rows = (k : ℕ)
    → length (wanted_requests (rows_of k rows)) ≤ length (replies (rows_of k rows)) + MAX_GLOBAL_REQUESTS

abbrev pub RequestsAreFew : Type 0
RequestsAreFew = OverRight (λ setting rows. AtEach RequestsBounded rows)

-- at most 1,024 global requests of a client that is not lost have no answer, those among them that
-- were refused and wait after one that was sent
abbrev pub UnansweredBounded : List Row → Type 0
UnansweredBounded rows = (k : ℕ) → is_lost (rows_of k rows) ≡ false
    → unanswered_asks (rows_of k rows) ≤ MAX_GLOBAL_REQUESTS

abbrev pub UnansweredAreFew : Type 0
UnansweredAreFew = OverRight (λ setting rows. AtEach UnansweredBounded rows)

-- at most 64 clients have open matters
abbrev pub MattersBounded : List Row → Type 0
MattersBounded rows = open_matters rows ≤ MAX_CLIENTS

abbrev pub ClientsAreFew : Type 0
ClientsAreFew = OverRight (λ setting rows. AtEach MattersBounded rows)
