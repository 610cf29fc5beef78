-- The view of a client: all that is looked up of it in the rows, as one record of numbers, flags
-- and short lists.
use Rattle.std.specs.Prelude.{ℕ, ◌+◌, ◌-◌, ◌==◌, List, [], ◌∷◌, Option, Bool, true, false, length, drop, filter, map}
use Rattle.ssh_grammar.specs.declared.side.Side.{Side}
use Rattle.ssh_grammar.specs.declared.side.Side.TheVariants.{Up, Down}
use Rattle.mux_history.specs.Rows.{Row, rows_of, any_of, is_admit, is_lost, is_out}
use Rattle.mux_history.specs.Channels.{Channel, any_act, any_by, held_of, is_closes, is_confirmed, is_ends, is_fails}
use Rattle.mux_history.specs.Ledger.{reply_count, request_count, carried, granted_size, initial, maximum_of, other_side, sum_of}
use Rattle.mux_history.specs.Requests.{Ask, wanted_requests, replies, wanted}
use Rattle.mux_history.specs.Forwardings.{Forwarding, current}
use Rattle.mux_history.specs.Pending.{pending_down}
use Rattle.mux_history.specs.Controls.{client_has_greeted, in_proxy}

-- ---- a channel

-- one direction of a channel: the window that its receiver gave at first, all adjustments to it,
-- all data that was sent; the longest data that it accepts; the requests that want a reply, and
-- their replies; whether EOF and CLOSE were sent
pub record Way : Type 0 where
  pub window : ℕ
  pub adjustments : ℕ
  pub sizes : ℕ
  pub maximum : ℕ
  pub requests : ℕ
  pub replies : ℕ
  pub eof : Bool
  pub closed : Bool

-- as sums over all that was done in the channel
abbrev pub way_of : Side → Channel → Way
way_of way x = record {
  window = initial way x;
  adjustments = sum_of granted_size (other_side way) x.acts;
  sizes = sum_of carried way x.acts;
  maximum = maximum_of way x;
  requests = sum_of request_count way x.acts;
  replies = sum_of reply_count (other_side way) x.acts;
  eof = any_by way is_ends x.acts;
  closed = any_by way is_closes x.acts;
}

-- the room of a direction
abbrev pub room_in : Way → ℕ
room_in way = way.window + way.adjustments - way.sizes

-- its requests without a reply
abbrev pub unanswered_in : Way → ℕ
unanswered_in way = way.requests - way.replies

-- a channel: its client, who opened it, its three numbers, whether its open was confirmed or
-- failed, and both directions
pub record ChannelView : Type 0 where
  pub client : ℕ
  pub by : Side
  pub own : Option ℕ
  pub number : Option ℕ
  pub remote : Option ℕ
  pub confirmed : Bool
  pub failed : Bool
  pub up : Way
  pub down : Way

-- what is seen of a channel: not what was done in it, but how much
abbrev pub channel_view : Channel → ChannelView
channel_view x = record {
  client = x.client;
  by = x.by;
  own = x.own;
  number = x.number;
  remote = x.remote;
  confirmed = is_confirmed x;
  failed = any_act is_fails x.acts;
  up = way_of Up x;
  down = way_of Down x;
}

-- ---- requests that wait for their answer

-- for each request in order whether it was sent, or else refused; and replies that came before any
-- request
pub record Waiting : Type 0 where
  pub requests : List Bool
  pub early : List (List ℕ)

-- what is left when all that can be answered is: the requests from the first on that was sent and
-- has no reply
abbrev pub waiting_left_of : List Bool → List (List ℕ) → Waiting
waiting_left_of [] heard = record { requests = []; early = heard }
waiting_left_of (false ∷ flags) heard = waiting_left_of flags heard
waiting_left_of (true ∷ flags) [] = record { requests = true ∷ flags; early = [] }
waiting_left_of (true ∷ flags) (p ∷ heard) = waiting_left_of flags heard

-- ---- the client

-- - Whether it was admitted, has greeted, has sent PROXY, is lost, or is out: lost or refused.
-- - Its channels that are not over.
-- - How many requests were sent for it and how many have a reply, those sent without one, and with
--   the refusals after them.
-- - Its forwardings that are asked or live, each with the cancel that means it.
-- - The bytes that wait for it.
pub record LogView : Type 0 where
  pub admitted : Bool
  pub has_greeted : Bool
  pub proxied : Bool
  pub lost : Bool
  pub out : Bool
  pub channels : List ChannelView
  pub requests : ℕ
  pub replied : ℕ
  pub unreplied : List Ask
  pub waiting : Waiting
  pub forwardings : List Forwarding
  pub pending : List ℕ

-- the view of a client in a log
abbrev pub view_of : ℕ → List Row → LogView
view_of k rows = record {
  admitted = any_of is_admit (rows_of k rows);
  has_greeted = client_has_greeted (rows_of k rows);
  proxied = in_proxy (rows_of k rows);
  lost = is_lost (rows_of k rows);
  out = is_out (rows_of k rows);
  channels = map channel_view (filter (λ x. x.client == k) (held_of rows));
  requests = length (filter (λ a. a.client == k) (wanted_requests rows));
  replied = length (replies (rows_of k rows));
  unreplied = drop (length (replies (rows_of k rows))) (filter (λ a. a.client == k) (wanted_requests rows));
  waiting = waiting_left_of (wanted (rows_of k rows)) (replies (rows_of k rows));
  forwardings = filter (λ f. f.client == k) (current rows);
  pending = pending_down (rows_of k rows);
}
