-- Channels and their owners (RFC 4254, section 5), looked up in the rows.
use Rattle.std.specs.Prelude.{ℕ, ◌==◌, List, [], ◌∷◌, ◌++◌, Option, Some, None, Bool, true, false, not, ◌&&◌, ◌||◌, filter, map, find}
use Rattle.ssh_grammar.specs.declared.side.Side.{Side}
use Rattle.ssh_grammar.specs.declared.side.Side.TheVariants.{Up, Down}
use Rattle.ssh_grammar.specs.Said.{Outgoing, Body, Payload, BadFraming}
use Rattle.mux_history.specs.Summary.{Act, Confirms, Fails, Ends, Closes, Summary, Open, Confirmation, Within, reading, summary_sender_of}
use Rattle.mux_history.specs.Rows.{Row, any_of, Item, Says, Heard}

-- a channel: its client, who opened it, the client's own number, the number that represents it
-- towards the server, the server's number, the opener's window and maximum, and all that was done
-- in it, the newest first
pub record Channel : Type 0 where
  pub client : ℕ
  pub by : Side
  pub own : Option ℕ
  pub number : Option ℕ
  pub remote : Option ℕ
  pub window : ℕ
  pub maximum : ℕ
  pub acts : List (Side × Act)

-- the number is there, and is this one
abbrev pub is_number : Option ℕ → ℕ → Bool
is_number None n = false
is_number (Some m) n = m == n

-- the direction from the client to the server
abbrev pub is_up : Side → Bool
is_up Up = true
is_up Down = false

-- both are the same direction
abbrev pub same_side : Side → Side → Bool
same_side Up way = is_up way
same_side Down way = not (is_up way)

-- a confirmation
abbrev pub is_confirms : Act → Bool
is_confirms (Confirms window maximum) = true
is_confirms _ = false

-- a failed open
abbrev pub is_fails : Act → Bool
is_fails Fails = true
is_fails _ = false

-- a CLOSE
abbrev pub is_closes : Act → Bool
is_closes Closes = true
is_closes _ = false

-- an EOF
abbrev pub is_ends : Act → Bool
is_ends Ends = true
is_ends _ = false

-- some act passes
abbrev pub any_act : (Act → Bool) → List (Side × Act) → Bool
any_act test acts = any_of (λ a. test a.1) acts

-- of those in one direction
abbrev pub any_by : Side → (Act → Bool) → List (Side × Act) → Bool
any_by way test acts = any_of (λ a. same_side a.0 way && test a.1) acts

-- the open was confirmed
abbrev pub is_confirmed : Channel → Bool
is_confirmed x = any_act is_confirms x.acts

-- the open failed, or both sides have sent CLOSE
abbrev pub is_over : Channel → Bool
is_over x = any_act is_fails x.acts || (any_by Up is_closes x.acts && any_by Down is_closes x.acts)

-- the channel is not over
abbrev pub is_channel_held : Channel → Bool
is_channel_held x = not (is_over x)

-- ---- what one message does to a channel

-- what is sent down under the number that represents the channel; a confirmation brings the
-- server's number
abbrev pub with_down : Summary → Channel → Channel
with_down (Confirmation n s w m) x = elim (is_number x.number n && is_channel_held x) [
  | true ↦ record x { remote = Some s; acts = (Down, Confirms w m) ∷ x.acts }
  | false ↦ x
]
with_down (Within n act) x = elim (is_number x.number n && is_channel_held x) [
  | true ↦ record x { acts = (Down, act) ∷ x.acts }
  | false ↦ x
]
with_down _ x = x

-- what is sent up under the server's number; a confirmation brings the other two numbers
abbrev pub with_up : Option ℕ → Summary → Channel → Channel
with_up own (Confirmation s n w m) x = elim (is_number x.remote s && is_channel_held x) [
  | true ↦ record x { own = own; number = Some n; acts = (Up, Confirms w m) ∷ x.acts }
  | false ↦ x
]
with_up own (Within s act) x = elim (is_number x.remote s && is_channel_held x) [
  | true ↦ record x { acts = (Up, act) ∷ x.acts }
  | false ↦ x
]
with_up own _ x = x

-- payloads in the order in which they go up
abbrev pub with_ups : Option ℕ → List (List ℕ) → Channel → Channel
with_ups own [] x = x
with_ups own (p ∷ ps) x = with_ups own ps (reading p (λ m. with_up own m x) x)

-- ---- what one row does to a channel of its client

-- the number by which a client names a channel that it opens or confirms
abbrev pub own_of_sending : Outgoing → Option ℕ
own_of_sending (Payload p) = reading p summary_sender_of None
own_of_sending (Body body) = None
own_of_sending (BadFraming fault) = None

-- the same of an item
abbrev pub own_number_of : Item → Option ℕ
own_number_of (Says k outgoing reply) = own_of_sending outgoing
own_number_of _ = None

-- what the server sends to a channel
abbrev pub channel_after_item : Item → Channel → Channel
channel_after_item (Heard p) x = reading p (λ m. with_down m x) x
channel_after_item _ x = x

-- a channel after what the item receives in it and the row sends up
abbrev pub after_item : Row → Channel → Channel
after_item row x = elim (x.client == row.client) [
  | true ↦ with_ups (own_number_of row.item) row.up (channel_after_item row.item x)
  | false ↦ x
]

-- what the farewell sends
abbrev pub after_farewell : Row → Channel → Channel
after_farewell row x =
    elim (x.client == row.client) [ true ↦ with_ups None row.farewell x | false ↦ x ]

-- ---- the channels of a log

-- a client's open that is sent: the number that represents the channel is the sender in the payload
-- that went up
abbrev pub opened_up : ℕ → List (List ℕ) → Summary → List Channel
opened_up k [] m = []
opened_up k (p ∷ ps) (Open what c w m) =
    record {
      client = k;
      by = Up;
      own = Some c;
      number = reading p summary_sender_of None;
      remote = None;
      window = w;
      maximum = m;
      acts = [];
    } ∷ []
opened_up k (p ∷ ps) _ = []

-- a server's open; one that is answered in its row begins no channel
abbrev pub opened_down : ℕ → List (List ℕ) → Summary → List Channel
opened_down k [] (Open what s w m) =
    record {
      client = k;
      by = Down;
      own = None;
      number = None;
      remote = Some s;
      window = w;
      maximum = m;
      acts = [];
    } ∷ []
opened_down k _ _ = []

-- the channel that an item begins, if it begins one
abbrev pub begun_by : ℕ → List (List ℕ) → Item → List Channel
begun_by k up (Says client (Payload p) reply) = reading p (opened_up k up) []
begun_by k up (Heard p) = elim (k == 0) [ true ↦ [] | false ↦ reading p (opened_down k up) [] ]
begun_by k up _ = []

-- all channels, those that are over too, in the order in which they began
abbrev pub channels_of : List Row → List Channel
channels_of [] = []
channels_of (row ∷ before) =
    map (after_farewell row) (map (after_item row) (channels_of before)
    ++ begun_by row.client row.up row.item)

-- those that are not over
abbrev pub held_of : List Row → List Channel
held_of rows = filter is_channel_held (channels_of rows)

-- the channel that holds a number towards the server
abbrev pub holder : List Row → ℕ → Option Channel
holder rows n = find (λ x. is_number x.number n) (held_of rows)

-- the channel for which a number of the server is live
abbrev pub live_in : List Row → ℕ → Option Channel
live_in rows s = find (λ x. is_number x.remote s) (held_of rows)

-- the channel that uses a client's own number, over that client's rows
abbrev pub with_own : List Row → ℕ → Option Channel
with_own own c = find (λ x. is_number x.own c) (held_of own)
