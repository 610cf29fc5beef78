-- A core represents a log, the newest row first: one clause a part.
use Rattle.std.specs.Prelude.{◌≡◌, ◌≢◌, ◌≤◌, ◌<◌, ℕ, ◌==◌, ◌&&◌, Bool, true, false, List, [], ◌∷◌, Option, Some, is_some, is_none, map, filter, drop, length}
use Rattle.std.specs.List.{AllByRecursion}
use Rattle.ssh_grammar.specs.declared.side.Side.{Side}
use Rattle.ssh_grammar.specs.declared.side.Side.TheVariants.{Up, Down}
use Rattle.mux_history.specs.declared.limits.TheConstants.{MAX_CHANNELS, MAX_CLIENTS, NUMBERS_END}
use Rattle.mux_history.specs.Rows.{Row, rows_of, any_of, is_admit, is_lost}
use Rattle.mux_history.specs.Channels.{Channel, held_of}
use Rattle.mux_history.specs.Requests.{Ask, replies, wanted}
use Rattle.mux_history.specs.Forwardings.{Forwarding, current}
use Rattle.mux_history.specs.Farewell.{has_open_matters}
use Rattle.mux_history.specs.Log.{admitted_clients}
use Rattle.mux_isolation.specs.LogView.{Waiting, waiting_left_of}
use Rattle.window_ledger.specs.Stands.{is_open_confirmed}
use Rattle.channel_table.specs.Entries.{TableEntry}
use Rattle.channel_table.specs.Entries.{AreApart, channel_count_of}
use Rattle.channel_table.specs.Stands.{ChannelsFit}
use Rattle.forward_rules.specs.Stands.{AreFit, Places, places_of}
use Rattle.mux_core.specs.State.{MemberState, CoreState, is_member_served}

-- ---- channels

-- the numbers that a channel has: both once it is confirmed, before that its opener's alone
abbrev pub has_numbers : Bool → Side → Option ℕ → Option ℕ → Bool
has_numbers true by own remote = is_some own && is_some remote
has_numbers false Up own remote = is_some own && is_none remote
has_numbers false Down own remote = is_none own && is_some remote

abbrev pub is_whole : TableEntry → Bool
is_whole e = has_numbers (is_open_confirmed e.ledger) e.channel.by e.channel.own e.channel.remote

-- a number of the server fits in four bytes
abbrev pub HasSmall : TableEntry → Type 0
HasSmall e = (s : ℕ) → e.channel.remote ≡ Some s → s < 4294967296

-- the table represents the channels that are held; no number names two of them, and no client holds
-- more than 256
pub record TableFits (es : List TableEntry) (held : List Channel) : Type 0 where
  pub fit : ChannelsFit es held
  pub apart : AreApart es
  pub few : (k : ℕ) → channel_count_of es k ≤ MAX_CHANNELS
  pub whole : AllByRecursion (λ e. is_whole e ≡ true) es
  pub small : AllByRecursion HasSmall es
  pub below : AllByRecursion (λ e. e.number < NUMBERS_END) es

-- ---- what is looked up besides

-- all requests and those of each client, the forwardings that are asked or live, the clients that
-- were admitted, and of each client whether it was admitted, whether it is lost, and what it is
-- still to be answered
pub record Look : Type 0 where
  pub all : Places
  pub own : ℕ → Places
  pub current : List Forwarding
  pub entered : List ℕ
  pub admitted : ℕ → Bool
  pub lost : ℕ → Bool
  pub waiting : ℕ → Waiting

abbrev pub look : List Row → Look
look rows = record {
  all = places_of rows;
  own = λ k. places_of (rows_of k rows);
  current = current rows;
  entered = admitted_clients rows;
  admitted = λ k. any_of is_admit (rows_of k rows);
  lost = λ k. is_lost (rows_of k rows);
  waiting = λ k. waiting_left_of (wanted (rows_of k rows)) (replies (rows_of k rows));
}

-- ---- requests

-- those without a reply
abbrev pub unreplied_in : Places → List Ask
unreplied_in places = drop places.replied places.asked

-- no reply of a client came before its request, and the requests of it that wait are those among
-- all that wait
pub record OwnRequests (k : ℕ) (all own : Places) : Type 0 where
  pub awaited : own.replied ≤ length own.asked
  pub waiting : unreplied_in own ≡ filter (λ a. a.client == k) (unreplied_in all)

pub record AsksFit (queue : List Ask) (l : Look) : Type 0 where
  pub waiting : queue ≡ unreplied_in l.all
  pub awaited : l.all.replied ≤ length l.all.asked
  pub each : (k : ℕ) → OwnRequests k l.all (l.own k)

-- ---- clients

-- a client represents its rows: while it isn't lost, what it is still to be answered is what they
-- leave unanswered
pub record ClientFits (l : Look) (c : MemberState) : Type 0 where
  pub nonzero : c.number ≢ 0
  pub admitted : l.admitted c.number ≡ true
  pub lost : c.lost ≡ l.lost c.number
  pub answers : c.lost ≡ false → l.waiting c.number ≡ record { requests = c.waiting; early = [] }

-- no two clients have one number
abbrev pub AreOnce : List MemberState → Type 0
AreOnce [] = Unit {0}
AreOnce (c ∷ cs) = AllByRecursion (λ d. (c.number == d.number) ≡ false) cs × AreOnce cs

abbrev pub has_matters : List Row → ℕ → Bool
has_matters rows k = has_open_matters (rows_of k rows)

-- those that were admitted and have open matters, in order, at most 64
pub record ClientsFit (cs : List MemberState) (matters : ℕ → Bool) (l : Look) : Type 0 where
  pub numbers : map (λ c. c.number) cs ≡ filter matters l.entered
  pub each : AllByRecursion (ClientFits l) cs
  pub once : AreOnce cs
  pub few : length cs ≤ MAX_CLIENTS

-- a client is one of these
abbrev pub is_member_known : List MemberState → ℕ → Bool
is_member_known cs k = any_of (λ c. c.number == k) cs

-- whose channels, requests and forwardings all are; those with forwardings are not lost
pub record AreKnown (s : CoreState) : Type 0 where
  pub channels : AllByRecursion (λ e. is_member_known s.clients e.channel.client ≡ true) s.channels
  pub asks : AllByRecursion (λ a. is_member_known s.clients a.client ≡ true) s.asks
  pub forwards : AllByRecursion (λ f. is_member_served s.clients f.client ≡ true) s.forwards

-- ---- all of it

pub record CoreRepresents (s : CoreState) (rows : List Row) : Type 0 where
  pub channels : TableFits s.channels (held_of rows)
  pub asks : AsksFit s.asks (look rows)
  pub forwards : AreFit s.forwards (look rows).current (look rows).own (look rows).lost
  pub clients : ClientsFit s.clients (has_matters rows) (look rows)
  pub known : AreKnown s
