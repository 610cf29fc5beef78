-- The part that one sent item touches represents a log: one clause a part.
use Rattle.std.specs.Prelude.{◌≡◌, ℕ, Bool, true, false, not, List, [], ◌∷◌, Some, None}
use Rattle.ssh_grammar.specs.declared.framing.Framing.{Framing}
use Rattle.ssh_grammar.specs.declared.framing.Framing.TheVariants as framing
use Rattle.ssh_grammar.specs.Said.{Outgoing, Body, Payload, BadFraming, Mode, InControl, InProxy, Stopped, after_body}
use Rattle.mux_history.specs.Rows.{Row, rows_of, any_of, is_admit, is_run_over, Item, Says, Gone, Goes, Refused, Drop, End}
use Rattle.mux_history.specs.Pending.{pending_down, pending_up}
use Rattle.mux_history.specs.Controls.{client_has_greeted}
use Rattle.mux_core.specs.Stands as core
use Rattle.mux_peers.specs.declared.standing.Standing.{Standing}
use Rattle.mux_peers.specs.declared.standing.Standing.TheVariants.{Awaited, Greeted, Proxied, Unread, Lost}
use Rattle.mux_peers.specs.State.{Part}

abbrev pub is_standing_lost : Standing → Bool
is_standing_lost (Lost why) = true
is_standing_lost _ = false

abbrev pub not_lost : Standing → Bool
not_lost s = not (is_standing_lost s)

-- the client has greeted
abbrev pub is_greeted : Standing → Bool
is_greeted Awaited = false
is_greeted _ = true

-- what the client sends is read
abbrev pub is_read : Standing → Bool
is_read Awaited = true
is_read Greeted = true
is_read Proxied = true
is_read Unread = false
is_read (Lost why) = false

-- the client is in proxy mode
abbrev pub is_proxied : Standing → Bool
is_proxied Proxied = true
is_proxied _ = false

-- how its bytes are cut
abbrev pub framing_of : Standing → Framing
framing_of Proxied = framing.Proxy
framing_of _ = framing.Control

-- and read
abbrev pub parse_mode_of : Standing → Mode
parse_mode_of Awaited = InControl
parse_mode_of Greeted = InControl
parse_mode_of Proxied = InProxy
parse_mode_of Unread = Stopped
parse_mode_of (Lost why) = Stopped

-- the bytes that are left are kept while the client is read
abbrev pub rest_if : Bool → List ℕ → List ℕ
rest_if true rest = rest
rest_if false rest = []

-- how a client stands that is read so from now on
abbrev pub standing_in : Mode → Standing
standing_in InControl = Greeted
standing_in InProxy = Proxied
standing_in Stopped = Unread

-- the state of a client after what it sent, where it goes on
abbrev pub stands_by : Outgoing → Standing
stands_by (Body body) = standing_in (after_body body)
stands_by (Payload p) = Proxied
stands_by (BadFraming fault) = Greeted

-- a client that is lost stays so
abbrev pub keep_lost : Standing → Standing → Standing
keep_lost (Lost why) next = Lost why
keep_lost _ next = next

abbrev pub standing_by : Item → Standing → Standing
standing_by (Says k outgoing given) s = keep_lost s (stands_by outgoing)
standing_by (Gone k) s = Lost None
standing_by _ s = s

-- how a client stands after its rows
abbrev pub standing_of : List Row → Standing
standing_of [] = Awaited
standing_of (row ∷ before) = elim row.fate [
  | Drop cause ↦ Lost (Some cause)
  | Refused ↦ Lost None
  | Goes ↦ standing_by row.item (standing_of before)
  | End cause ↦ keep_lost (standing_of before) Unread
]

-- a client that was admitted represents its own rows
pub record PeerFits (own : List Row) (standing : Standing) (queue : List ℕ) : Type 0 where
  pub admitted : any_of is_admit own ≡ true
  pub standing_is : standing ≡ standing_of own
  pub greeted_is : is_standing_lost standing ≡ false → client_has_greeted own ≡ is_greeted standing
  pub queue_is : queue ≡ pending_down own

-- while the run goes on the shared connection represents the rows; the client and what waits for
-- the server always do
pub record PartFits (rows : List Row) (p : Part) : Type 0 where
  pub core : is_run_over rows ≡ false → core.CoreRepresents p.core rows
  pub peer : PeerFits (rows_of p.peer.number rows) p.peer.standing p.peer.queue
  pub up : p.up.waiting ≡ pending_up rows
