-- What a piece of the server's bytes leaves as it was: each client for which it makes no row.
use Rattle.std.specs.Prelude.{◌≡◌, ◌==◌, ◌&&◌, not, ℕ, Bool, true, List, ◌∷◌, ◌++◌, Option, Some, None, filter, find, is_some, map}
use Rattle.ssh_grammar.specs.Messages.{Key}
use Rattle.mux_outside.specs.declared.house.HouseReply.{HouseReply}
use Rattle.mux_outside.specs.declared.mark.Mark.{Mark}
use Rattle.mux_outside.specs.declared.mark.Mark.TheVariants.{Gets}
use Rattle.mux_history.specs.Rows.{rows_of}
use Rattle.mux_history.specs.Requests.{Ask}
use Rattle.window_ledger.specs.declared.ledger.Ledger.{Ledger}
use Rattle.channel_table.specs.declared.channel.Channel.{Channel}
use Rattle.channel_table.specs.Entries.{TableEntry, is_channel_of}
use Rattle.channel_table.specs.Stands.{shown_number}
use Rattle.forward_rules.specs.State.{Forward}
use Rattle.mux_core.specs.State.{CoreState}
use Rattle.mux_core.specs.State as core
use Rattle.mux_peers.specs.State.{ClientState, PeerState}
use Rattle.mux_peers.specs.Among.{is_present}
use Rattle.mux_state.specs.declared.event.Event.{Event}
use Rattle.mux_state.specs.declared.event.Event.TheVariants.{FromServer}
use Rattle.mux_state.specs.Moves.{ReceivedAt}
use Rattle.mux_state.specs.Stands.{IsAllowed, RepresentsSoFar, log}
use Rattle.mux_state.specs.State.{EngineState, SameClient, in_client}
use Rattle.mux_state.specs.Steps.{is_client_served}

-- ---- what the shared connection keeps of a client

-- a channel: the numbers of both sides, the number that represents it towards the server, and both
-- windows
pub record HeldChannel : Type 0 where
  pub channel : Channel
  pub number : Option ℕ
  pub ledger : Ledger

abbrev pub held_channel : TableEntry → HeldChannel
held_channel e = record { channel = e.channel; number = shown_number e; ledger = e.ledger }

-- a forwarding: its key, whether it is live, and whether a cancel of it waits for a reply
pub record HeldForward : Type 0 where
  pub key : Key
  pub live : Bool
  pub leaves : Bool

abbrev pub held_forward : Forward → HeldForward
held_forward f = record { key = f.key; live = f.live; leaves = is_some f.cancel }

-- its channels in the order in which they began, its requests without a reply, its forwardings that
-- are asked or live, and what it is still to be answered while it isn't lost
pub record Matters : Type 0 where
  pub channels : List HeldChannel
  pub requests : List Ask
  pub forwards : List HeldForward
  pub answers : Option core.MemberState

abbrev pub matters_of_core : ℕ → CoreState → Matters
matters_of_core k c = record {
  channels = map held_channel (filter (is_channel_of k) c.channels);
  requests = filter (λ a. a.client == k) c.asks;
  forwards = map held_forward (filter (λ f. f.client == k) c.forwards);
  answers =
      find (λ x. (x.number == k) && not x.lost) c.clients;
}

-- ---- a client as it was

-- how a client stands, and what waits for it
abbrev pub peer_in : List ClientState → ℕ → Option PeerState
peer_in cs k = in_client None (λ c. Some c.peer) cs k

-- it stands as it did, and the same bytes wait for it; where it isn't lost, the same of its own
-- bytes are not read yet; and while the run goes on its matters are the same
pub record StaysAsItWas (k : ℕ) (old new : EngineState) : Type 0 where
  pub peer : peer_in new.clients k ≡ peer_in old.clients k
  pub client : is_client_served old.clients k ≡ true → SameClient k old.clients new.clients
  pub matters : new.ended ≡ None → matters_of_core k new.core ≡ matters_of_core k old.core

-- the server's piece makes no row for a client: the rows of the client are those of before
abbrev pub MakesNoRow : ℕ → List ℕ → EngineState → List ℕ → List HouseReply → List Mark → Type 0
MakesNoRow k bytes s picks replies marks =
    rows_of k (log s picks replies (Gets 0 bytes ∷ marks)) ≡ rows_of k (log s picks replies marks)

-- from every journal for which the engine stood, whatever is picked and replied later: each client
-- for which the server's piece makes no row stays as it was
abbrev pub LeavesIdle : List ℕ → EngineState → EngineState → Type 0
LeavesIdle bytes old new =
    (picked : List ℕ) (given : List HouseReply) (marks : List Mark) (closed : List ℕ)
    → RepresentsSoFar picked given old marks closed → IsAllowed old marks (Gets 0 bytes)
    → (picks : List ℕ) (replies : List HouseReply) (k : ℕ)
    → MakesNoRow k bytes old (picked ++ picks) (given ++ replies) marks → StaysAsItWas k old new

-- of the events those of the server's bytes alone; what the others leave, `LeavesOthers` defines
abbrev pub ServerLeavesIdle : Event → EngineState → EngineState → Type 0
ServerLeavesIdle (FromServer bytes) old new = LeavesIdle bytes.now old new
ServerLeavesIdle event old new = Unit {0}

-- whatever was received from the server
abbrev pub ReceivedLeavesIdle : Type 0
ReceivedLeavesIdle = (s new : EngineState) (bytes : List ℕ) → s.ended ≡ None → ReceivedAt s new bytes
    → LeavesIdle bytes s new

-- ---- what is kept of a client follows from its own rows

-- where both runs go on its matters are the same, and where it is here in both, so are how it stands
-- and what waits for it
pub record IsKeptAlike (k : ℕ) (s t : EngineState) : Type 0 where
  pub peer : is_present s.clients k ≡ true → is_present t.clients k ≡ true
      → peer_in t.clients k ≡ peer_in s.clients k
  pub matters : s.ended ≡ None → t.ended ≡ None → matters_of_core k t.core ≡ matters_of_core k s.core

-- of two engines, or of one at two moments, which represent journals with the same rows of a client
abbrev pub KeptByOwnRows : Type 0
KeptByOwnRows =
    (s t : EngineState) (picked picked' : List ℕ) (given given' : List HouseReply)
    (marks marks' : List Mark) (closed closed' : List ℕ)
    → RepresentsSoFar picked given s marks closed → RepresentsSoFar picked' given' t marks' closed'
    → (picks picks' : List ℕ) (replies replies' : List HouseReply) (k : ℕ)
    → rows_of k (log t (picked' ++ picks') (given' ++ replies') marks')
    ≡ rows_of k (log s (picked ++ picks) (given ++ replies) marks) → IsKeptAlike k s t
