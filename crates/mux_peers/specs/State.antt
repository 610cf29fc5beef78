-- What is kept of a client, and what one saying of it touches.
use Rattle.std.specs.Prelude.{◌≡◌, ◌≤◌, ◌+◌, ℕ, List, [], ◌++◌, length, drop, replicate, Option}
use Rattle.ssh_grammar.specs.Frames.{frame_payload}
use Rattle.ssh_grammar.specs.SpellMessage.{request_failure}
use Rattle.proxy_frames.specs.State.{QueueState}
use Rattle.mux_history.specs.declared.why.Why.{Why}
use Rattle.mux_history.specs.Pending.{joined}
use Rattle.mux_history.specs.Log.{frames_that_fit, overflow}
use Rattle.client_teardown.specs.declared.farewell.TheConstants.{FAREWELL_ROOM}
use Rattle.mux_core.specs.State.{CoreState}
use Rattle.mux_peers.specs.declared.standing.Standing.{Standing}
use Rattle.mux_peers.specs.declared.standing.Standing.TheVariants.{Lost}

-- a client but for what it sends
pub record PeerState : Type 0 where
  pub number : ℕ
  pub standing : Standing
  pub queue : List ℕ

-- a client: the bytes of it that are not cut yet are kept while it is read
pub record ClientState : Type 0 where
  pub peer : PeerState
  pub rest : List ℕ

-- the clients of a master: those that were admitted, in the order in which they came; and those
-- that are lost or refused and not closed, in that order, each with the cause for which it was
-- dropped
pub record ClientsState : Type 0 where
  pub all : List ClientState
  pub leaving : List (ℕ × Option Why)

abbrev pub clients_of : List ClientState → List (ℕ × Option Why) → ClientsState
clients_of all leaving = record { all = all; leaving = leaving }

-- before anyone came
abbrev pub no_clients : ClientsState
no_clients = clients_of [] []

-- the clients, the shared connection, and what waits for the server
pub record ClientsAndQueue : Type 0 where
  pub clients : ClientsState
  pub core : CoreState
  pub up : QueueState

abbrev pub clients_and_queue : ClientsState → CoreState → QueueState → ClientsAndQueue
clients_and_queue clients core up = record { clients = clients; core = core; up = up }

-- nothing is touched
abbrev pub IsUntouched : ClientsAndQueue → ClientsAndQueue → Type 0
IsUntouched old new = new ≡ old

-- the shared connection, a client, and what waits for the server
pub record Part : Type 0 where
  pub core : CoreState
  pub peer : PeerState
  pub up : QueueState

abbrev pub part : CoreState → PeerState → QueueState → Part
part core peer up = record { core = core; peer = peer; up = up }

-- the frames of so many refusals
abbrev pub refusals_of : ℕ → List (List ℕ)
refusals_of n = replicate n (frame_payload request_failure)

-- the room that lasts stays while the client isn't lost, and its loss takes a farewell of it
abbrev pub KeepsRoom : QueueState → QueueState → Standing → Type 0
KeepsRoom old new (Lost why) = old.spare ≤ new.spare + FAREWELL_ROOM
KeepsRoom old new standing = old.spare ≤ new.spare

-- a client keeps its number, and the room that lasts
pub record KeepsPeer (up up' : QueueState) (old new : PeerState) : Type 0 where
  pub number : new.number ≡ old.number
  pub spare : KeepsRoom up up' new.standing

-- a client for which these frames are recorded, as far as they fit into its queue
abbrev pub with_frames_queued : List (List ℕ) → PeerState → PeerState
with_frames_queued fs s = record s { queue = s.queue ++ joined (frames_that_fit (length s.queue) fs) }

-- and why it is to be dropped, where they don't
abbrev pub full_of : List (List ℕ) → PeerState → Option Why
full_of fs s = overflow (length s.queue) fs

-- so many of the bytes that wait for it were accepted
abbrev pub client_took : ℕ → ClientState → ClientState
client_took n c = record c { peer = record c.peer { queue = drop n c.peer.queue } }
