-- What an engine keeps.
use Rattle.std.specs.Prelude.{◌≡◌, ℕ, Bool, true, false, not, List, [], ◌∷◌, ◌++◌, filter, if◌then◌else◌, ◌==◌, ◌||◌, Option, Some, None, is_some, length}
use Rattle.proxy_frames.specs.Queued.{without_first_bytes}
use Rattle.proxy_frames.specs.State.{QueueState}
use Rattle.mux_history.specs.declared.why.Why.{Why}
use Rattle.mux_history.specs.declared.broke.Break.TheVariants as broke
use Rattle.mux_history.specs.declared.ended.Ended.{Ended}
use Rattle.mux_history.specs.declared.ended.Ended.TheVariants as ended
use Rattle.mux_history.specs.Promises.{is_empty}
use Rattle.mux_outside.specs.Streams.{among, without}
use Rattle.mux_outside.specs.Whose.{is_server}
use Rattle.mux_core.specs.State.{CoreState}
use Rattle.mux_peers.specs.State.{ClientState, ClientsAndQueue, clients_of, clients_and_queue}
pub use Rattle.mux_peers.specs.State.{client_took}
use Rattle.mux_peers.specs.Server.{ServerState}
use Rattle.mux_peers.specs.Among.{is_present}
use Rattle.mux_peers.specs.Entering.{new_client}
pub use Rattle.mux_peers.specs.Among.{at_client, first_lost_client, in_client, numbers, waiting_clients, without_client}
pub use Rattle.mux_peers.specs.Losing.{loss_in, loss_between}
pub use Rattle.mux_peers.specs.Room.{served_in}

-- - The shared connection.
-- - What the server sent that isn't cut yet, and what waits for it.
-- - The clients in the order in which they came, those that were refused and not closed, and those
--   that are lost or refused and not closed in that order.
-- - The streams with something that waits.
-- - Whether clients are accepted, and how the run ended.
pub record EngineState : Type 0 where
  pub pid : ℕ
  pub core : CoreState
  pub server : ServerState
  pub up : QueueState
  pub clients : List ClientState
  pub refused : List ℕ
  pub leaving : List (ℕ × Option Why)
  pub waiting : List ℕ
  pub listening : Bool
  pub ended : Option Ended
  pub starved : Bool

-- no client is here, and nothing waits
pub record HasNobody (s : EngineState) : Type 0 where
  pub clients : s.clients ≡ []
  pub refused : s.refused ≡ []
  pub leaving : s.leaving ≡ []
  pub waiting : s.waiting ≡ []
  pub silent : s.up.waiting ≡ []

-- ---- the clients

-- the clients, the shared connection, and what waits for the server
abbrev pub clients_and_queue_of : EngineState → ClientsAndQueue
clients_and_queue_of s = clients_and_queue (clients_of s.clients s.leaving) s.core s.up

-- a client as it was
abbrev pub SameClient : ℕ → List ClientState → List ClientState → Type 0
SameClient k old new = in_client None (λ c. Some c) new k ≡ in_client None (λ c. Some c) old k

-- ---- the streams, of which 0 is the server's

-- what waits for a stream
abbrev pub queue_in : EngineState → ℕ → List ℕ
queue_in s t = if is_server t then s.up.waiting else in_client [] (λ c. c.peer.queue) s.clients t

-- the bytes that a stream gave and that are not cut yet: none at the end of the run
abbrev pub rest_in : EngineState → ℕ → List ℕ
rest_in s t =
    if is_some s.ended then [] else if is_server t then s.server.rest
    else in_client [] (λ c. c.rest) s.clients t

-- the streams with something that waits
abbrev pub waiting_streams : EngineState → List ℕ
waiting_streams s = if is_empty s.up.waiting then waiting_clients s.clients
    else 0 ∷ waiting_clients s.clients

-- a client whose stream was closed: nothing waits for it any more
abbrev pub closed_by : EngineState → ℕ → EngineState
closed_by s k = record s {
  clients = without_client k s.clients;
  refused = without k s.refused;
  leaving = filter (λ (l : ℕ × Option Why). not (l.0 == k)) s.leaving;
  waiting =
      without k s.waiting;
}

-- ---- what was accepted

-- so many bytes that a stream accepted, and then the streams that wait
abbrev pub took : EngineState → ℕ → ℕ → EngineState
took s t n = if is_server t then record s { up = without_first_bytes n s.up }
    else record s { clients = at_client t (client_took n) s.clients }

abbrev pub took_and_listed : EngineState → ℕ → ℕ → EngineState
took_and_listed s t n = record (took s t n) {
  waiting = if is_empty (queue_in (took s t n) t) then without t s.waiting else s.waiting;
}

-- ---- the end of the run

abbrev pub run_ended_by : EngineState → Ended → EngineState
run_ended_by s cause = record s { ended = Some cause }

-- why it ends where the server's stream does: inside a frame that breaks the protocol
abbrev pub server_cause : EngineState → Ended
server_cause s = elim s.server.rest [
  | [] ↦ ended.ServerEnd
  | b ∷ rest ↦ ended.Broke s.server.index (broke.Cut (length (b ∷ rest)))
]

-- ---- who is here

-- the stream of a client is open: the client was admitted, or it was refused and its stream is not
-- closed yet
abbrev pub is_here : EngineState → ℕ → Bool
is_here s k = is_present s.clients k || among k s.refused

-- ---- a client comes

-- it is admitted, or refused, after which the streams that wait are listed anew
abbrev pub after_admission : EngineState → CoreState → QueueState → ℕ → Bool → EngineState
after_admission s core' up' k true =
    let s' = record s { core = core'; up = up'; clients = s.clients ++ new_client k ∷ [] } in
    record s' { waiting = waiting_streams s' }
after_admission s core' up' k false =
    let s' = record s {
      core = core';
      up = up';
      refused = s.refused ++ k ∷ [];
      leaving =
          s.leaving ++ (k, None) ∷ [];
    } in
    record s' { waiting = waiting_streams s' }
