-- What each kind of event does to an engine of a run that goes on.
use Rattle.std.specs.Prelude.{◌≡◌, ℕ, Bool, true, false, List, [], ◌∷◌, ◌++◌, Option, None, if◌then◌else◌}
use Rattle.proxy_frames.specs.State.{QueueState}
use Rattle.mux_outside.specs.Whose.{is_server}
use Rattle.mux_outside.specs.declared.house_mark.HouseMark.{HouseMark as Asked}
use Rattle.mux_outside.specs.declared.house.HouseReply.{HouseReply}
use Rattle.mux_history.specs.Promises.{is_empty}
use Rattle.mux_core.specs.State.{CoreState}
use Rattle.mux_peers.specs.State.{ClientState, ClientsState}
pub use Rattle.mux_peers.specs.Among.{is_client_read, is_client_served}
use Rattle.mux_peers.specs.Entering.{PeerEnters, new_client}
use Rattle.mux_state.specs.Moves.{GainsAt}
use Rattle.mux_state.specs.State.{EngineState, after_admission, in_client, numbers, waiting_clients}

-- the streams with something that waits: the server's, where bytes wait for it, and those of
-- clients
abbrev pub streams_waiting_of : List ℕ → List ClientState → List ℕ
streams_waiting_of up cs = if is_empty up then waiting_clients cs else 0 ∷ waiting_clients cs

-- what waits for a stream, of which 0 is the server's
abbrev pub bytes_waiting_for : QueueState → List ClientState → ℕ → List ℕ
bytes_waiting_for up cs t = if is_server t then up.waiting else in_client [] (λ c. c.peer.queue) cs t

-- a client came: it was admitted, or refused and is to be closed
pub record ReceivesFrom (k : ℕ) (core core' : CoreState) (cs cs' : ClientsState)
    (refused refused' : List ℕ) : Type 0 where
  pub let_in : Bool
  pub enters : PeerEnters k core core' cs.all cs'.all let_in
  pub clients_are : cs'.all ≡ (if let_in then cs.all ++ new_client k ∷ [] else cs.all)
  pub refused_are : refused' ≡ (if let_in then refused else refused ++ k ∷ [])
  pub leaving_are : cs'.leaving ≡ (if let_in then cs.leaving else cs.leaving ++ (k, None) ∷ [])

-- and the engine with it
pub record EntersAt (s new : EngineState) (k : ℕ) : Type 0 where
  pub let_in : Bool
  pub policy : new.core.policy ≡ s.core.policy
  pub waiting : new.up.waiting ≡ s.up.waiting
  pub enters : PeerEnters k s.core new.core s.clients new.clients let_in
  pub new_is : new ≡ after_admission s new.core new.up k let_in

-- a client's stream gave bytes, which are read where it is
pub record GainsFrom (May : HouseReply → Type 0) (before recorded : Option (List Asked)) (s new : EngineState)
    (k : ℕ) (bytes : List ℕ) : Type 0 where
  pub gains : is_client_read s.clients k ≡ true → GainsAt May before recorded s new k bytes
  pub stays : is_client_read s.clients k ≡ false → new ≡ s
  pub policy : new.core.policy ≡ s.core.policy
  pub numbers_are : numbers new.clients ≡ numbers s.clients
