-- The room that lasts in the server's queue for what is sent of clients that leave.
use Rattle.std.specs.Prelude.{◌≡◌, ◌≤◌, ◌+◌, ◌*◌, ℕ, List, [], ◌∷◌, length, false, if◌then◌else◌, OnOk, Result}
use Rattle.proxy_frames.specs.State.{QueueState}
use Rattle.client_teardown.specs.declared.farewell.TheConstants.{FAREWELL_ROOM}
use Rattle.mux_peers.specs.State.{ClientState, ClientsAndQueue, IsUntouched}
use Rattle.mux_peers.specs.Stands.{is_standing_lost}
use Rattle.mux_peers.specs.Losing.{NotesMore}
use Rattle.mux_peers.specs.Among.{is_present, numbers}

-- the clients that are not lost
abbrev pub served_in : List ClientState → List ℕ
served_in [] = []
served_in (c ∷ cs) = if is_standing_lost c.peer.standing then served_in cs else c.peer.number ∷ served_in cs

-- there is room for the farewell of each of them
abbrev pub HasRoom : List ClientState → QueueState → Type 0
HasRoom cs up = FAREWELL_ROOM * length (served_in cs) ≤ up.spare

-- the same clients are here in the same order, and there is room for them where there was
pub record KeepsAll (cs cs' : List ClientState) (up up' : QueueState) : Type 0 where
  pub present : (j : ℕ) → is_present cs' j ≡ is_present cs j
  pub numbers_same : numbers cs' ≡ numbers cs
  pub room : HasRoom cs up → HasRoom cs' up'

-- the room that a client's farewell may need yet
abbrev pub farewell_room_of : ClientState → ℕ
farewell_room_of c = if is_standing_lost c.peer.standing then 0 else FAREWELL_ROOM

-- where a client goes on so, the room for all others stays
abbrev pub LeavesRoom : QueueState → QueueState → ClientState → ClientState → Type 0
LeavesRoom up up' x y = up.spare + farewell_room_of y ≤ up'.spare + farewell_room_of x

-- ---- what a call to one client leaves of the others

-- nothing is touched where the client of the number isn't here; what was noted stays noted; the same
-- clients are here, with the room for them; and the policy stays
pub record LeavesRest {A E : Type 0} (result : Result A E) (k : ℕ) (old new : ClientsAndQueue) : Type 0 where
  pub absent : is_present old.clients.all k ≡ false → IsUntouched old new
  pub more : NotesMore old.clients.leaving new.clients.leaving
  pub keeps : OnOk result (KeepsAll old.clients.all new.clients.all old.up new.up)
  pub policy : new.core.policy ≡ old.core.policy
