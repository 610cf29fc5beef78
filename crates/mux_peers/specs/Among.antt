-- All clients of a master, and what the server sends to one of them.
use Rattle.std.specs.Prelude.{◌≡◌, ◌==◌, ℕ, Bool, true, false, not, List, [], ◌∷◌, ◌++◌, filter, Option, Some, None, MatchBool, if◌then◌else◌, suc}
use Rattle.std.specs.List.{AllByRecursion}
use Rattle.proxy_frames.specs.State.{QueueState}
use Rattle.mux_history.specs.declared.why.Why.{Why}
use Rattle.mux_history.specs.Rows.{Row, rows_of, any_of, is_admit, is_run_over, is_lost, is_refusal}
use Rattle.mux_history.specs.Pending.{pending_up}
use Rattle.mux_history.specs.Promises.{is_empty}
use Rattle.mux_core.specs.State.{CoreState}
use Rattle.mux_core.specs.Stands as core
use Rattle.mux_peers.specs.State.{ClientState, ClientsState, ClientsAndQueue, part}
use Rattle.mux_peers.specs.Receives.{ReceivesRecorded}
use Rattle.mux_peers.specs.Stands.{PartFits, PeerFits}
use Rattle.mux_peers.specs.Stands as stands
use Rattle.mux_peers.specs.Losing.{loss_between}

abbrev pub is_present : List ClientState → ℕ → Bool
is_present [] k = false
is_present (c ∷ cs) k = elim (c.peer.number == k) [ true ↦ true | false ↦ is_present cs k ]

-- a client that was admitted, and not refused
pub record InFits (rows : List Row) (c : ClientState) : Type 0 where
  pub nonzero : (c.peer.number == 0) ≡ false
  pub peer : PeerFits (rows_of c.peer.number rows) c.peer.standing c.peer.queue
  pub unrefused : any_of (λ row. is_refusal row.fate) (rows_of c.peer.number rows) ≡ false

abbrev pub EachFits : List Row → List ClientState → Type 0
EachFits rows [] = Unit {0}
EachFits rows (c ∷ cs) = InFits rows c × EachFits rows cs

-- no two clients have one number
abbrev pub ArePeersApart : List ClientState → Type 0
ArePeersApart [] = Unit {0}
ArePeersApart (c ∷ cs) = (is_present cs c.peer.number ≡ false) × ArePeersApart cs

pub record AllFit (rows : List Row) (c : CoreState) (cs : List ClientState) (queue : QueueState) :
    Type 0 where
  pub core : is_run_over rows ≡ false → core.CoreRepresents c rows
  pub each : EachFits rows cs
  pub apart : ArePeersApart cs
  pub up : queue.waiting ≡ pending_up rows

-- the numbers of all clients, in their order
abbrev pub numbers : List ClientState → List ℕ
numbers [] = []
numbers (c ∷ cs) = c.peer.number ∷ numbers cs

-- the client of a number goes on so, and the others stay
abbrev pub ChangesOne : ℕ → (ClientState → ClientState → Type 0) → List ClientState
    → List ClientState → Type 0
ChangesOne k R [] new = new ≡ []
ChangesOne k R (c ∷ cs) new = MatchBool (c.peer.number == k) ((c' : ClientState)
    × (R c c' × (new ≡ c' ∷ cs))) ((cs' : List ClientState)
    × (ChangesOne k R cs cs' × (new ≡ c ∷ cs')))

-- these frames are recorded for a client, after the core has received from the server
abbrev pub ReceivesFrames : List (List ℕ) → CoreState → CoreState → QueueState → QueueState
    → ClientState → ClientState → Type 0
ReceivesFrames fs old new up up' x y = ReceivesRecorded fs (part old x.peer up) (part new y.peer up')

-- and the loss that is noted of it
pub record ReceivesNoting (k : ℕ) (fs : List (List ℕ)) (noted : List (ℕ × Option Why))
    (old new : CoreState) (up up' : QueueState) (x y : ClientState) : Type 0 where
  pub receives : ReceivesFrames fs old new up up' x y
  pub noted_is : noted ≡ loss_between x.peer.standing y.peer.standing k

-- whoever is noted is one of them
abbrev pub AreAmong : List ClientState → List (ℕ × Option Why) → Type 0
AreAmong cs noted = AllByRecursion (λ l. is_present cs l.0 ≡ true) noted

-- all of them are read on as before, but for those that are lost
abbrev pub KeepReading : List ClientState → List ClientState → Type 0
KeepReading [] ds = ds ≡ []
KeepReading (c ∷ cs) [] = ⊥
KeepReading (c ∷ cs) (d ∷ ds) =
    ((d.peer.number ≡ c.peer.number)
    × (stands.is_standing_lost d.peer.standing ≡ false → (d.peer.standing ≡ c.peer.standing)
    × (d.rest ≡ c.rest))) × KeepReading cs ds

-- the client of a number goes on so with what is noted, where it is here; the losses are noted
-- after those of before
pub record PeerGoesAt (k : ℕ) (R : List (ℕ × Option Why) → ClientState → ClientState → Type 0)
    (old new : ClientsAndQueue) : Type 0 where
  pub noted : List (ℕ × Option Why)
  pub leaves : new.clients.leaving ≡ old.clients.leaving ++ noted
  pub changes : is_present old.clients.all k ≡ true
      → ChangesOne k (R noted) old.clients.all new.clients.all
  pub among : AreAmong old.clients.all noted
  pub reading : KeepReading old.clients.all new.clients.all

-- what the client of a number receives
abbrev pub ReceivesAt : ℕ → List (List ℕ) → ClientsAndQueue → ClientsAndQueue → Type 0
ReceivesAt k fs old new =
    PeerGoesAt k (λ noted. ReceivesNoting k fs noted old.core new.core old.up new.up) old new

-- a client that goes on so, and the loss that is noted of it
pub record Noting (k : ℕ) (noted : List (ℕ × Option Why)) (R : ClientState → ClientState → Type 0)
    (x y : ClientState) : Type 0 where
  pub goes : R x y
  pub noted_is : noted ≡ loss_between x.peer.standing y.peer.standing k

-- the client of a number, where it is here; its loss is noted after those of before
pub record NotesOne (k : ℕ) (R : ClientState → ClientState → Type 0) (old new : ClientsState) :
    Type 0 where
  pub noted : List (ℕ × Option Why)
  pub leaves : new.leaving ≡ old.leaving ++ noted
  pub changes : is_present old.all k ≡ true → ChangesOne k (Noting k noted R) old.all new.all

-- ---- a client by its number

-- the place of a client, or the end
abbrev pub client_index : ℕ → List ClientState → ℕ
client_index k [] = 0
client_index k (c ∷ cs) = if c.peer.number == k then 0 else suc (client_index k cs)

-- what is looked up in the client of a number, and another answer where there is none
abbrev pub in_client : {A : Type 0} → A → (ClientState → A) → List ClientState → ℕ → A
in_client none look [] k = none
in_client none look (c ∷ cs) k = if c.peer.number == k then look c else in_client none look cs k

-- the client of a number is here and isn't lost
abbrev pub is_client_served : List ClientState → ℕ → Bool
is_client_served cs k = in_client false (λ c. stands.not_lost c.peer.standing) cs k

-- it is here, and what it sends is read
abbrev pub is_client_read : List ClientState → ℕ → Bool
is_client_read cs k = in_client false (λ c. stands.is_read c.peer.standing) cs k

-- a client whose stream was closed
abbrev pub without_client : ℕ → List ClientState → List ClientState
without_client k cs = filter (λ c. not (c.peer.number == k)) cs

-- one that isn't to be closed any more
abbrev pub not_leaving : ℕ → List (ℕ × Option Why) → List (ℕ × Option Why)
not_leaving k leaving = filter (λ (l : ℕ × Option Why). not (l.0 == k)) leaving

abbrev pub first_lost_client : List (ℕ × Option Why) → Option (ℕ × Option Why)
first_lost_client [] = None
first_lost_client (l ∷ ls) = Some l

-- the clients with the first of one number changed
abbrev pub at_client : ℕ → (ClientState → ClientState) → List ClientState → List ClientState
at_client k f [] = []
at_client k f (c ∷ cs) = if c.peer.number == k then f c ∷ cs else c ∷ at_client k f cs

-- the clients for which something waits
abbrev pub waiting_clients : List ClientState → List ℕ
waiting_clients [] = []
waiting_clients (c ∷ cs) = if is_empty c.peer.queue then waiting_clients cs
    else c.peer.number ∷ waiting_clients cs

-- ---- one client goes on

-- rows were added that concern one client alone, admit no client and refuse no client
pub record AddsFor (k : ℕ) (rows rows' : List Row) : Type 0 where
  pub others : (j : ℕ) → (j == k) ≡ false → rows_of j rows' ≡ rows_of j rows
  pub admitted : any_of is_admit (rows_of k rows') ≡ any_of is_admit (rows_of k rows)
  pub unrefused : any_of (λ row. is_refusal row.fate) (rows_of k rows')
      ≡ any_of (λ row. is_refusal row.fate) (rows_of k rows)
  pub lost : is_lost (rows_of k rows') ≡ false → is_lost (rows_of k rows) ≡ false

-- the client keeps its number, and with the core and what waits for the server it represents the
-- rows
pub record MovesTo (rows' : List Row) (core' : CoreState) (up' : QueueState) (x y : ClientState) :
    Type 0 where
  pub number : y.peer.number ≡ x.peer.number
  pub fits : PartFits rows' (part core' y.peer up')
