-- A reply of the forwarder that comes later than its request, from every list of rows that the part
-- represented.
use Rattle.std.specs.Prelude.{◌≡◌, ℕ, List, [], ◌∷◌, false, Option}
use Rattle.mux_outside.specs.declared.house.HouseReply.{HouseReply}
use Rattle.proxy_frames.specs.State.{QueueState}
use Rattle.mux_history.specs.declared.why.Why.{Why}
use Rattle.mux_history.specs.Policy.{Policy}
use Rattle.mux_history.specs.Rows.{Row, HouseSays, is_end, is_run_over, is_refusal}
use Rattle.mux_history.specs.Settings.{by_lists}
use Rattle.mux_history.specs.Log.{next_row}
use Rattle.mux_core.specs.State.{CoreState}
use Rattle.mux_peers.specs.State.{ClientState, ClientsAndQueue, Part, part}
use Rattle.mux_peers.specs.Stands.{PartFits, is_standing_lost}
use Rattle.mux_peers.specs.Losing.{loss_between}
use Rattle.mux_peers.specs.Among.{PeerGoesAt}

-- the row of it, with which the part represents the longer log: the run goes on, nothing is sent,
-- and the client stays or is dropped
pub record IsAnswered (k id : ℕ) (given : HouseReply) (new : Part) (rows : List Row) (row : Row) :
    Type 0 where
  pub item_is : row.item ≡ HouseSays k id given
  pub client_is : row.client ≡ k
  pub fits : PartFits (row ∷ rows) new
  pub unsent : row.up ≡ []
  pub unrefused : is_refusal row.fate ≡ false
  pub runs : is_end row.fate ≡ false

-- it is sent the reply, from every list of rows that the part represented
pub record AnswersLater (id : ℕ) (given : HouseReply) (old new : Part) : Type 0 where
  pub number : new.peer.number ≡ old.peer.number
  pub goes : (policy : Policy) (pid : ℕ) (picks : List ℕ) (replies : List HouseReply)
      (rows : List Row) → PartFits rows old → is_run_over rows ≡ false → is_standing_lost old.peer.standing ≡ false
      → IsAnswered old.peer.number id given new rows
      (next_row (by_lists policy pid picks replies) rows (HouseSays old.peer.number id given))

-- of one among all
abbrev pub AnswersIn : ℕ → HouseReply → CoreState → CoreState → QueueState → QueueState
    → ClientState → ClientState → Type 0
AnswersIn id given old new up up' x y =
    AnswersLater id given (part old x.peer up) (part new y.peer up')

-- and the loss that is noted of it
pub record AnswersNoting (k id : ℕ) (given : HouseReply) (noted : List (ℕ × Option Why))
    (old new : CoreState) (up up' : QueueState) (x y : ClientState) : Type 0 where
  pub answers : AnswersIn id given old new up up' x y
  pub noted_is : noted ≡ loss_between x.peer.standing y.peer.standing k

-- the reply to the client of a number
abbrev pub AnswersAt : ℕ → ℕ → HouseReply → ClientsAndQueue → ClientsAndQueue → Type 0
AnswersAt k id given old new =
    PeerGoesAt k (λ noted. AnswersNoting k id given noted old.core new.core old.up new.up) old new
