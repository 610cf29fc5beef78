-- A client whose stream is gone, from every list of rows that the part represented.
use Rattle.std.specs.Prelude.{◌≡◌, ℕ, List, [], ◌∷◌, ◌++◌, false, Option, None, MatchBool, if◌then◌else◌}
use Rattle.mux_outside.specs.declared.house.HouseReply.{HouseReply}
use Rattle.proxy_frames.specs.State.{QueueState}
use Rattle.mux_history.specs.declared.why.Why.{Why}
use Rattle.mux_history.specs.Policy.{Policy}
use Rattle.mux_history.specs.Rows.{Row, Gone, is_run_over}
use Rattle.mux_history.specs.Settings.{by_lists}
use Rattle.mux_history.specs.Log.{next_row}
use Rattle.mux_core.specs.State.{CoreState}
use Rattle.mux_peers.specs.declared.standing.Standing.{Standing}
use Rattle.mux_peers.specs.declared.standing.Standing.TheVariants.{Lost}
use Rattle.mux_peers.specs.State.{ClientState, Part, part}
use Rattle.mux_peers.specs.Stands.{PartFits, is_standing_lost}

-- it is lost, and with the row and its farewell the part represents the longer log
pub record Loses (old new : Part) : Type 0 where
  pub number : new.peer.number ≡ old.peer.number
  pub standing : new.peer.standing ≡ Lost None
  pub goes : (policy : Policy) (pid : ℕ) (picks : List ℕ) (given : List HouseReply)
      (rows : List Row) → PartFits rows old → is_run_over rows ≡ false → is_standing_lost old.peer.standing ≡ false
      → PartFits (next_row (by_lists policy pid picks given) rows (Gone old.peer.number) ∷ rows) new

-- one that is lost already stays as it is
pub record LosesNothing (old new : CoreState) (up up' : QueueState) (x y : ClientState) :
    Type 0 where
  pub same : y ≡ x
  pub core_same : new ≡ old
  pub up_same : up' ≡ up

-- of one among all
abbrev pub LosesIn : CoreState → CoreState → QueueState → QueueState → ClientState
    → ClientState → Type 0
LosesIn old new up up' x y = MatchBool (is_standing_lost x.peer.standing) (LosesNothing old new up up' x y)
    (Loses (part old x.peer up) (part new y.peer up'))

-- ---- who is noted as lost

-- more are noted after those that were
pub record NotesMore (old new : List (ℕ × Option Why)) : Type 0 where
  pub more : List (ℕ × Option Why)
  pub longer : new ≡ old ++ more

-- a client that is lost, with the cause
abbrev pub loss_in : Standing → ℕ → List (ℕ × Option Why)
loss_in (Lost why) k = (k, why) ∷ []
loss_in _ k = []

-- a client that wasn't lost before and is now, with the cause
abbrev pub loss_between : Standing → Standing → ℕ → List (ℕ × Option Why)
loss_between before now k = if is_standing_lost before then [] else loss_in now k
