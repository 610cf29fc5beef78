-- What a client's payload does, from every log that the part represented.
use Rattle.std.specs.Prelude.{◌≡◌, ℕ, ◌+◌, List, ◌∷◌, ◌++◌, false, None, drop, length}
use Rattle.mux_outside.specs.declared.house.HouseReply.{HouseReply}
use Rattle.ssh_fields.specs.Fields.{AreBytes}
use Rattle.ssh_grammar.specs.Said.{Payload}
use Rattle.mux_history.specs.Rows.{Row, is_end, is_run_over, Item, Says}
use Rattle.mux_history.specs.Choices.{numbers_taken}
use Rattle.mux_history.specs.Right.{AreFresh}
use Rattle.mux_history.specs.Settings.{by_lists}
use Rattle.mux_history.specs.Log.{next_row}
use Rattle.mux_peers.specs.declared.standing.Standing.TheVariants.{Proxied}
use Rattle.mux_peers.specs.State.{Part}
use Rattle.mux_peers.specs.Stands.{PartFits}

-- ---- one row more

-- what is sent is bytes
abbrev pub IsOfBytes : Item → Type 0
IsOfBytes (Says k (Payload p) given) = AreBytes p
IsOfBytes item = Unit {0}

-- with the row that an item makes where these numbers are picked first, the part represents the
-- longer log, whose numbers are as fresh as those before them
pub record Makes (picked : List ℕ) (item : Item) (new : Part) (rows : List Row) (row : Row) :
    Type 0 where
  pub item_is : row.item ≡ item
  pub client_is : row.client ≡ new.peer.number
  pub fits : PartFits (row ∷ rows) new
  pub runs : is_end row.fate ≡ false
  pub taken : numbers_taken (row ∷ rows) ≡ numbers_taken rows + length picked
  pub fresh : IsOfBytes item → AreFresh rows → AreFresh (row ∷ rows)

-- these numbers come next
abbrev pub ComeNext : List ℕ → List Row → List ℕ → Type 0
ComeNext picked rows picks = (later : List ℕ) × (drop (numbers_taken rows) picks ≡ picked ++ later)

-- of a client in proxy mode, while the run goes on: some numbers are picked, one where the row
-- takes one, and with them the part represents the log with the row, whatever it represented before
pub record SendsPayload (p : List ℕ) (old new : Part) : Type 0 where
  pub picked : List ℕ
  pub goes : (pid : ℕ) (picks : List ℕ) (given : List HouseReply) (rows : List Row)
      → PartFits rows old → is_run_over rows ≡ false → old.peer.standing ≡ Proxied
      → ComeNext picked rows picks
      → Makes picked (Says old.peer.number (Payload p) None) new rows
      (next_row (by_lists old.core.policy pid picks given) rows
      (Says old.peer.number (Payload p) None))
