-- What a caller of a core needs to know of the log that a core represents.
use Rattle.std.specs.Prelude.{◌≡◌, ◌<◌, ◌^◌, ℕ, true, false, List, ◌∷◌}
use Rattle.ssh_fields.specs.Fields.{AreBytes}
use Rattle.mux_history.specs.Rows.{Row, loses, is_admit}
use Rattle.mux_history.specs.PlainRows.{IsPlainRow}
use Rattle.mux_history.specs.Choices.{takes_number}
use Rattle.mux_history.specs.Right.{carried_number}
use Rattle.mux_core.specs.State.{CoreState}
use Rattle.mux_core.specs.Stands.{CoreRepresents}
use Rattle.mux_core.specs.Calls.{row_sent}

-- a row of what neither a client in proxy mode nor the server sends, which loses no client and
-- admits no client
pub record IsIdleRow (row : Row) : Type 0 where
  pub plain : IsPlainRow row
  pub keeps : loses row ≡ false
  pub admits : is_admit row ≡ false

-- such rows leave a core as it is
abbrev pub IdleRowsStay : Type 0
IdleRowsStay = (s : CoreState) (row : Row) (rows : List Row) → CoreRepresents s rows → IsIdleRow row
    → CoreRepresents s (row ∷ rows)

-- what a row records for its client is nothing to a core
abbrev pub DownIsFree : Type 0
DownIsFree =
    (s : CoreState) (row : Row) (rows : List Row) (down : List (List ℕ)) → CoreRepresents s (row ∷ rows)
    → CoreRepresents s (record row { down = down } ∷ rows)

-- the number that the row of a client's open or confirmation carries up is the pick
abbrev pub CarriesPick : Type 0
CarriesPick =
    (s : CoreState) (k : ℕ) (p : List ℕ) (pick : ℕ) (rows : List Row) → AreBytes p → pick < 2 ^ 32
    → takes_number (row_sent s k p pick rows) ≡ true
    → carried_number (row_sent s k p pick rows).up ≡ pick
