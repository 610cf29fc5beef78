-- Rows that send nothing to the server and receive nothing from it.
use Rattle.std.specs.Prelude.{◌≡◌, []}
use Rattle.ssh_grammar.specs.Said.{Payload}
use Rattle.mux_history.specs.Rows.{Row, Item, Says, Heard}

-- what neither a client in proxy mode nor the server sent
abbrev pub IsPlainItem : Item → Type 0
IsPlainItem (Says k (Payload p) given) = ⊥
IsPlainItem (Heard p) = ⊥
IsPlainItem _ = Unit {0}

-- and sends nothing
pub record IsPlainRow (row : Row) : Type 0 where
  pub item : IsPlainItem row.item
  pub up : row.up ≡ []
  pub farewell : row.farewell ≡ []
