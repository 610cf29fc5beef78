-- A row that sends nothing to the server asks it for nothing.
use Rattle.std.proofs.Common.{◌≡◌, None, refl}
use Rattle.ssh_grammar.specs.Said.{Body, Payload, BadFraming}
use Rattle.mux_history.specs.Rows.{Row, Item, Says, Heard}
use Rattle.mux_history.specs.Requests.{wanted_by}
use Rattle.mux_history.specs.PlainRows.{IsPlainItem}

none_wanted : (item : Item) (row : Row) → row.item ≡ item → IsPlainItem item → wanted_by row ≡ None
none_wanted (Says k (Payload p) r) row e h = absurd h
none_wanted (Says k (Body b) r) row e h = rw e refl
none_wanted (Says k (BadFraming f) r) row e h = rw e refl
none_wanted (Heard p) row e h = absurd h
none_wanted item row e h = rw e refl

pub plain_wanted : (row : Row) → IsPlainItem row.item → wanted_by row ≡ None
plain_wanted row h = none_wanted row.item row refl h
