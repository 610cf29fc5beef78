-- What look-ups in a client's rows give where the rows are those of the unshared connection.
use Rattle.std.proofs.Common.{◌≡◌, ℕ, List, [], ◌∷◌, ◌++◌, drop, length, refl, ◌∙◌, ap, Option, Some, None}
use Rattle.std.specs.Prelude.{◌||◌}
use Rattle.mux_history.specs.Channels.{own_number_of}
use Rattle.mux_history.specs.Pending.{joined, pending_down, took_by, waiting_down}
use Rattle.mux_history.specs.Requests.{wanted_requests, is_sent, wanted, wanted_by}
use Rattle.mux_history.specs.Rows.{Fate, Heard, Item, Row, is_lost, loses}
use Rattle.mux_history.specs.Solo.{item_for, own_ups}
use Rattle.mux_isolation.proofs.Solos.{alone, alone_row}

took-item : (own : List Row) (item : Item) → took_by (item_for own item) ≡ took_by item
took-item own (Heard p) = refl
took-item own item = refl

pub pending-alone : (own : List Row) → pending_down (alone own) ≡ pending_down own
pending-alone [] = refl
pending-alone (row ∷ own) = ap (λ bytes. drop (took_by (item_for own row.item)) (bytes ++ joined row.down)) (pending-alone own) ∙ ap (λ n. drop n (pending_down own ++ joined row.down)) (took-item own row.item)

pub waiting-alone : (own : List Row) → waiting_down (alone own) ≡ waiting_down own
waiting-alone own = ap length (pending-alone own)

-- whether a row loses its client
pub loses-alone : (own : List Row) (row : Row) → loses (alone_row own row) ≡ loses row
loses-alone own row = by_item row.item row.fate
  where
    by_item : (item : Item) (fate : Fate) → loses (record { item = item_for own item; client = row.client; up = own_ups (own_number_of item) row.up; farewell = row.farewell; down = row.down; fate = fate }) ≡ loses (record row { item = item; fate = fate })
    by_item (Heard p) fate = refl
    by_item item fate = refl

pub lost-alone : (own : List Row) → is_lost (alone own) ≡ is_lost own
lost-alone [] = refl
lost-alone (row ∷ own) = ap (λ b. b || is_lost (alone own)) (loses-alone own row) ∙ ap (λ b. loses row || b) (lost-alone own)

sent-ups : (c : Option ℕ) (ups : List (List ℕ)) (row : Row) → is_sent (record row { up = own_ups c ups }) ≡ is_sent (record row { up = ups })
sent-ups None ups row = refl
sent-ups (Some c) [] row = refl
sent-ups (Some c) (p ∷ ps) row = refl

wanted-item : (own : List Row) (item : Item) (row : Row) → wanted_by (record row { item = item_for own item }) ≡ wanted_by (record row { item = item })
wanted-item own (Heard p) row = refl
wanted-item own item row = refl

pub wanted-alone : (own : List Row) → wanted (alone own) ≡ wanted own
wanted-alone [] = refl
wanted-alone (row ∷ own) = rw (wanted-alone own, wanted-item own row.item row, sent-ups (own_number_of row.item) row.up row) refl

pub asks-alone : (own : List Row) → wanted_requests (alone own) ≡ wanted_requests own
asks-alone [] = refl
asks-alone (row ∷ own) = rw (asks-alone own, wanted-item own row.item row, sent-ups (own_number_of row.item) row.up row) refl
