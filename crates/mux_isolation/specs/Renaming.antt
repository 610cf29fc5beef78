-- The unshared connection row by row: each row of a client, and what is seen of the client, under
-- its own numbers.
use Rattle.std.specs.Prelude.{ℕ, ◌≡◌, ◌<◌, List, ◌∷◌, ◌++◌, length, map}
use Rattle.mux_history.specs.Rows.{Row, Item, rows_of}
use Rattle.mux_history.specs.Channels.{own_number_of}
use Rattle.mux_history.specs.Log.{Setting, log_of, more_of}
use Rattle.mux_history.specs.Right.{IsAdmitted}
use Rattle.mux_history.specs.Solo.{alone_setting, item_for, items_for, own_ups}
use Rattle.mux_history.specs.Kept.{AtEach, ForEach}
use Rattle.mux_history.specs.Laws.{OverRight}
use Rattle.mux_isolation.specs.LogView.{ChannelView, LogView, view_of}

-- the log of a client alone, as far as these rows of it go
abbrev pub log_alone : Setting → List Row → List Row
log_alone setting own = log_of (alone_setting setting) (items_for own)

-- ---- a row

-- the row there: the item as the client sees it, and what it sends under the number that the client
-- sent
abbrev pub row_alone : List Row → Row → Row
row_alone own row = record row {
  item = item_for own row.item;
  up =
      own_ups (own_number_of row.item) row.up;
}

-- the next item of the client makes that row, and no other: what it sends else, its farewell, what
-- it records and its fate are the same
abbrev pub RowIsRenamed : Setting → List Row → Row → Type 0
RowIsRenamed setting own row =
    more_of (alone_setting setting) (log_alone setting own) (item_for own row.item)
    ≡ row_alone own row ∷ log_alone setting own

-- ---- what is seen of the client

-- a channel there: its own number represents it towards the server
abbrev pub channel_alone : ChannelView → ChannelView
channel_alone x = record x { number = x.own }

-- all else is seen as it is among others
abbrev pub view_alone : LogView → LogView
view_alone seen = record seen { channels = map channel_alone seen.channels }

-- of the rows so far
abbrev pub ViewIsRenamed : Setting → ℕ → List Row → Type 0
ViewIsRenamed setting k own = view_of k (log_alone setting own) ≡ view_alone (view_of k own)

-- ---- over all runs

-- each row of each admitted client is renamed: what it sends, what the server sends to it, what it
-- accepts, the row that loses it, and what comes for it later
abbrev pub RowsAreRenamed : Type 0
RowsAreRenamed =
    OverRight (λ setting rows. (k : ℕ) → 0 < k → IsAdmitted k rows
    → ForEach (RowIsRenamed setting) (rows_of k rows))

-- and so is what is seen of it at each of its rows
abbrev pub ViewsAreRenamed : Type 0
ViewsAreRenamed =
    OverRight (λ setting rows. (k : ℕ) → 0 < k → IsAdmitted k rows
    → AtEach (ViewIsRenamed setting k) (rows_of k rows))

-- ---- the items

-- what a log has of a client's items, a longer one has too, with one more for each row more of the
-- client
pub record MoreItems (k : ℕ) (newer before : List Row) : Type 0 where
  pub more : List Item
  pub one_each : length more ≡ length (rows_of k newer)
  pub items : items_for (rows_of k (newer ++ before)) ≡ more ++ items_for (rows_of k before)

-- so a log that is cut has the client's items cut
abbrev pub CutsCutItems : Type 0
CutsCutItems = (k : ℕ) (newer before : List Row) → MoreItems k newer before
