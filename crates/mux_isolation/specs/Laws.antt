-- Laws over all runs: each holds of every right log of a lawful wire, whatever numbers are picked
-- and whatever the forwarder replies.
use Rattle.std.specs.Prelude.{ℕ, ◌==◌, ◌≡◌, ◌≤◌, List, ◌∷◌, false}
use Rattle.mux_history.specs.declared.limits.TheConstants.{MAX_QUEUE}
use Rattle.mux_history.specs.Policy.{Policy}
use Rattle.mux_history.specs.Rows.{Row, rows_of, Item, Admit, Heard}
use Rattle.mux_history.specs.Pending.{waiting_down}
use Rattle.ssh_grammar.specs.declared.side.Side.{Side}
use Rattle.mux_history.specs.Channels.{Channel}
use Rattle.mux_history.specs.Ledger.{room, unanswered}
use Rattle.mux_history.specs.Farewell.{has_open_matters}
use Rattle.mux_history.specs.Heard.{ToClient, dest}
use Rattle.mux_history.specs.Log.{admits, makes_row, treat}
use Rattle.mux_history.specs.Kept.{AtEach, ForEach, Window, Permission, Asker, Delivers, Passes, OwnWords, Unshared, Kept}
use Rattle.mux_history.specs.Laws.{IsOf, OverRight}
use Rattle.mux_isolation.specs.LogView.{room_in, unanswered_in, view_of, way_of}

-- each admitted client sees what it would see alone, up to the numbers that represent its own
abbrev pub Isolation : Type 0
Isolation = OverRight Unshared

-- no data passes a granted window, and none a maximum
abbrev pub WindowsAreKept : Type 0
WindowsAreKept = OverRight (λ setting rows. ForEach Window rows)

-- no forwarding passes its permission list, and each forwarded open meets a live forwarding of its
-- client
abbrev pub PermissionsAreKept : Type 0
PermissionsAreKept = OverRight (λ setting rows. ForEach (Permission setting.policy) rows)

-- each global reply that does not break the run reaches its asker
abbrev pub AskersAreServed : Type 0
AskersAreServed = OverRight (λ setting rows. ForEach Asker rows)

-- what the server sends to a client's channel or forwarding reaches that client, unless the run
-- ends, the client was lost before, or its queue is full
abbrev pub MessagesAreDelivered : Type 0
MessagesAreDelivered = OverRight (λ setting rows. ForEach Delivers rows)

-- what a client sends goes up as it was sent, but for a number of its own, and wherever it may
abbrev pub MessagesAreSent : Type 0
MessagesAreSent = OverRight (λ setting rows. ForEach (Passes setting.policy) rows)

-- what the master sends of its own is, byte for byte, one of its few words: no client's data
abbrev pub MasterSendsLittle : Type 0
MasterSendsLittle = OverRight (λ setting rows. ForEach OwnWords rows)

-- what waits for each client is at most 33,554,432 bytes
abbrev pub WaitsBounded : List Row → Type 0
WaitsBounded rows = (k : ℕ) → waiting_down (rows_of k rows) ≤ MAX_QUEUE

abbrev pub QueuesAreBounded : Type 0
QueuesAreBounded = OverRight (λ setting rows. AtEach WaitsBounded rows)

-- every right log keeps all that a run promises of its rows
abbrev pub AllIsKept : Type 0
AllIsKept = OverRight Kept

-- ---- the view of a client

-- what is seen of a channel's direction shows its room and how many of its requests have no reply
pub record WayShows (way : Side) (x : Channel) : Type 0 where
  pub room : room_in (way_of way x) ≡ room way x
  pub unanswered : unanswered_in (way_of way x) ≡ unanswered way x

-- of every channel
abbrev pub ViewsShowRooms : Type 0
ViewsShowRooms = (way : Side) (x : Channel) → WayShows way x

-- a row of another client, or of no client, leaves the view as it was, whatever it does
abbrev pub IdleRowsLeaveViews : Type 0
IdleRowsLeaveViews =
    (k : ℕ) (row : Row) (before : List Row) → (row.client == k) ≡ false
    → view_of k (row ∷ before) ≡ view_of k before

-- a log that is cut to the client's rows shows the same of it
abbrev pub CutsKeepViews : Type 0
CutsKeepViews = (k : ℕ) (rows : List Row) → view_of k (rows_of k rows) ≡ view_of k rows

-- two rows are the same, and so are the views after them
pub record SameStep (k : ℕ) (rows others : List Row) (row other : Row) : Type 0 where
  pub gives : row ≡ other
  pub view : view_of k (row ∷ rows) ≡ view_of k (other ∷ others)

-- two logs do the same with what concerns the client: with what it sends, its end, and what it
-- accepts; with a payload that goes to it in both; with its admission, where both admit it or both
-- refuse it. Which of its items make rows, and whether its matters are open, is the same in both
pub record StepsAlike (policy : Policy) (pid pick k : ℕ) (rows others : List Row) : Type 0 where
  pub own : (item : Item) → IsOf k item
      → SameStep k rows others (treat policy pid pick rows item) (treat policy pid pick others item)
  pub heard : (p : List ℕ) → dest rows p ≡ ToClient k → dest others p ≡ ToClient k
      → SameStep k rows others (treat policy pid pick rows (Heard p))
      (treat policy pid pick others (Heard p))
  pub let_in : admits rows ≡ admits others
      → SameStep k rows others (treat policy pid pick rows (Admit k))
      (treat policy pid pick others (Admit k))
  pub makes : (item : Item) → IsOf k item → makes_row rows item ≡ makes_row others item
  pub matters : has_open_matters (rows_of k rows) ≡ has_open_matters (rows_of k others)

-- where two logs show the same of a client: what its row gives, and its view after it, is known
-- from its item, its pick and its view before it
abbrev pub RowsFollowViews : Type 0
RowsFollowViews =
    (policy : Policy) (pid pick k : ℕ) (rows others : List Row) → view_of k rows ≡ view_of k others
    → StepsAlike policy pid pick k rows others
