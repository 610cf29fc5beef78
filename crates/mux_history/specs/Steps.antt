-- Laws of one more row: what is looked up after a row is known from what was looked up before it.
use Rattle.std.specs.Prelude.{ℕ, ◌≡◌, ◌≤◌, ◌+◌, ◌==◌, ◌&&◌, not, Bool, List, ◌∷◌, ◌++◌, true, false, filter, length, drop, slice_get}
use Rattle.mux_outside.specs.Whose.{is_server}
use Rattle.mux_history.specs.Rows.{Row, rows_of, any_of, is_admit, is_run_over, Took}
use Rattle.mux_history.specs.Requests.{Ask, wanted_requests, asks_of, asker, is_sent, replies, reply_in, wanted_by}
use Rattle.mux_history.specs.Forwardings.{Forwarding, current, dropped, forwarded}
use Rattle.mux_history.specs.Farewell.{has_open_matters}
use Rattle.mux_history.specs.Pending.{given_by, pending, took_by, took_up}
use Rattle.mux_history.specs.Said.{silent}
use Rattle.mux_history.specs.Log.{bare_row, open_matters}
use Rattle.mux_history.specs.Kept.{AtEach, ForEach}
use Rattle.mux_history.specs.Laws.{OverRight}

-- ---- forwardings, asked or live

-- those after a row, from those before it; `own` are the rows of its client before it
abbrev pub next_current : Row → List Row → List Forwarding → List Forwarding
next_current row own before = filter (λ f. not f.over) (dropped row (forwarded row own before))

-- the next request has the same place in both, and so has the next reply
pub record SamePlaces (own others : List Row) : Type 0 where
  pub request : length (wanted_requests own) ≡ length (wanted_requests others)
  pub reply : length (replies own) ≡ length (replies others)

-- nothing else is looked at, and of the client's rows nothing but these places
pub record CurrentStep (row : Row) (before : List Row) : Type 0 where
  pub goes_on : current (row ∷ before) ≡ next_current row (rows_of row.client before)
      (current before)
  pub places : (others : List Row) → SamePlaces (rows_of row.client before) others
      → next_current row (rows_of row.client before) (current before)
      ≡ next_current row others (current before)

-- of every row
abbrev pub CurrentGoesOn : Type 0
CurrentGoesOn = (row : Row) (before : List Row) → CurrentStep row before

-- ---- open matters

-- a client counts where it was admitted and its matters are open
abbrev pub is_counted_client : List Row → Bool
is_counted_client own = any_of is_admit own && has_open_matters own

-- one where it does
abbrev pub one_if : Bool → ℕ
one_if true = 1
one_if false = 0

-- one more where the matters of the row's client open, one less where they close, else as it was
abbrev pub MattersStep : List Row → Row → Type 0
MattersStep before row =
    open_matters (row ∷ before) + one_if (is_counted_client (rows_of row.client before))
    ≡ open_matters before + one_if (is_counted_client (rows_of row.client (row ∷ before)))

-- at every row of every right log
abbrev pub MattersGoOn : Type 0
MattersGoOn = OverRight (λ setting rows. ForEach MattersStep rows)

-- ---- requests without a reply

-- the requests that were sent and have no reply, in order
abbrev pub unreplied : List Row → List Ask
unreplied rows = drop (length (replies rows)) (wanted_requests rows)

-- after a row: a request that is sent comes last, a reply takes the first
abbrev pub next_unreplied : Row → List Ask → List Ask
next_unreplied row before =
    drop (length (reply_in row.item)) (before ++ asks_of row.client (is_sent row) (wanted_by row))

-- the row takes no more than the first, and the asker is the first
pub record AskersStep (before : List Row) (row : Row) : Type 0 where
  pub goes_on : unreplied (row ∷ before) ≡ next_unreplied row (unreplied before)
  pub first : asker before ≡ slice_get (unreplied before) 0
  pub one : length (reply_in row.item) ≤ 1

-- at every row of every right log
abbrev pub AskersGoOn : Type 0
AskersGoOn = OverRight (λ setting rows. ForEach AskersStep rows)

-- while the run goes on, a client's are those of all that are its own
abbrev pub UnrepliedOfEach : List Row → Type 0
UnrepliedOfEach rows =
    is_run_over rows ≡ false → (k : ℕ)
    → unreplied (rows_of k rows) ≡ filter (λ a. a.client == k) (unreplied rows)

-- at every row of every right log
abbrev pub UnrepliedAreLocal : Type 0
UnrepliedAreLocal = OverRight (λ setting rows. AtEach UnrepliedOfEach rows)

-- ---- bytes that wait

-- how many bytes a row takes from a stream
abbrev pub taken_from : ℕ → Row → ℕ
taken_from stream row = elim (is_server stream) [
  | true ↦ took_up row.item
  | false ↦ elim (row.client == stream) [ true ↦ took_by row.item | false ↦ 0 ]
]

-- what waits after a row: it adds at the end, and removes from the front
abbrev pub next_pending : ℕ → Row → List ℕ → List ℕ
next_pending stream row before = drop (taken_from stream row) (before ++ given_by stream row)

-- of every stream and row
abbrev pub PendingGoesOn : Type 0
PendingGoesOn =
    (stream : ℕ) (row : Row) (before : List Row) → pending stream (row ∷ before)
    ≡ next_pending stream row (pending stream before)

-- the row of a take
abbrev pub take_row : ℕ → ℕ → Row
take_row stream size = bare_row (Took stream size) stream silent

-- it leaves its stream what waits after those bytes, which is the rest if so much waits, and the
-- others as they were
pub record TakeStep (stream size : ℕ) (before : List Row) : Type 0 where
  pub own : pending stream (take_row stream size ∷ before) ≡ drop size (pending stream before)
  pub rest : size ≤ length (pending stream before)
      → length (pending stream (take_row stream size ∷ before)) + size
      ≡ length (pending stream before)
  pub others : (other : ℕ) → (other == stream) ≡ false
      → pending other (take_row stream size ∷ before) ≡ pending other before

-- of every take
abbrev pub TakesLeaveTheRest : Type 0
TakesLeaveTheRest = (stream size : ℕ) (before : List Row) → TakeStep stream size before
