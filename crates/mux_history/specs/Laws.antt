-- Laws of the history: how look-ups go on by one row, and what holds at every row of a right log.
use Rattle.std.specs.Prelude.{ℕ, ◌≡◌, ◌≤◌, ◌+◌, ◌-◌, ◌==◌, ◌&&◌, not, Bool, List, ◌∷◌, ◌++◌, Option, Some, None, true, false, filter, map}
use Rattle.std.specs.List.{AllByRecursion}
use Rattle.mux_outside.specs.OwnStreams.{is_own}
use Rattle.mux_outside.specs.declared.mark.Mark.{Mark}
use Rattle.mux_outside.specs.declared.house.HouseReply.{HouseReply}
use Rattle.ssh_grammar.specs.declared.side.Side.{Side}
use Rattle.mux_history.specs.Summary.{Act, Carries, Grants}
use Rattle.mux_history.specs.Policy.{Policy}
use Rattle.mux_history.specs.Rows.{Row, rows_of, Item, Says, HouseSays, Gone, Heard, Took}
use Rattle.mux_history.specs.Heard.{ToClient, dest}
use Rattle.mux_history.specs.Pending.{pending, given_to}
use Rattle.mux_history.specs.Channels.{Channel, after_farewell, after_item, begun_by, channels_of, held_of, is_confirmed, is_channel_held, is_up, live_in}
use Rattle.mux_history.specs.Ledger.{reply_count, request_count, carried, granted_size, initial, other_side, room, sum_of}
use Rattle.mux_history.specs.Requests.{wanted_requests, answers}
use Rattle.mux_history.specs.Forwardings.{forwardings_of}
use Rattle.mux_history.specs.Said.{confirmed_at, waiting_at}
use Rattle.mux_history.specs.Log.{Setting, treat, received_row}
use Rattle.mux_history.specs.Journal.{taken_by, log_of_journal, IsLawful}
use Rattle.mux_history.specs.Promises.{Throughout, TakesFront, IsCut}
use Rattle.mux_history.specs.Right.{AreFresh, IsRight, TakesPick}
use Rattle.mux_history.specs.Kept.{AtEach, ForEach, NumbersApart}
use Rattle.mux_history.specs.Settings.{by_lists}

-- ---- rows of others

-- a row of another client leaves a client's rows as they were, and with them all that is looked up
-- in them
abbrev pub OthersStay : Type 0
OthersStay =
    (k : ℕ) (row : Row) (before : List Row) → (row.client == k) ≡ false
    → rows_of k (row ∷ before) ≡ rows_of k before

-- a client's channels, forwardings and requests are those of all that are its own
pub record IsLocal (k : ℕ) (rows : List Row) : Type 0 where
  pub channels : channels_of (rows_of k rows) ≡ filter (λ x. x.client == k) (channels_of rows)
  pub forwardings : forwardings_of (rows_of k rows)
      ≡ filter (λ f. f.client == k) (forwardings_of rows)
  pub asks : wanted_requests (rows_of k rows) ≡ filter (λ a. a.client == k) (wanted_requests rows)

-- of every client and every log
abbrev pub LookUpsAreLocal : Type 0
LookUpsAreLocal = (k : ℕ) (rows : List Row) → IsLocal k rows

-- an item of this client alone: what it sends, what the forwarder replies to it, its end, and what
-- it accepts
abbrev pub IsOf : ℕ → Item → Type 0
IsOf k (Says j outgoing given) = j ≡ k
IsOf k (HouseSays j id given) = j ≡ k
IsOf k (Gone j) = j ≡ k
IsOf k (Took j size) = j ≡ k
IsOf k item = ⊥

-- a client's row looks at nothing but the client's rows, once the item is known to be its own
pub record RowsAreLocal (policy : Policy) (pid pick k : ℕ) (rows : List Row) : Type 0 where
  pub own : (item : Item) → IsOf k item → treat policy pid pick rows item
      ≡ treat policy pid pick (rows_of k rows) item
  pub heard : (p : List ℕ) → dest rows p ≡ ToClient k → treat policy pid pick rows (Heard p)
      ≡ received_row (rows_of k rows) p (ToClient k)

-- of every client and every log
abbrev pub Locality : Type 0
Locality = (policy : Policy) (pid pick k : ℕ) (rows : List Row)
    → RowsAreLocal policy pid pick k rows

-- ---- one more row

-- the channels that are held after a row, from those that were held before it
abbrev pub next_held : Row → List Channel → List Channel
next_held row held =
    filter is_channel_held (map (after_farewell row)
    (filter is_channel_held (map (after_item row) held ++ begun_by row.client row.up row.item)))

-- so the channels that are held are known from those before the row
abbrev pub HeldGoesOn : Type 0
HeldGoesOn = (row : Row) (before : List Row)
    → held_of (row ∷ before) ≡ next_held row (held_of before)

-- what a client was answered stays: a row only adds answers
abbrev pub AnswersOnlyGrow : Type 0
AnswersOnlyGrow =
    (row : Row) (own : List Row) → (more : List (List ℕ))
    × (answers (row ∷ own) ≡ answers own ++ more)

-- ---- one more act in a channel

-- a channel with one more act
abbrev pub with_act : Side → Act → Channel → Channel
with_act way act x = record x { acts = (way, act) ∷ x.acts }

-- no more was carried in a direction than was granted for it
abbrev pub IsWithin : Side → Channel → Type 0
IsWithin way x = sum_of carried way x.acts ≤ initial way x + sum_of granted_size (other_side way) x.acts

-- and no more was answered than was asked
pub record IsAccounted (way : Side) (x : Channel) : Type 0 where
  pub within : IsWithin way x
  pub answered : sum_of reply_count (other_side way) x.acts ≤ sum_of request_count way x.acts

-- data takes its length from the room of its direction and leaves the other; an adjustment adds to
-- the other
pub record RoomsGoOn (way : Side) (n : ℕ) (x : Channel) : Type 0 where
  pub carries : room way (with_act way (Carries n) x) ≡ room way x - n
  pub leaves : room (other_side way) (with_act way (Carries n) x) ≡ room (other_side way) x
  pub grants : IsWithin (other_side way) x → room (other_side way) (with_act way (Grants n) x)
      ≡ room (other_side way) x + n
  pub keeps : room way (with_act way (Grants n) x) ≡ room way x

-- of every channel
abbrev pub AccountsGoOn : Type 0
AccountsGoOn = (way : Side) (n : ℕ) (x : Channel) → RoomsGoOn way n x

-- ---- what a stream accepted and what waits for it make up what it is given

-- of the server's stream and those of clients: the master's own have no rows, and what the
-- forwarder accepts is recorded by its length alone
abbrev pub AddsUp : Setting → List Mark → Type 0
AddsUp setting marks =
    (t : ℕ) → is_own t ≡ false → taken_by t marks ++ pending t (log_of_journal setting marks)
    ≡ given_to t (log_of_journal setting marks)

-- where each take is the front of what waited
abbrev pub WrittenAddsUp : Type 0
WrittenAddsUp =
    (setting : Setting) (marks : List Mark) → Throughout (TakesFront setting) marks
    → AddsUp setting marks

-- ---- at every row of a right log

-- of every right log of a lawful wire, whatever numbers are picked and whatever the forwarder
-- replies
abbrev pub OverRight : (Setting → List Row → Type 0) → Type 0
OverRight P =
    (policy : Policy) (pid : ℕ) (picks : List ℕ) (given : List HouseReply) (marks : List Mark)
    (left : ℕ) (rows : List Row) → IsLawful marks
    → IsRight (by_lists policy pid picks given) marks left rows
    → P (by_lists policy pid picks given) rows

-- the log of a journal is right if its picks were fresh, and so is one that was cut as memory ran
-- out
pub record LogsAreRight (setting : Setting) (marks : List Mark) : Type 0 where
  pub whole : AreFresh (log_of_journal setting marks)
      → IsRight setting marks 0 (log_of_journal setting marks)
  pub cut : (rows : List Row) → IsCut setting marks rows → AreFresh rows → (left : ℕ)
      × IsRight setting marks left rows

-- of every journal
abbrev pub JournalsGiveRightLogs : Type 0
JournalsGiveRightLogs =
    (policy : Policy) (pid : ℕ) (picks : List ℕ) (given : List HouseReply) (marks : List Mark)
    → LogsAreRight (by_lists policy pid picks given) marks

-- no number is held by two channels, nor is one of the server's live in two
abbrev pub NumbersAreApart : Type 0
NumbersAreApart = OverRight (λ setting rows. AtEach NumbersApart rows)

-- the numbers that were used are the picks, in order
abbrev pub PicksAreTaken : Type 0
PicksAreTaken = OverRight (λ setting rows. ForEach (TakesPick setting.choices) rows)

-- no room falls below zero, nor does a count of unanswered requests
abbrev pub RoomsHold : List Row → Type 0
RoomsHold rows = AllByRecursion (λ x. (way : Side) → IsAccounted way x) (channels_of rows)

-- at every row of every right log
abbrev pub RoomsNeverFall : Type 0
RoomsNeverFall = OverRight (λ setting rows. AtEach RoomsHold rows)

-- what was found, where it passes
abbrev pub if_passes : (Channel → Bool) → Option Channel → Option Channel
if_passes test None = None
if_passes test (Some x) = elim (test x) [ true ↦ Some x | false ↦ None ]

-- a look-up by the server's number among a client's channels is the one among all, so that one
-- index serves all
pub record LooksUpAt (rows : List Row) (k s : ℕ) : Type 0 where
  pub confirmed : confirmed_at (rows_of k rows) s ≡ if_passes (λ x. (x.client == k) && is_confirmed x)
      (live_in rows s)
  pub waiting : waiting_at (rows_of k rows) s
      ≡ if_passes (λ x. (x.client == k) && (not (is_up x.by) && not (is_confirmed x))) (live_in rows s)

-- of every client and number
abbrev pub LooksUp : List Row → Type 0
LooksUp rows = (k s : ℕ) → LooksUpAt rows k s

-- at every row of every right log
abbrev pub OneIndexServes : Type 0
OneIndexServes = OverRight (λ setting rows. AtEach LooksUp rows)
