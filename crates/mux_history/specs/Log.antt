-- The log: each row is what its item does after the rows before it.
use Rattle.std.specs.Prelude.{ℕ, List, [], ◌∷◌, Bool, true, false, not}
use Rattle.mux_history.specs.Rows.{Row, rows_of, is_out, is_run_over, Item, Says, HouseSays, Gone, Took, RunEnd}
use Rattle.mux_history.specs.Policy.{Policy}
use Rattle.mux_history.specs.Choices.{Choices, pick_of, with_reply}
pub use Rattle.mux_history.specs.Treat.{
  bare_row,
  new_answers,
  goes,
  all_recorded,
  frames_that_fit,
  overflow,
  fate_with,
  queued,
  with_farewell,
  row_of,
  sent_by_client,
  admitted_clients,
  matters_of,
  open_matters,
  served,
  admits,
  received_row,
  treat,
}

-- ---- which items make rows

-- what is accepted makes a row always; items of a client that is out make none
abbrev pub makes_row : List Row → Item → Bool
makes_row rows (Says k outgoing given) = not (is_out (rows_of k rows))
makes_row rows (HouseSays k id given) = not (is_out (rows_of k rows))
makes_row rows (Gone k) = not (is_out (rows_of k rows))
makes_row rows (RunEnd cause) = false
makes_row rows _ = true

-- what is accepted
abbrev pub is_took : Item → Bool
is_took (Took stream size) = true
is_took _ = false

-- after the end of the run only what is accepted makes rows
abbrev pub makes_next : List Row → Item → Bool
makes_next rows item = elim (is_run_over rows) [ true ↦ is_took item | false ↦ makes_row rows item ]

-- ---- the log

-- what a run is given: what it permits, its process id, and its choices
pub record Setting : Type 0 where
  pub policy : Policy
  pub pid : ℕ
  pub choices : Choices

-- the row that an item makes
abbrev pub next_row : Setting → List Row → Item → Row
next_row setting rows item =
    treat setting.policy setting.pid (pick_of setting.choices rows item) rows
    (with_reply setting.choices rows item)

-- the rows after one more item
abbrev pub more_of : Setting → List Row → Item → List Row
more_of setting rows item = elim (makes_next rows item) [
  | false ↦ rows
  | true ↦ next_row setting rows item ∷ rows
]

-- the rows after more items, in the order in which these came
abbrev pub more_all : Setting → List Row → List Item → List Row
more_all setting rows [] = rows
more_all setting rows (item ∷ items) = more_all setting (more_of setting rows item) items

-- the rows of a list of items, the newest first
abbrev pub log_of : Setting → List Item → List Row
log_of setting [] = []
log_of setting (item ∷ before) = more_of setting (log_of setting before) item
