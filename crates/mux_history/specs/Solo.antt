-- A client alone: the items that concern it, and the log that they give if there is no other
-- client.
use Rattle.std.specs.Prelude.{ℕ, ◌≡◌, List, [], ◌∷◌, ◌++◌, Option, Some, None, Bool, true, false, map, bytes_eq}
use Rattle.ssh_grammar.specs.SpellMessage.{with_sender}
use Rattle.mux_history.specs.declared.ended.Ended.{Ended}
use Rattle.mux_history.specs.Summary.{reading, summary_recipient_of}
use Rattle.mux_history.specs.Rows.{Row, rows_of, Item, Heard, RunEnd, Fate, End}
use Rattle.mux_history.specs.Channels.{own_number_of}
use Rattle.mux_history.specs.Heard.{renamed}
use Rattle.mux_history.specs.Choices.{TheirOwn}
use Rattle.mux_history.specs.Log.{Setting, log_of}

-- an item as the client sees it: with its own number at the recipient's place
abbrev pub item_for : List Row → Item → Item
item_for own (Heard p) = Heard (reading p (λ m. renamed own p (summary_recipient_of m)) p)
item_for own item = item

-- the items of a client's rows
abbrev pub items_for : List Row → List Item
items_for [] = []
items_for (row ∷ before) = item_for before row.item ∷ items_for before

-- what ended the run
abbrev pub run_end_of : List Row → Option Ended
run_end_of [] = None
run_end_of (row ∷ before) = elim row.fate [ End cause ↦ Some cause | _ ↦ run_end_of before ]

-- the last item, where the run ended
abbrev pub run_end : List Row → List Item
run_end rows = elim (run_end_of rows) [ None ↦ [] | Some cause ↦ RunEnd cause ∷ [] ]

-- the items of a log that concern a client, the newest first
abbrev pub items_concerning : ℕ → List Row → List Item
items_concerning k rows = run_end rows ++ items_for (rows_of k rows)

-- a client alone uses the numbers that it sends itself
abbrev pub alone_setting : Setting → Setting
alone_setting setting = record setting { choices = TheirOwn }

-- the unshared connection: the log of these items
abbrev pub solo : Setting → ℕ → List Row → List Row
solo setting k rows = log_of (alone_setting setting) (items_concerning k rows)

-- ---- agreement up to channel numbers

-- what a row gives, seen by its client
pub record SeenRow : Type 0 where
  pub sent : List (List ℕ)
  pub recorded : List (List ℕ)
  pub ends : Fate

-- each number that the client's OPEN or CONFIRMATION carried up replaced by its own
abbrev pub own_ups : Option ℕ → List (List ℕ) → List (List ℕ)
own_ups None ups = ups
own_ups (Some c) ups = map (λ p. with_sender p c) ups

-- among others, under its own numbers
abbrev pub seen_row : Row → SeenRow
seen_row row =
    record {
      sent = own_ups (own_number_of row.item) row.up ++ row.farewell;
      recorded = row.down;
      ends = row.fate;
    }

-- alone
abbrev pub seen_alone : Row → SeenRow
seen_alone row = record { sent = row.up ++ row.farewell; recorded = row.down; ends = row.fate }

-- the client's rows and those of the unshared connection agree one by one
abbrev pub IsUnshared : Setting → ℕ → List Row → Type 0
IsUnshared setting k rows = map seen_row (rows_of k rows) ≡ map seen_alone (solo setting k rows)

-- the same as a test of what is sent and recorded

-- two lists of texts are the same
abbrev pub all_same : List (List ℕ) → List (List ℕ) → Bool
all_same [] [] = true
all_same [] (y ∷ ys) = false
all_same (x ∷ xs) [] = false
all_same (x ∷ xs) (y ∷ ys) = elim (bytes_eq x y) [ true ↦ all_same xs ys | false ↦ false ]

-- two lists of rows agree
abbrev pub agree : List Row → List Row → Bool
agree [] [] = true
agree [] (s ∷ ss) = false
agree (r ∷ rs) [] = false
agree (r ∷ rs) (s ∷ ss) = elim (all_same (seen_row r).sent (seen_alone s).sent) [
  | false ↦ false
  | true ↦ elim (all_same r.down s.down) [ true ↦ agree rs ss | false ↦ false ]
]

-- a client's rows and its unshared connection do
abbrev pub looks_unshared : Setting → ℕ → List Row → Bool
looks_unshared setting k rows = agree (rows_of k rows) (solo setting k rows)
