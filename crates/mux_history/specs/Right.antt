-- Right logs.
use Rattle.std.specs.Prelude.{ℕ, ◌≡◌, ◌<◌, List, [], ◌∷◌, true, None, IsTrue, MatchBool, drop}
use Rattle.mux_outside.specs.declared.mark.Mark.{Mark}
use Rattle.mux_history.specs.declared.limits.TheConstants.{NUMBERS_END}
use Rattle.ssh_fields.specs.Fields.{u32, u32_at}
use Rattle.mux_history.specs.Summary.{reading, summary_sender_of}
use Rattle.mux_history.specs.Rows.{Row, rows_of, any_of, is_admit}
use Rattle.mux_history.specs.Channels.{holder}
use Rattle.mux_history.specs.Choices.{Choices, takes_number, sent_number, pick_of}
use Rattle.mux_history.specs.Journal.{items}
use Rattle.mux_history.specs.Log.{Setting, log_of}

-- the number that a row's OPEN or CONFIRMATION carried up
abbrev pub carried_number : List (List ℕ) → ℕ
carried_number [] = 0
carried_number (p ∷ ps) = sent_number (reading p summary_sender_of None)

-- each number taken was below the bound, and no channel held it
abbrev pub AreFresh : List Row → Type 0
AreFresh [] = Unit {0}
AreFresh (row ∷ before) =
    MatchBool (takes_number row) ((carried_number row.up < NUMBERS_END)
    × (holder before (carried_number row.up) ≡ None)) (Unit {0}) × AreFresh before

-- a right log for these marks without so many of the newest items
pub record IsRight (setting : Setting) (marks : List Mark) (left : ℕ) (rows : List Row) :
    Type 0 where
  pub determined : rows ≡ log_of setting (drop left (items marks))
  pub fresh : AreFresh rows

-- a client is admitted in a log
abbrev pub IsAdmitted : ℕ → List Row → Type 0
IsAdmitted k rows = IsTrue (any_of is_admit (rows_of k rows))

-- a row that uses a number carries the next pick up, as four bytes spell it
abbrev pub TakesPick : Choices → List Row → Row → Type 0
TakesPick choices before row = takes_number row ≡ true
    → carried_number row.up ≡ u32_at 0 (u32 (pick_of choices before row.item))
