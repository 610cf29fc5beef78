-- One pass over all lines of files, and both.
use Rattle.std.specs.Prelude.{◌≡◌, ℕ, ◌+◌, false, List, [], ◌∷◌, length, flat_map, Option, None, Some, Result, Ok, Err}
use Rattle.conf_rules.specs.declared.causes.ResolveError.{ResolveError}
use Rattle.conf_rules.specs.declared.causes.ResolveError.TheVariants.{At, OutOfMemory}
use Rattle.conf_rules.specs.Texts.{Bytes}
use Rattle.conf_rules.specs.Recorded.{Recorded}
use Rattle.conf_rules.specs.Diagnostics.{is_fault}
use Rattle.conf_rules.specs.Sources.{Line, lines_from, all_lines}
use Rattle.conf_rules.specs.Rows.{LineRow, Pass, First, given}
use Rattle.conf_rules.specs.Entries.{entry_of}
use Rattle.conf_rules.specs.Resolution.{pass_start_of, rows_from, refusal_in, first_refusal, all_rows, first_place}
use Rattle.conf_options.specs.Kept.{Given, KeepsSettings}
use Rattle.conf_reader.specs.Blocks.{Blocks}
use Rattle.conf_fold.specs.declared.fold.Fold.{Fold}
use Rattle.conf_fold.specs.FoldRepresents.{FoldRepresents, IsAgain}

-- commands that were run, if they are recorded
abbrev pub Commands : Type 0
Commands = Option (List Bytes)

-- the commands of rows
abbrev pub commands : List LineRow → List Bytes
commands rows = flat_map (λ row. row.ran) rows

-- in the second pass the same lines are given again
abbrev pub AreAgain : Recorded → Pass → ℕ → List Line → Type 0
AreAgain recorded pass place [] = Unit {0}
AreAgain recorded pass place (l ∷ ls) = IsAgain recorded pass place l × AreAgain recorded pass (place + 1) ls

-- the lines of files
abbrev pub file_lines : Recorded → List Line
file_lines recorded = lines_from recorded (length recorded.asked.lines) recorded.asked.from

-- where a pass begins, after the lines of the command line
pub record PassBegins (recorded : Recorded) (pass : Pass) (fold : Fold) (rows : List LineRow) : Type 0 where
  pub stands : FoldRepresents recorded pass fold rows []
  pub at : length rows ≡ pass_start_of pass + length recorded.asked.lines
  pub none : refusal_in rows ≡ None
  pub again : AreAgain recorded pass (length recorded.asked.lines) (file_lines recorded)

-- the rows after all lines of files
abbrev pub final_rows : Recorded → Pass → List LineRow → List LineRow
final_rows recorded pass rows =
    rows_from recorded entry_of rows (record { pass = pass; line = length recorded.asked.lines })
    (file_lines recorded)

-- a fold represents these rows, of which none is refused
pub record PassesRepresent (recorded : Recorded) (pass : Pass) (fold : Fold) (rows : List LineRow) : Type 0 where
  pub blocks : Blocks
  pub stands : FoldRepresents recorded pass fold rows blocks
  pub none : refusal_in rows ≡ None

-- the outcome of a pass
abbrev pub PassGives : Recorded → Pass → List LineRow → Fold → Result (Unit {0}) ResolveError → Type 0
PassGives recorded pass rows new (Ok x) = PassesRepresent recorded pass new (final_rows recorded pass rows)
PassGives recorded pass rows new (Err OutOfMemory) = Unit {0}
PassGives recorded pass rows new (Err (At file number cause)) =
    (is_fault cause ≡ false → refusal_in (final_rows recorded pass rows) ≡ Some (At file number cause))

-- the rows of the first pass
abbrev pub first_rows : Recorded → List LineRow
first_rows recorded = rows_from recorded entry_of [] (first_place First) (all_lines recorded)

-- the outcome of both passes
abbrev pub BothPass : Recorded → Fold → Result (Unit {0}) ResolveError → Type 0
BothPass recorded new (Ok x) = (first_refusal recorded ≡ None)
    × KeepsSettings new.settings (flat_map given (all_rows recorded))
BothPass recorded new (Err OutOfMemory) = Unit {0}
BothPass recorded new (Err (At file number cause)) =
    (is_fault cause ≡ false → first_refusal recorded ≡ Some (At file number cause))

-- what a resolution gives: settings that keep what all rows give, or the first refusal
abbrev pub Resolved : Recorded → Result (List Given) ResolveError → Type 0
Resolved recorded (Ok settings) = (first_refusal recorded ≡ None)
    × KeepsSettings settings (flat_map given (all_rows recorded))
Resolved recorded (Err OutOfMemory) = Unit {0}
Resolved recorded (Err (At file number cause)) =
    (is_fault cause ≡ false → first_refusal recorded ≡ Some (At file number cause))
