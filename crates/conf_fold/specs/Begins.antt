-- How passes begin: with the lines of the command line.
use Rattle.std.specs.Prelude.{◌≡◌, Bool, true, false, List, [], ◌∷◌, ◌++◌, length, map, None, Some, Result, Ok, Err}
use Rattle.std.specs.List.{list_any}
use Rattle.conf_rules.specs.declared.causes.ResolveError.{ResolveError}
use Rattle.conf_rules.specs.declared.causes.ResolveError.TheVariants.{OutOfMemory}
use Rattle.conf_rules.specs.Texts.{Bytes}
use Rattle.conf_rules.specs.Recorded.{Recorded}
use Rattle.conf_rules.specs.Sources.{Line, asked_line}
use Rattle.conf_rules.specs.Rows.{LineRow, First, Second}
use Rattle.conf_rules.specs.Entries.{entry_of}
use Rattle.conf_rules.specs.Resolution.{rows_from, first_place, refusal_in, refusal_at, is_refused, wants_second}
use Rattle.conf_fold.specs.declared.fold.Fold.{Fold}
use Rattle.conf_fold.specs.FoldRepresents.{FoldRepresents, next_row}

-- the rows of the command line's lines
abbrev pub asked_rows : Recorded → List LineRow
asked_rows recorded = rows_from recorded entry_of [] (first_place First) (map asked_line recorded.asked.lines)

-- a fold that has applied no line
pub record IsEmpty (original : Bytes) (fold : Fold) : Type 0 where
  pub original_is : fold.original ≡ original
  pub settings : fold.settings ≡ []
  pub applies : fold.applies ≡ []
  pub again : fold.asks_again ≡ false
  pub name : fold.name ≡ None
  pub active : fold.were_active ≡ []

-- what a fold of the command line's lines is: it represents their rows, or the first refused one is
-- reported
abbrev pub IsFoldBegun : Recorded → Result Fold ResolveError → Type 0
IsFoldBegun recorded (Ok fold) = FoldRepresents recorded First fold (asked_rows recorded) []
    × (refusal_in (asked_rows recorded) ≡ None)
IsFoldBegun recorded (Err OutOfMemory) = Unit {0}
IsFoldBegun recorded (Err e) = refusal_in (asked_rows recorded) ≡ Some e

-- the row of a line of the command line after others
abbrev pub asked_row : Recorded → List LineRow → Line → LineRow
asked_row recorded rows line = next_row recorded First rows (length rows) line

-- what a fold did with a line of the command line
abbrev pub TakesAsked : Recorded → List LineRow → Line → Result (Unit {0}) ResolveError → Fold → Type 0
TakesAsked recorded rows line (Ok x) new = (is_refused (asked_row recorded rows line).entry ≡ false)
    × FoldRepresents recorded First new (rows ++ asked_row recorded rows line ∷ []) []
TakesAsked recorded rows line (Err OutOfMemory) new = Unit {0}
TakesAsked recorded rows line (Err e) new = refusal_at line (asked_row recorded rows line).entry ≡ Some e

-- rows that begin with those of the command line's lines, of which none is refused
pub record Behind (recorded : Recorded) (rows : List LineRow) : Type 0 where
  pub later : List LineRow
  pub parts : rows ≡ asked_rows recorded ++ later
  pub none : refusal_in rows ≡ None

-- the rows of the command line's lines in a second pass, after those of the first
abbrev pub asked_again : Recorded → List LineRow → List LineRow
asked_again recorded rows =
    rows_from recorded entry_of rows (first_place (Second rows)) (map asked_line recorded.asked.lines)

-- whether a second pass begins: where a line of the first asked for it, after the lines of the
-- command line
abbrev pub SecondBegins : Recorded → List LineRow → Fold → Bool → Type 0
SecondBegins recorded rows new false = list_any wants_second rows ≡ false
SecondBegins recorded rows new true = (list_any wants_second rows ≡ true)
    × (FoldRepresents recorded (Second rows) new (asked_again recorded rows) []
    × (refusal_in (asked_again recorded rows) ≡ None))
