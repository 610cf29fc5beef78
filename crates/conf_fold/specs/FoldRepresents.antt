-- What a fold represents: the rows of the places given so far, and the blocks that are open.
use Rattle.std.specs.Prelude.{◌≡◌, ℕ, ◌+◌, ◌<◌, Bool, true, false, not, ◌&&◌, unwrap_or, if◌then◌else◌, List, [], ◌∷◌, ◌++◌, length, map, flat_map, take, Option, Some, None, is_some, Result, Ok, Err}
use Rattle.std.specs.List.{list_any, slice_get}
use Rattle.mux_outside.specs.declared.statuses.CommandStatus.{CommandStatus}
use Rattle.conf_rules.specs.declared.key.Key.{Key}
use Rattle.conf_rules.specs.declared.key.Key.TheVariants as keys
use Rattle.conf_rules.specs.declared.value.Value.{Value}
use Rattle.conf_rules.specs.declared.causes.Cause.{Cause}
use Rattle.conf_rules.specs.declared.causes.ResolveError.{ResolveError}
use Rattle.conf_rules.specs.declared.causes.ResolveError.TheVariants.{At, OutOfMemory}
use Rattle.conf_rules.specs.declared.entry.LineContent.{LineContent}
use Rattle.conf_rules.specs.declared.entry.LineContent.TheVariants.{Gives}
use Rattle.conf_rules.specs.Texts.{Bytes, or_text}
use Rattle.conf_rules.specs.Heads.{Says}
use Rattle.conf_rules.specs.Recorded.{Recorded, Facts}
use Rattle.conf_rules.specs.Tokens.{View}
use Rattle.conf_rules.specs.Includes.{UserFile}
use Rattle.conf_rules.specs.Diagnostics.{is_fault}
use Rattle.conf_rules.specs.Sources.{Line}
use Rattle.conf_rules.specs.Rows.{LineRow, Pass, First, Second, is_collected, values_among, word_in, number_in, but_none, given}
use Rattle.conf_rules.specs.Entries.{entry_of, headed_entry}
use Rattle.conf_rules.specs.Resolution.{applies_at, pass_start_of, host_from, host_at, wants_second, is_of_command_line, is_past_limit, row_of, is_refused, refusal_at}
use Rattle.conf_options.specs.Kept.{Given, KeepsSettings}
use Rattle.conf_match.specs.Evaluated.{RecordsStatus}
use Rattle.conf_reader.specs.declared.line.ConfLine.{ConfLine}
use Rattle.conf_reader.specs.Blocks.{Blocks, IsLine, open_behind}
use Rattle.conf_fold.specs.declared.fold.Fold.{Fold}
use Rattle.conf_reader.specs.declared.errors.LineError.{LineError}
use Rattle.conf_reader.specs.declared.errors.LineError.TheVariants as line_errors

-- ---- what a fold represents

-- whether the block that was opened at a line of a pass applies; where none is open, nothing stands
-- in the way
abbrev pub open_applies : List LineRow → Pass → Option ℕ → Bool
open_applies rows pass None = true
open_applies rows pass (Some line) = applies_at rows pass line

-- a block was opened before
abbrev pub IsBlockBefore : List LineRow → Pass → Option ℕ → Type 0
IsBlockBefore rows pass None = Unit {0}
IsBlockBefore rows pass (Some line) = pass_start_of pass + line < length rows

-- each open block was opened before
abbrev pub EachBefore : List LineRow → Pass → Blocks → Type 0
EachBefore rows pass [] = Unit {0}
EachBefore rows pass (b ∷ bs) = IsBlockBefore rows pass b × EachBefore rows pass bs

-- whether an entry gives a value to a key that collects
abbrev pub collects : Result LineContent Cause → Bool
collects (Ok (Gives key value)) = is_collected key
collects entry = false

-- whether a row is one of a file and collects
abbrev pub collects_here : LineRow → Bool
collects_here row = not (is_of_command_line row.line.source) && collects row.entry

-- whether a row of a file that collects is active
abbrev pub collected : LineRow → List Bool
collected row = if collects_here row then row.active ∷ [] else []

-- what a fold keeps of its pass
pub record InFirst (fold : Fold) (rows : List LineRow) : Type 0 where
  pub name : fold.name ≡ None
  pub active : fold.were_active ≡ flat_map collected rows

pub record InSecond (recorded : Recorded) (fold : Fold) (rows before : List LineRow) : Type 0 where
  pub name : fold.name ≡ Some (host_at recorded.asked.original before)
  pub active : fold.were_active ≡ flat_map collected before
  pub seen : (line : ℕ) → length rows ≡ length before + line
      → fold.seen ≡ length (flat_map collected (take line before))

abbrev pub InPass : Recorded → Pass → Fold → List LineRow → Type 0
InPass recorded First fold rows = InFirst fold rows
InPass recorded (Second before) fold rows = InSecond recorded fold rows before

-- a fold represents these rows of a pass, where these blocks are open
pub record FoldRepresents (recorded : Recorded) (pass : Pass) (fold : Fold) (rows : List LineRow) (blocks : Blocks) :
    Type 0 where
  pub original : fold.original ≡ recorded.asked.original
  pub keeps : KeepsSettings fold.settings (flat_map given rows)
  pub applies : fold.applies ≡ map (open_applies rows pass) blocks
  pub before : EachBefore rows pass blocks
  pub again : fold.asks_again ≡ list_any wants_second rows
  pub in_pass : InPass recorded pass fold rows

-- ---- one line

-- in the second pass the same lines are given again
abbrev pub IsAgain : Recorded → Pass → ℕ → Line → Type 0
IsAgain recorded First place line = Unit {0}
IsAgain recorded (Second before) place line = slice_get before place
    ≡ Some (row_of recorded entry_of (take place before) (record { pass = First; line = place }) line)

-- the line that comes next after rows
pub record IsNextLine (recorded : Recorded) (pass : Pass) (rows : List LineRow) (blocks : Blocks) (given : ConfLine)
    (place : ℕ) (line : Line) : Type 0 where
  pub is_line : IsLine given blocks line
  pub at : length rows ≡ pass_start_of pass + place
  pub within : is_past_limit recorded line place ≡ false
  pub again : IsAgain recorded pass place line

-- if the statuses of commands are recorded
abbrev pub WhereStatusesRecorded : Option (List CommandStatus) → ((status : Bytes → ℕ) → Type 0) → Type 0
WhereStatusesRecorded statuses fact = (status : Bytes → ℕ) → RecordsStatus statuses status → fact status

-- whatever rows a fold represents, if commands record and the line comes next
abbrev pub OnNext : Facts → Option (List CommandStatus) → Fold → ConfLine
    → (Recorded → Pass → List LineRow → Blocks → ℕ → Line → Type 0) → Type 0
OnNext facts statuses fold given fact =
    (recorded : Recorded) (pass : Pass) (rows : List LineRow) (blocks : Blocks) (place : ℕ) (l : Line)
    → recorded.facts ≡ facts → RecordsStatus statuses recorded.status → FoldRepresents recorded pass fold rows blocks
    → IsNextLine recorded pass rows blocks given place l → fact recorded pass rows blocks place l

-- the row of a line at a place of a pass
unfoldable pub next_row : Recorded → Pass → List LineRow → ℕ → Line → LineRow
next_row recorded pass rows place line =
    row_of recorded entry_of rows (record { pass = pass; line = place }) line

-- the outcome of reading and evaluating a line, before its refusal is placed
abbrev pub FoldsEntry : Recorded → Pass → List LineRow → Blocks → ConfLine → ℕ → Line
    → Result (Unit {0}) LineError → Fold → Type 0
FoldsEntry recorded pass rows blocks given place line (Ok x) new =
    (is_refused (next_row recorded pass rows place line).entry ≡ false)
    × FoldRepresents recorded pass new (rows ++ next_row recorded pass rows place line ∷ [])
    (open_behind given place blocks)
FoldsEntry recorded pass rows blocks given place line (Err line_errors.OutOfMemory) new = Unit {0}
FoldsEntry recorded pass rows blocks given place line (Err (line_errors.Refused cause)) new =
    (is_fault cause ≡ false → (next_row recorded pass rows place line).entry ≡ Err cause)

-- what a fold did with a line: it represents one more row, or the row is refused
abbrev pub Folds : Recorded → Pass → List LineRow → Blocks → ConfLine → ℕ → Line
    → Result (Unit {0}) ResolveError → Fold → Type 0
Folds recorded pass rows blocks given place line (Ok x) new =
    (is_refused (next_row recorded pass rows place line).entry ≡ false)
    × FoldRepresents recorded pass new (rows ++ next_row recorded pass rows place line ∷ [])
    (open_behind given place blocks)
Folds recorded pass rows blocks given place line (Err OutOfMemory) new = Unit {0}
Folds recorded pass rows blocks given place line (Err (At file number cause)) new =
    (is_fault cause ≡ false → refusal_at line (next_row recorded pass rows place line).entry
    ≡ Some (At file number cause))

-- ---- what a fold shows

-- the value of a key
abbrev pub value_of_key : Key → Fold → Option Value
value_of_key key fold = slice_get (values_among key fold.settings) 0

-- the host name so far
abbrev pub host_so_far : Fold → Bytes
host_so_far fold = host_from fold.original (word_in (value_of_key keys.Hostname fold))

-- the name that a Host line sees
abbrev pub block_name : Fold → Bytes
block_name fold = or_text fold.original fold.name

-- what tokens and criteria see
abbrev pub fold_view_of : Fold → Facts → View
fold_view_of fold facts = record {
  original = fold.original;
  host = host_so_far fold;
  jump = or_text [] (but_none (word_in (value_of_key keys.ProxyJump fold)));
  tag = or_text [] (word_in (value_of_key keys.Tag fold));
  port = number_in 22 (value_of_key keys.Port fold);
  user = word_in (value_of_key keys.User fold);
  «alias» = word_in (value_of_key keys.HostKeyAlias fold);
  facts = facts;
  last = is_some fold.name;
  name = or_text (host_so_far fold) fold.name;
}

-- what a heading of a file gives after what was given so far
unfoldable pub entry_so_far : Fold → ConfLine → Result LineContent Cause
entry_so_far fold line = headed_entry (word_in (value_of_key keys.IgnoreUnknown fold)) UserFile
    (Says line.keyword line.rest)

-- whether a value of an active line counts: one to collect only where the same line was not active
-- in the first pass
abbrev pub does_count : Key → Bool → Fold → Bool
does_count key active fold = if is_collected key then (elim fold.name [
  | None ↦ active
  | Some name ↦ elim (slice_get fold.were_active fold.seen) [
    | None ↦ active
    | Some was ↦ active && not was
  ]
]) else active

-- a fold that has noted whether a line was active
abbrev pub activity_noted : Key → Bool → Fold → Fold
activity_noted key active fold = if is_collected key then (elim fold.name [
  | None ↦ record fold { were_active = fold.were_active ++ active ∷ [] }
  | Some name ↦ elim (slice_get fold.were_active fold.seen)
      [ None ↦ fold | Some was ↦ record fold { seen = fold.seen + 1 } ]
]) else fold

-- what is given, if it counts
abbrev pub if_counts : Bool → Key → Value → List Given
if_counts counts key value = if counts then (key, value) ∷ [] else []

-- the marks of open blocks where a file is gone on with, or begun
abbrev pub marks_in_file : ℕ → Bool → List Bool → List Bool
marks_in_file depth opens marks = if opens then take depth marks ++ true ∷ [] else take (depth + 1) marks

-- the mark of a line's own file
abbrev pub own_mark : ℕ → Bool → List Bool → Bool
own_mark depth opens marks = if opens then true else unwrap_or (slice_get marks depth) true
