-- What a reader of lines gives, call by call.
use Rattle.std.specs.Prelude.{◌≡◌, ℕ, ◌+◌, ◌-◌, ◌<◌, ◌≤◌, Bool, false, true, List, [], ◌∷◌, ◌++◌, length, Option, Some, None, Result, Ok, Err}
use Rattle.conf_rules.specs.declared.causes.Cause.{Cause}
use Rattle.conf_rules.specs.declared.causes.ResolveError.{ResolveError}
use Rattle.conf_rules.specs.declared.causes.ResolveError.TheVariants.{At, OutOfMemory}
use Rattle.conf_rules.specs.declared.entry.LineContent.TheVariants.{Nothing}
use Rattle.conf_rules.specs.declared.limits.TheConstants.{MAX_LINES}
use Rattle.conf_rules.specs.Recorded.{Recorded}
use Rattle.conf_rules.specs.Diagnostics.{is_fault}
use Rattle.conf_rules.specs.Sources.{Line}
use Rattle.conf_rules.specs.Rows.{LineRow}
use Rattle.conf_rules.specs.Entries.{entry_of}
use Rattle.conf_rules.specs.Resolution.{line_within_limit, is_past_limit}
use Rattle.conf_reader.specs.declared.line.ConfLine.{ConfLine}
use Rattle.conf_reader.specs.declared.line_reader.LineReader.{LineReader}
use Rattle.conf_reader.specs.declared.lines.Lines.{Lines}
use Rattle.conf_reader.specs.declared.lines.ReadStep.{ReadStep}
use Rattle.conf_reader.specs.declared.lines.ReadStep.TheVariants as steps
use Rattle.conf_reader.specs.Blocks.{Blocks, IsLine, open_behind}
use Rattle.conf_reader.specs.Left.{lines_to_give, source_of, stack, Bounded, IsGiven}

-- how many files a reader has open
abbrev pub open_count : Lines → ℕ
open_count r = length (stack r.open_files)

-- a line says nothing, whatever stands before it
abbrev pub IsIdleLine : Recorded → ℕ → Line → Type 0
IsIdleLine recorded place line = (rows : List LineRow) → line_within_limit recorded entry_of rows line place ≡ Ok Nothing

-- lines from a place on say nothing
abbrev pub AreIdle : Recorded → ℕ → List Line → Type 0
AreIdle recorded place [] = Unit {0}
AreIdle recorded place (l ∷ ls) = IsIdleLine recorded place l × AreIdle recorded (place + 1) ls

-- after comments a line is given
pub record GivesNextLine (recorded : Recorded) (place : ℕ) (blocks : Blocks) (old new : Lines)
    (given : ConfLine) : Type 0 where
  pub comments : List Line
  pub line : Line
  pub is : lines_to_give recorded place blocks old ≡ comments ++ line
      ∷ lines_to_give recorded (place + length comments + 1)
      (open_behind given (place + length comments) blocks) new
  pub idle : AreIdle recorded place comments
  pub is_line : IsLine given blocks line
  pub within : is_past_limit recorded line (place + length comments) ≡ false
  pub count : place + length comments + 1 ≡ length recorded.asked.lines + new.read
  pub source : line.source ≡ source_of new.open_files.system

-- after comments a line is refused, whatever stands before it
pub record RefusesNextLine (recorded : Recorded) (place : ℕ) (lines_to_give : List Line) (file : List ℕ) (number : ℕ)
    (cause : Cause) : Type 0 where
  pub comments : List Line
  pub line : Line
  pub rest : List Line
  pub is : lines_to_give ≡ comments ++ line ∷ rest
  pub idle : AreIdle recorded place comments
  pub file_is : line.file ≡ file
  pub number_is : line.number ≡ number
  pub refused : (rows : List LineRow)
      → line_within_limit recorded entry_of rows line (place + length comments) ≡ Err cause

-- what a reader did
abbrev pub ReaderReads : Recorded → ℕ → Blocks → Lines → Lines
    → Result (Option ConfLine) ResolveError → Type 0
ReaderReads recorded place blocks old new (Ok None) = AreIdle recorded place (lines_to_give recorded place blocks old)
ReaderReads recorded place blocks old new (Ok (Some given)) = GivesNextLine recorded place blocks old new given
ReaderReads recorded place blocks old new (Err OutOfMemory) = Unit {0}
ReaderReads recorded place blocks old new (Err (At file number cause)) =
    (is_fault cause ≡ false → RefusesNextLine recorded place (lines_to_give recorded place blocks old) file number cause)

-- how deep a line lies
pub record LiesAt (old new : ℕ) (given : ConfLine) : Type 0 where
  pub known : given.opens ≡ false → given.depth < old
  pub opened : given.opens ≡ true → given.depth ≤ old
  pub deep : new ≡ given.depth + 1

-- ---- one line of a reader

-- what one line is to a reader
abbrev pub OneLine : Recorded → ℕ → Blocks → Lines → Lines → Result ReadStep ResolveError → Type 0
OneLine recorded place blocks old new (Ok steps.End) = lines_to_give recorded place blocks old ≡ []
OneLine recorded place blocks old new (Ok steps.Comment) = (line : Line)
    × ((lines_to_give recorded place blocks old ≡ line ∷ lines_to_give recorded (place + 1) blocks new)
    × IsIdleLine recorded place line)
OneLine recorded place blocks old new (Ok (steps.Given given)) = (line : Line)
    × ((lines_to_give recorded place blocks old ≡ line ∷ lines_to_give recorded (place + 1) (open_behind given place blocks)
    new) × (IsLine given blocks line × ((is_past_limit recorded line place ≡ false)
    × (line.source ≡ source_of new.open_files.system))))
OneLine recorded place blocks old new (Err OutOfMemory) = Unit {0}
OneLine recorded place blocks old new (Err (At file number cause)) =
    (is_fault cause ≡ false → RefusesNextLine recorded place (lines_to_give recorded place blocks old) file number cause)

-- how many lines a step counts
abbrev pub CountsOne : ReadStep → ℕ → ℕ → Type 0
CountsOne steps.End old new = Unit {0}
CountsOne step old new = (new ≡ old + 1) × (old < MAX_LINES)

-- comments so far
pub record SoFar (recorded : Recorded) (place : ℕ) (blocks : Blocks) (old now : Lines) : Type 0 where
  pub comments : List Line
  pub is : lines_to_give recorded place blocks old ≡ comments ++ lines_to_give recorded (place + length comments) blocks now
  pub idle : AreIdle recorded place comments
  pub count : place + length comments ≡ length recorded.asked.lines + now.read
  pub bounded : Bounded now.open_files (length blocks)

-- ---- what holds after a line that was given

-- after a given line a reader can go on; the line lies where files are open, and it was counted
pub record IsGivenFrom (old new : Lines) (line : ConfLine) : Type 0 where
  pub state : IsGiven new.open_files
  pub lies : (n : ℕ) → Bounded old.open_files n → LiesAt n (open_count new) line
  pub further : MAX_LINES - new.read < MAX_LINES - old.read

abbrev pub GivenStep : ReadStep → Lines → Lines → Type 0
GivenStep (steps.Given line) old new = IsGivenFrom old new line
GivenStep step old new = Unit {0}

-- a call gave no line: none was left, or it was refused
abbrev pub IsReadingOver : Result (Option ConfLine) ResolveError → Type 0
IsReadingOver (Ok None) = Unit {0}
IsReadingOver (Ok (Some given)) = ⊥
IsReadingOver (Err e) = Unit {0}

-- whether a reader gives no line any more
abbrev pub is_spent : LineReader → Bool
is_spent reader = reader.over

-- a reader gives no line any more, and none is left
pub record IsAtEnd (reader : LineReader) : Type 0 where
  pub spent : is_spent reader ≡ true
  pub ended : (recorded : Recorded) (place : ℕ) (blocks : Blocks) → lines_to_give recorded place blocks reader.lines ≡ []

-- a reader keeps what it was made for: the facts, the host that was asked for and the first files
pub record KeepsAsked (old new : LineReader) : Type 0 where
  pub facts : new.facts ≡ old.facts
  pub original : new.original ≡ old.original
  pub firsts : new.lines.firsts ≡ old.lines.firsts
