-- What the steps of a reader keep and do, whatever is recorded.
use Rattle.std.specs.Prelude.{◌≡◌, ℕ, ◌+◌, ◌<◌, Bool, IfSome, IsSome, List, length, Option, None, Result, OnOk}
use Rattle.std.specs.Bool.{MatchBool}
use Rattle.mux_outside.specs.declared.pairs.Pair.{Pair}
use Rattle.conf_rules.specs.declared.causes.ResolveError.{ResolveError}
use Rattle.conf_rules.specs.Texts.{Bytes}
use Rattle.conf_rules.specs.Recorded.{Facts, Recorded}
use Rattle.conf_reader.specs.declared.line.ConfLine.{ConfLine}
use Rattle.conf_reader.specs.declared.open_file.OpenFile.{OpenFile}
use Rattle.conf_reader.specs.declared.lines.Lines.{Lines}
use Rattle.conf_reader.specs.declared.lines.ReadStep.{ReadStep}
use Rattle.conf_reader.specs.declared.stack.OpenFiles.{OpenFiles}
use Rattle.conf_reader.specs.Blocks.{Blocks}
use Rattle.conf_reader.specs.Known.{RecordsFiles}
use Rattle.conf_reader.specs.Left.{open_left, lines_to_give, Moves, AreFilesReady, IsFileSettled, Bounded}
use Rattle.conf_reader.specs.ReaderReads.{OneLine, ReaderReads}

-- ---- open files

-- an open file names a path that is opened next
abbrev pub NamesPath : Option OpenFile → Type 0
NamesPath top = IfSome top (λ f. (f.include ≡ None) × (f.next < length f.named))

-- a line of an open file comes next
abbrev pub IsAtLine : Option OpenFile → Type 0
IsAtLine top = IfSome top (λ f. IsFileSettled f × (f.at < length f.text))

-- a line was found, or no file is open
abbrev pub Settles : Option OpenFile → Bool → Type 0
Settles top found = MatchBool found (IsAtLine top × IsSome top) (top ≡ None)

-- as much is left as before
abbrev pub KeepsLeft : OpenFiles → OpenFiles → Type 0
KeepsLeft old new =
    (recorded : Recorded) (place : ℕ) (blocks : Blocks)
    → open_left recorded place blocks old ≡ open_left recorded place blocks new

-- no more files are open of which a line was given
abbrev pub KeepsBounds : OpenFiles → OpenFiles → Type 0
KeepsBounds old new = (n : ℕ) → Bounded old n → Bounded new n

-- after a step the next one can be done, and no more files are open of which a line was given
pub record ReadingGoesOn (old new : OpenFiles) : Type 0 where
  pub ready : AreFilesReady new
  pub bounded : KeepsBounds old new

-- if files record, a step left everything as it was, or it refused
abbrev pub MovesOver : {A : Type 0} →
    Option (List Pair) → OpenFiles → OpenFiles → Result A ResolveError → Type 0
MovesOver files old new result =
    (recorded : Recorded) (place : ℕ) (blocks : Blocks) → RecordsFiles files recorded
    → Moves (open_left recorded place blocks old) (open_left recorded place blocks new) result

-- the same of one that looks at the machine too
abbrev pub ExpandsOver : {A : Type 0} →
    Option (List Pair) → Facts → Bytes → OpenFiles → OpenFiles → Result A ResolveError → Type 0
ExpandsOver files facts original old new result =
    (recorded : Recorded) (place : ℕ) (blocks : Blocks)
    → RecordsFiles files recorded → recorded.facts ≡ facts → recorded.asked.original ≡ original
    → Moves (open_left recorded place blocks old) (open_left recorded place blocks new) result

-- ---- all files

-- if files record, a step over all files left everything as it was, or it refused
abbrev pub AllMove : {A : Type 0} →
    Option (List Pair) → Lines → Lines → Result A ResolveError → Type 0
AllMove files old new result =
    (recorded : Recorded) (place : ℕ) (blocks : Blocks) → RecordsFiles files recorded
    → Moves (lines_to_give recorded place blocks old) (lines_to_give recorded place blocks new) result

-- what a step over all files did to the lines: it left those that are left, the first files and the
-- count of lines as they were, or it refused; and the next one can be done
pub record MovesLines {A : Type 0} (files : Option (List Pair)) (old new : Lines)
    (result : Result A ResolveError) : Type 0 where
  pub moves : AllMove files old new result
  pub goes_on : OnOk result (ReadingGoesOn old.open_files new.open_files)
  pub firsts : new.firsts ≡ old.firsts
  pub count : new.read ≡ old.read

-- if files record, a step over all files that looks at the machine too did so
abbrev pub AllExpand : {A : Type 0} →
    Option (List Pair) → Facts → Bytes → Lines → Lines → Result A ResolveError → Type 0
AllExpand files facts original old new result =
    (recorded : Recorded) (place : ℕ) (blocks : Blocks)
    → RecordsFiles files recorded → recorded.facts ≡ facts → recorded.asked.original ≡ original
    → Moves (lines_to_give recorded place blocks old) (lines_to_give recorded place blocks new) result

-- if files record, one line was read
abbrev pub TakesOne : Option (List Pair) → Lines → Lines → Result ReadStep ResolveError → Type 0
TakesOne files old new result =
    (recorded : Recorded) (place : ℕ) (blocks : Blocks)
    → RecordsFiles files recorded → place ≡ length recorded.asked.lines + old.read
    → Bounded old.open_files (length blocks) → OneLine recorded place blocks old new result

-- if files record, the next line was read that has content
abbrev pub ReadsOver : Option (List Pair) → Lines → Lines
    → Result (Option ConfLine) ResolveError → Type 0
ReadsOver files old new result =
    (recorded : Recorded) (place : ℕ) (blocks : Blocks)
    → RecordsFiles files recorded → place ≡ length recorded.asked.lines + old.read
    → Bounded old.open_files (length blocks) → ReaderReads recorded place blocks old new result

-- the same of a call that looks at the machine too
abbrev pub ReadsFor : Option (List Pair) → Facts → Bytes → Lines → Lines
    → Result (Option ConfLine) ResolveError → Type 0
ReadsFor files facts original old new result =
    (recorded : Recorded) (place : ℕ) (blocks : Blocks)
    → RecordsFiles files recorded → recorded.facts ≡ facts → recorded.asked.original ≡ original
    → place ≡ length recorded.asked.lines + old.read
    → Bounded old.open_files (length blocks) → ReaderReads recorded place blocks old new result
