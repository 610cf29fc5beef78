-- What open files have still to look at, and where a failed read is reported.
use Rattle.std.specs.Prelude.{◌≡◌, ℕ, ◌-◌, Bool, true, ◌&&◌, if◌then◌else◌, List, [], ◌∷◌, ◌++◌, drop, Option, Some, None, Result, Ok, Err, codes}
use Rattle.std.specs.List.{list_all, list_any}
use Rattle.std.specs.Option.{option_map}
use Rattle.std.specs.Str.{bytes_eq}
use Rattle.mux_outside.specs.declared.file_error.FileError.{FileError}
use Rattle.mux_outside.specs.declared.file_error.FileError.TheVariants as file_errors
use Rattle.conf_rules.specs.declared.causes.Cause.TheVariants as causes
use Rattle.conf_rules.specs.declared.causes.ResolveError.{ResolveError}
use Rattle.conf_rules.specs.declared.causes.ResolveError.TheVariants.{At, OutOfMemory}
use Rattle.conf_rules.specs.Texts.{Bytes, same_word}
use Rattle.conf_rules.specs.Recorded.{Recorded}
use Rattle.conf_rules.specs.Includes.{Source}
use Rattle.conf_rules.specs.Looks.{looks_at}
use Rattle.conf_reader.specs.declared.errors.LineError.{LineError}
use Rattle.conf_reader.specs.declared.errors.LineError.TheVariants as line_errors
use Rattle.conf_reader.specs.declared.line.ConfLine.{ConfLine}
use Rattle.conf_reader.specs.declared.open_file.OpenFile.{OpenFile}
use Rattle.conf_reader.specs.declared.stack.OpenFiles.{OpenFiles}
use Rattle.conf_reader.specs.declared.lines.FirstFile.{FirstFile}
use Rattle.conf_reader.specs.declared.lines.Lines.{Lines}
use Rattle.conf_reader.specs.Left.{source_of, stack}

-- ---- what failed, call by call

-- one more path failed, which is among these
pub record FailsAmong (paths : List Bytes) (before now : Option (List Bytes)) : Type 0 where
  pub path : Bytes
  pub is : now ≡ option_map (λ failed. failed ++ path ∷ []) before
  pub among : list_any (bytes_eq path) paths ≡ true

-- a call failed at one of these paths, or nothing failed
abbrev pub FileFails : {A : Type 0} → List Bytes → Result A FileError → Option (List Bytes)
    → Option (List Bytes) → Type 0
FileFails paths (Err file_errors.Failed) before now = FailsAmong paths before now
FileFails paths answer before now = now ≡ before

-- the same of a line's reading
abbrev pub LineFails : {A : Type 0} → List Bytes → Result A LineError → Option (List Bytes)
    → Option (List Bytes) → Type 0
LineFails paths (Err (line_errors.Refused causes.ReadFault)) before now =
    FailsAmong paths before now
LineFails paths result before now = now ≡ before

-- the same of a file that no line includes: the refusal is reported at its line 0
abbrev pub FirstFails : {A : Type 0} → Bytes → Result A ResolveError → Option (List Bytes)
    → Option (List Bytes) → Type 0
FirstFails path (Err (At file line cause)) before now =
    (At file line cause ≡ At path 0 causes.ReadFault) × FailsAmong (path ∷ []) before now
FirstFails path result before now = now ≡ before

-- ---- where a failed read is reported

-- whether a failed read may be reported in a file, at a line's number, of a path
abbrev pub Test : Type 0
Test = Bytes → ℕ → Bytes → Bool

-- what the last line of an open file has still to look at
abbrev pub to_look : Recorded → Source → OpenFile → List Bytes
to_look recorded source f = elim f.include [
  | None ↦ drop f.next f.named
  | Some rest ↦ looks_at source recorded rest
]

-- whether all that an open file has still to look at may be reported at its last line
abbrev pub meets_in : Test → Recorded → Source → OpenFile → Bool
meets_in test recorded source f = list_all (test f.path (f.number - 1)) (to_look recorded source f)

-- the same of all open files
abbrev pub meets : Test → Recorded → OpenFiles → Bool
meets test recorded o = list_all (meets_in test recorded (source_of o.system)) (stack o)

-- whether each first file may be reported before its first line
abbrev pub firsts_meet : Test → List FirstFile → Bool
firsts_meet test firsts = list_all (λ f. test f.path 0 f.path) firsts

-- whether all that a reader has still to look at may be reported there
abbrev pub all_meet : Test → Recorded → Lines → Bool
all_meet test recorded r = meets test recorded r.open_files && firsts_meet test r.firsts.items

-- whether all that a given line looks at may be reported at it
abbrev pub line_meets : Test → Recorded → Source → ConfLine → Bool
line_meets test recorded source line = if same_word line.keyword (codes "include")
    then list_all (test line.file line.number) (looks_at source recorded line.rest) else true

-- one more path failed, and it may be reported there
pub record FailsAtPath (test : Test) (file : Bytes) (number : ℕ) (before now : Option (List Bytes)) :
    Type 0 where
  pub path : Bytes
  pub is : now ≡ option_map (λ failed. failed ++ path ∷ []) before
  pub meets : test file number path ≡ true

-- a failed read is reported where its path may be, and no other answer comes after one, nor does
-- running out of memory
abbrev pub RecordsFailed : {A : Type 0} → Test → Result A ResolveError → Option (List Bytes)
    → Option (List Bytes) → Type 0
RecordsFailed test (Ok x) before now = now ≡ before
RecordsFailed test (Err OutOfMemory) before now = now ≡ before
RecordsFailed test (Err (At file number causes.ReadFault)) before now =
    FailsAtPath test file number before now
RecordsFailed test (Err (At file number cause)) before now = now ≡ before

-- ---- what steps do

-- what meets a test goes on meeting it
abbrev pub KeepsLooks : OpenFiles → OpenFiles → Type 0
KeepsLooks old new =
    (recorded : Recorded) (test : Test) → meets test recorded old ≡ true → meets test recorded new ≡ true

-- the same of a line that is read, if what it looks at meets the test
abbrev pub TakesLooks : OpenFiles → OpenFiles → Result (Option ConfLine) ResolveError → Type 0
TakesLooks old new (Ok None) = KeepsLooks old new
TakesLooks old new (Ok (Some line)) =
    (recorded : Recorded) (test : Test) → meets test recorded old ≡ true
    → line_meets test recorded (source_of new.system) line ≡ true → meets test recorded new ≡ true
TakesLooks old new (Err e) = Unit {0}
