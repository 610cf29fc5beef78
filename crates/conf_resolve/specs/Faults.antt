-- Where the faults of a resolution are reported.
use Rattle.std.specs.Prelude.{◌≡◌, ◌⊎◌, ℕ, true, List, [], ◌∷◌, ◌++◌, Option, Some, Result, Err}
use Rattle.std.specs.List.{slice_get, list_any}
use Rattle.std.specs.Option.{option_map}
use Rattle.std.specs.Str.{bytes_eq}
use Rattle.conf_rules.specs.declared.causes.Cause.TheVariants as causes
use Rattle.conf_rules.specs.declared.causes.ResolveError.{ResolveError}
use Rattle.conf_rules.specs.declared.causes.ResolveError.TheVariants.{At, OutOfMemory}
use Rattle.conf_rules.specs.Texts.{Bytes}
use Rattle.conf_rules.specs.Recorded.{Recorded}
use Rattle.conf_rules.specs.Looks.{looked_at}
use Rattle.conf_rules.specs.Rows.{LineRow}
use Rattle.conf_match.specs.Evaluated.{RanAll, FailsOne}
use Rattle.conf_reader.specs.declared.lines.FirstFile.{FirstFile}
use Rattle.conf_reader.specs.Firsts.{firsts_of}
use Rattle.conf_resolve.specs.PassGives.{Commands, commands}

-- the paths of calls that failed, if they are recorded
abbrev pub FailedPaths : Type 0
FailedPaths = Option (List Bytes)

-- an Include line of these rows stands there, and looks at this path
pub record LooksFrom (recorded : Recorded) (rows : List LineRow) (file : Bytes) (number : ℕ) (path : Bytes) :
    Type 0 where
  pub at : ℕ
  pub row : LineRow
  pub is : slice_get rows at ≡ Some row
  pub looks : list_any (bytes_eq path) (looked_at row.line.source recorded row.line.content) ≡ true
  pub file_is : row.line.file ≡ file
  pub number_is : row.line.number ≡ number

-- this path is that of a file that no line includes, and line 0 of it is meant
pub record IsFirstFault (recorded : Recorded) (file : Bytes) (number : ℕ) (path : Bytes) : Type 0 where
  pub at : ℕ
  pub first : FirstFile
  pub is : slice_get (firsts_of recorded.facts.home recorded.asked.from) at ≡ Some first
  pub path_is : first.path ≡ path
  pub file_is : first.path ≡ file
  pub number_is : number ≡ 0

-- A read of a path failed after these rows, whose commands were all run. It is reported at one of
-- their Include lines that looks at this very path, or at line 0 of this path, a file that no line
-- includes.
pub record ReadFails (recorded : Recorded) (all : List LineRow) (file : Bytes) (number : ℕ)
    (before now : Commands) (failed failed_now : FailedPaths) : Type 0 where
  pub rows : List LineRow
  pub later : List LineRow
  pub parts : all ≡ rows ++ later
  pub ran : RanAll before now (commands rows)
  pub path : Bytes
  pub is : failed_now ≡ option_map (λ paths. paths ++ path ∷ []) failed
  pub place : LooksFrom recorded rows file number path ⊎ IsFirstFault recorded file number path

-- A command could not be run, after rows whose commands were all run. It is reported at the line of
-- the row that asks for it, whose earlier commands were run.
pub record RunFails (all : List LineRow) (file : Bytes) (number : ℕ) (before now : Commands) :
    Type 0 where
  pub rows : List LineRow
  pub row : LineRow
  pub later : List LineRow
  pub parts : all ≡ rows ++ row ∷ later
  pub file_is : row.line.file ≡ file
  pub number_is : row.line.number ≡ number
  pub reached : Commands
  pub ran : RanAll before reached (commands rows)
  pub fails : FailsOne reached now row.ran

-- a fault is reported where it came up
abbrev pub FaultStands : Recorded → List LineRow → ResolveError → Commands → Commands → FailedPaths
    → FailedPaths → Type 0
FaultStands recorded all (At file number causes.ReadFault) before now failed failed_now =
    ReadFails recorded all file number before now failed failed_now
FaultStands recorded all (At file number causes.RunFault) before now failed failed_now =
    RunFails all file number before now
FaultStands recorded all e before now failed failed_now = Unit {0}

-- no read failed, unless one is reported
abbrev pub NoneFails : {A : Type 0} → Result A ResolveError → FailedPaths → FailedPaths → Type 0
NoneFails (Err OutOfMemory) failed now = now ≡ failed
NoneFails (Err (At file number causes.ReadFault)) failed now = Unit {0}
NoneFails result failed now = now ≡ failed
