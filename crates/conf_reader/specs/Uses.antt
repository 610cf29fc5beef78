-- What the calls of a reader do to the files.
use Rattle.std.specs.Prelude.{◌≡◌, true, List, [], Option, Some, None, Result, Ok, Err, OnOk}
use Rattle.conf_rules.specs.declared.causes.ResolveError.{ResolveError}
use Rattle.conf_rules.specs.Texts.{Bytes}
use Rattle.conf_rules.specs.Recorded.{Facts, Recorded}
use Rattle.conf_reader.specs.declared.line.ConfLine.{ConfLine}
use Rattle.conf_reader.specs.declared.lines.Lines.{Lines}
use Rattle.conf_reader.specs.declared.lines.ReadStep.{ReadStep}
use Rattle.conf_reader.specs.declared.lines.ReadStep.TheVariants as steps
use Rattle.conf_reader.specs.declared.stack.OpenFiles.{OpenFiles}
use Rattle.conf_reader.specs.FilesState.{FilesState}
use Rattle.conf_reader.specs.Known.{RecordsFiles}
use Rattle.conf_reader.specs.Left.{source_of}
use Rattle.conf_reader.specs.Looking.{Test, meets, all_meet, line_meets, RecordsFailed}
use Rattle.conf_reader.specs.Results.{HasFilesCause}
use Rattle.conf_reader.specs.ToRead.{open_reads, all_to_read, Notes}

-- ---- what is still to be read of the files

-- that all that is still to be looked at may be reported where it is named, and the paths that are
-- still to be read
pub record Coming : Type 1 where
  pub meets : Test → Recorded → Type 0
  pub paths : Recorded → List Bytes

-- of open files
abbrev pub of_open : OpenFiles → Coming
of_open o = record {
  meets = λ test recorded. meets test recorded o ≡ true;
  paths = λ recorded. open_reads recorded o;
}

-- of all files
abbrev pub of_all : Lines → Coming
of_all r = record {
  meets = λ test recorded. all_meet test recorded r ≡ true;
  paths = λ recorded. all_to_read recorded r;
}

-- nothing
abbrev pub nothing : Coming
nothing = record { meets = λ test recorded. Unit {0}; paths = λ recorded. [] }

-- after a line that is given: all that it looks at, too, has to be reported where it may be
abbrev pub behind_line : ConfLine → Lines → Coming
behind_line line r = record {
  meets = λ test recorded. line_meets test recorded (source_of r.open_files.system) line ≡ true
      → meets test recorded r.open_files ≡ true;
  paths = λ recorded. all_to_read recorded r;
}

-- after a step
abbrev pub behind_step : Result ReadStep ResolveError → Lines → Coming
behind_step (Ok steps.End) r = nothing
behind_step (Ok steps.Comment) r = of_all r
behind_step (Ok (steps.Given line)) r = behind_line line r
behind_step (Err e) r = nothing

-- after a call that gives the next line
abbrev pub behind_call : Result (Option ConfLine) ResolveError → Lines → Coming
behind_call (Ok None) r = nothing
behind_call (Ok (Some line)) r = behind_line line r
behind_call (Err e) r = nothing

-- ---- what a call did

-- What a call did to the files, from what was to be read of them before to what is now.
--
-- - What they record stays.
-- - Their faults rose only where a read fault is reported, and no other fault is.
-- - Whatever test was met by all that was to be looked at, a failed read meets it where it is
--   reported, and so does all that is to be looked at now.
-- - If files record, the first of the paths that were to be read were read.
pub record UsesFiles {A : Type 0} (before now : FilesState) (old new : Coming)
    (result : Result A ResolveError) : Type 0 where
  pub recorded : now.recorded ≡ before.recorded
  pub cause : HasFilesCause result before.faults now.faults
  pub looks : (recorded : Recorded) (test : Test) → old.meets test recorded
      → RecordsFailed test result before.failed now.failed × OnOk result (new.meets test recorded)
  pub noted : (recorded : Recorded) → RecordsFiles before.recorded recorded
      → Notes (old.paths recorded) (new.paths recorded) result before.readings now.readings

-- the same of a call that looks at the machine too
pub record UsesFilesFor {A : Type 0} (facts : Facts) (original : Bytes) (before now : FilesState)
    (old new : Coming) (result : Result A ResolveError) : Type 0 where
  pub recorded : now.recorded ≡ before.recorded
  pub cause : HasFilesCause result before.faults now.faults
  pub looks : (recorded : Recorded) (test : Test) → RecordsFiles before.recorded recorded → recorded.facts ≡ facts
      → recorded.asked.original ≡ original → old.meets test recorded
      → RecordsFailed test result before.failed now.failed × OnOk result (new.meets test recorded)
  pub noted : (recorded : Recorded) → RecordsFiles before.recorded recorded → recorded.facts ≡ facts
      → recorded.asked.original ≡ original
      → Notes (old.paths recorded) (new.paths recorded) result before.readings now.readings
