-- What files show at a moment.
use Rattle.std.specs.Prelude.{ℕ, List, Option}
use Rattle.mux_outside.specs.declared.files.Files.{Ghosts as TheFiles}
use Rattle.mux_outside.specs.declared.pairs.Pair.{Pair}
use Rattle.mux_outside.specs.declared.reading.Reading.{Reading}
use Rattle.conf_rules.specs.Texts.{Bytes}

-- the paths and contents of all files, how often a call failed, and, if they are recorded, at which
-- paths, and which calls of `read` there were
pub record FilesState : Type 0 where
  pub recorded : Option (List Pair)
  pub faults : ℕ
  pub failed : Option (List Bytes)
  pub readings : Option (List Reading)

abbrev pub files_state_of : {F : Type 0} → TheFiles F → F → FilesState
files_state_of the files = record {
  recorded = the.recorded files;
  faults = the.faults files;
  failed = the.failed files;
  readings = the.readings files;
}
