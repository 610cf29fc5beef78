use Rattle.std.proofs.Common.{◌≡◌, ℕ}
use Rattle.conf_rules.specs.Recorded.{Recorded}
use Rattle.conf_reader.specs.Known.{RecordsFiles}
use Rattle.conf_reader.specs.Blocks.{Blocks}
use Rattle.conf_reader.specs.FilesState.{files_state_of}
use Rattle.conf_reader.specs.Left.{open_left, work}
use Rattle.conf_reader.specs.Moving.{ReadingGoesOn}
use Rattle.conf_reader.specs.Uses.{of_open}
use Rattle.conf_reader.proofs.UsesLemmas.{Used}
use Rattle.conf_reader.proofs.stack.OpenFiles.settle.Given as goal

abbrev pub invariant-loop : goal.invariant-loop
invariant-loop g l = record {
  left : (recorded : Recorded) (place : ℕ) (blocks : Blocks) → RecordsFiles (g.F.Files.recorded l.initial.files) recorded → open_left recorded place blocks l.initial.self ≡ open_left recorded place blocks l.self;
  goes_on : ReadingGoesOn l.initial.self l.self;
  files : Used (files_state_of g.F.Files l.initial.files) (files_state_of g.F.Files l.files) (of_open l.initial.self) (of_open l.self);
}

abbrev pub decreases-loop : goal.decreases-loop
decreases-loop g l = work l.self
