use Rattle.std.proofs.Common.{◌≡◌, ◌≤◌, ◌+◌, ◌-◌, ℕ, length}
use Rattle.conf_rules.specs.declared.limits.TheConstants.{MAX_LINES}
use Rattle.conf_rules.specs.Recorded.{Recorded}
use Rattle.conf_reader.specs.Known.{RecordsFiles}
use Rattle.conf_reader.specs.Blocks.{Blocks}
use Rattle.conf_reader.specs.FilesState.{files_state_of}
use Rattle.conf_reader.specs.Left.{Bounded}
use Rattle.conf_reader.specs.Moving.{ReadingGoesOn}
use Rattle.conf_reader.specs.ReaderReads.{SoFar}
use Rattle.conf_reader.specs.Uses.{of_all}
use Rattle.conf_reader.proofs.UsesLemmas.{Used}
use Rattle.conf_reader.proofs.lines.Lines.next_line.Given as goal

abbrev pub invariant-loop-line : goal.invariant-loop-line
invariant-loop-line g l = record {
  goes_on : ReadingGoesOn l.initial.self.open_files l.self.open_files;
  counted : l.initial.self.read ≤ l.self.read;
  firsts : l.self.firsts ≡ l.initial.self.firsts;
  files : Used (files_state_of g.F.Files l.initial.files) (files_state_of g.F.Files l.files) (of_all l.initial.self) (of_all l.self);
  far : (recorded : Recorded) (place : ℕ) (blocks : Blocks) → RecordsFiles (g.F.Files.recorded l.initial.files) recorded → place ≡ length recorded.asked.lines + l.initial.self.read → Bounded l.initial.self.open_files (length blocks) → SoFar recorded place blocks l.initial.self l.self;
}

abbrev pub decreases-loop-line : goal.decreases-loop-line
decreases-loop-line g l = MAX_LINES - l.self.read
