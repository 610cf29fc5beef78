use Rattle.std.proofs.Common.{◌-◌, length}
use Rattle.conf_reader.specs.FilesState.{files_state_of}
use Rattle.conf_reader.specs.Uses.{of_all}
use Rattle.conf_reader.proofs.MovingLemmas.{Moved}
use Rattle.conf_reader.proofs.UsesLemmas.{Used}
use Rattle.conf_reader.proofs.lines.Lines.reach.Given as goal

abbrev pub invariant-loop-self : goal.invariant-loop-self
invariant-loop-self g l = record {
  lines : Moved (g.F.Files.recorded l.initial.files) l.initial.self l.self;
  files : Used (files_state_of g.F.Files l.initial.files) (files_state_of g.F.Files l.files) (of_all l.initial.self) (of_all l.self);
}

abbrev pub decreases-loop-self : goal.decreases-loop-self
decreases-loop-self g l = length l.self.firsts.items - l.self.next_first
