use Rattle.std.proofs.Common.{◌≡◌, [], ◌∷◌, length}
use Rattle.conf_rules.specs.Recorded.{Recorded}
use Rattle.conf_rules.specs.Includes.{along, components_of}
use Rattle.conf_rules.specs.Looks.{folders_along}
use Rattle.conf_reader.specs.Known.{RecordsFiles}
use Rattle.conf_reader.specs.Paths.{SameTexts}
use Rattle.conf_reader.proofs.FolderLemmas.{Among}
use Rattle.conf_reader.proofs.paths.along.Given as goal

abbrev pub invariant-loop-component : goal.invariant-loop-component
invariant-loop-component g l = record {
  recorded : g.F.Files.recorded l.files ≡ g.F.Files.recorded l.initial.files;
  faults : g.F.Files.faults l.files ≡ g.F.Files.faults l.initial.files;
  failed : g.F.Files.failed l.files ≡ g.F.Files.failed l.initial.files;
  noted : g.F.Files.readings l.files ≡ g.F.Files.readings l.initial.files;
  found : (recorded : Recorded) → RecordsFiles (g.F.Files.recorded l.initial.files) recorded → SameTexts (along recorded (components_of l.path) ([] ∷ [])) (along recorded (components_of l.left) l.paths.items);
  looks : (recorded : Recorded) → RecordsFiles (g.F.Files.recorded l.initial.files) recorded → Among (folders_along recorded (components_of l.left) l.paths.items) (folders_along recorded (components_of l.path) ([] ∷ []));
}

abbrev pub decreases-loop-component : goal.decreases-loop-component
decreases-loop-component g l = length l.left
