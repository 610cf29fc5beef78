use Rattle.std.proofs.Common.{◌≡◌, take}
use Rattle.std.specs.Prelude.{flat_map}
use Rattle.conf_rules.specs.Recorded.{Recorded}
use Rattle.conf_rules.specs.Includes.{below}
use Rattle.conf_reader.specs.Known.{RecordsFiles}
use Rattle.conf_reader.specs.Paths.{SameTexts}
use Rattle.conf_reader.proofs.paths.with_component.Given as goal

abbrev pub invariant-loop-base : goal.invariant-loop-base
invariant-loop-base g l = record {
  recorded : g.F.Files.recorded l.files ≡ g.F.Files.recorded l.initial.files;
  faults : g.F.Files.faults l.files ≡ g.F.Files.faults l.initial.files;
  failed : g.F.Files.failed l.files ≡ g.F.Files.failed l.initial.files;
  noted : g.F.Files.readings l.files ≡ g.F.Files.readings l.initial.files;
  found : (recorded : Recorded) → RecordsFiles (g.F.Files.recorded l.initial.files) recorded → SameTexts (flat_map (below recorded l.component) (take l.base-index l.fn.bases.items)) l.paths.items;
}
