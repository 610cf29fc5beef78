use Rattle.std.proofs.Common.{◌≡◌, take}
use Rattle.conf_rules.specs.Recorded.{Recorded}
use Rattle.conf_reader.specs.Known.{RecordsFiles}
use Rattle.conf_reader.specs.Paths.{all_globbed}
use Rattle.conf_reader.proofs.paths.all_globbed.Given as goal

abbrev pub invariant-loop-path : goal.invariant-loop-path
invariant-loop-path g l = record {
  recorded : g.F.Files.recorded l.files ≡ g.F.Files.recorded l.initial.files;
  faults : g.F.Files.faults l.files ≡ g.F.Files.faults l.initial.files;
  failed : (recorded : Recorded) → RecordsFiles (g.F.Files.recorded l.initial.files) recorded → g.F.Files.failed l.files ≡ g.F.Files.failed l.initial.files;
  noted : g.F.Files.readings l.files ≡ g.F.Files.readings l.initial.files;
  found : (recorded : Recorded) → RecordsFiles (g.F.Files.recorded l.initial.files) recorded → l.all ≡ all_globbed recorded (take l.path-index l.paths);
}
