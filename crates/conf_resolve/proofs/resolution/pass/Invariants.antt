use Rattle.std.proofs.Common.{◌≡◌, ◌-◌, List, length}
use Rattle.conf_rules.specs.declared.limits.TheConstants.{MAX_LINES}
use Rattle.conf_rules.specs.Recorded.{Recorded}
use Rattle.conf_rules.specs.Rows.{LineRow, Pass}
use Rattle.conf_match.specs.Evaluated.{RecordsStatus}
use Rattle.conf_reader.specs.Known.{RecordsFiles}
use Rattle.conf_reader.specs.Firsts.{firsts_of}
use Rattle.conf_reader.specs.Left.{Bounded}
use Rattle.conf_rules.specs.ReadOrder.{read_once}
use Rattle.conf_reader.specs.ToRead.{all_to_read, ReadsTo}
use Rattle.conf_tokens.specs.Known.{known}
use Rattle.conf_resolve.specs.PassGives.{PassBegins, final_rows}
use Rattle.conf_resolve.proofs.PassLemmas.{Underway}
use Rattle.conf_resolve.proofs.resolution.pass.Given as goal

abbrev pub invariant-loop-reader : goal.invariant-loop-reader
invariant-loop-reader g l = record {
  files : g.F.Files.recorded l.files ≡ g.F.Files.recorded l.fn.files;
  runner : g.R.Runner.recorded l.runner ≡ g.R.Runner.recorded l.fn.runner;
  file_faults : g.F.Files.faults l.files ≡ g.F.Files.faults l.fn.files;
  run_faults : g.R.Runner.faults l.runner ≡ g.R.Runner.faults l.fn.runner;
  facts : known l.reader.facts ≡ known l.facts;
  original : l.reader.original ≡ l.asked.original;
  firsts : l.reader.lines.firsts.items ≡ firsts_of l.facts.home l.asked.from;
  failed : (recorded : Recorded) → recorded.asked ≡ l.asked → recorded.facts ≡ known l.facts → RecordsFiles (g.F.Files.recorded l.fn.files) recorded → g.F.Files.failed l.files ≡ g.F.Files.failed l.fn.files;
  notes : (recorded : Recorded) → recorded.asked ≡ l.asked → recorded.facts ≡ known l.facts → RecordsFiles (g.F.Files.recorded l.fn.files) recorded → ReadsTo (read_once recorded recorded.asked.from) (all_to_read recorded l.reader.lines) (g.F.Files.readings l.fn.files) (g.F.Files.readings l.files);
  fits : Bounded l.reader.lines.open_files (length l.fold.applies);
  underway : (recorded : Recorded) (pass : Pass) (rows : List LineRow) → recorded.asked ≡ l.asked → recorded.facts ≡ known l.facts → RecordsFiles (g.F.Files.recorded l.fn.files) recorded → RecordsStatus (g.R.Runner.recorded l.fn.runner) recorded.status
      → PassBegins recorded pass l.fn.fold rows → Underway recorded pass l.fold l.reader.lines (final_rows recorded pass rows) rows (g.R.Runner.ran l.fn.runner) (g.R.Runner.ran l.runner);
}

abbrev pub decreases-loop-reader : goal.decreases-loop-reader
decreases-loop-reader g l = MAX_LINES - l.reader.lines.read
