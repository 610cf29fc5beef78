use Rattle.std.proofs.Common.{refl}
use Rattle.conf_rules.specs.Diagnostics.{line_of, text_of}
use Rattle.ssh_mux.proofs.LineLemmas.{reports_memory}
use Rattle.ssh_mux.proofs.reporting.report.Goals as goal

pub returns-in-Err-clause-recorded : goal.returns-in-Err-clause-recorded
unfolding line_of text_of
returns-in-Err-clause-recorded g c = reports_memory _ _ _ _ _ _ _ c.in_default.ensures refl c.put_line-in-Err.ensures.recorded
