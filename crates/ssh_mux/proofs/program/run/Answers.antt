use Rattle.std.proofs.Common.{refl}
use Rattle.ssh_mux.proofs.EndLemmas.{stays_after, recorded_after, untouched_after, wire_stays_after}
use Rattle.ssh_mux.proofs.StillLemmas.{on_true}
use Rattle.ssh_mux.proofs.program.run.Goals as goal

pub returns-in-Ok-clause-runs : goal.returns-in-Ok-clause-runs
returns-in-Ok-clause-runs g c = c.in-Ok.ensures.runs c.in-Ok.status _ _ (refl, refl)

pub returns-in-Ok-clause-silent : goal.returns-in-Ok-clause-silent
returns-in-Ok-clause-silent g c = on_true _ _ refl

pub returns-in-Err-clause-runs : goal.returns-in-Err-clause-runs
returns-in-Err-clause-runs g c = c.in-Err.ensures.runs c.report.result _ _ (c.report.ensures.recorded, c.report.ensures.once)

pub returns-in-Err-clause-leaves : goal.returns-in-Err-clause-leaves
returns-in-Err-clause-leaves g c = record {
  unwritten = untouched_after _ _ _ _ _ _ _ _ c.report.ensures.recorded c.in-Err.ensures.leaves.unwritten;
  unlisted = c.in-Err.ensures.leaves.unlisted;
  files = c.in-Err.ensures.leaves.files;
  runner = c.in-Err.ensures.leaves.runner;
  wire = wire_stays_after _ _ _ _ _ _ _ _ c.report.ensures.recorded c.in-Err.ensures.leaves.wire;
  house = stays_after _ _ _ _ _ _ _ _ c.report.ensures.recorded c.in-Err.ensures.leaves.house;
}

pub returns-in-Err-clause-silent : goal.returns-in-Err-clause-silent
returns-in-Err-clause-silent g c = recorded_after _ _ _ _ _ _ _ c.report.ensures.recorded
