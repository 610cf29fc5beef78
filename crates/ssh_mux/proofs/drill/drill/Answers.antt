use Rattle.std.proofs.lemmas.Result.{err_from_is_err_and}
use Rattle.ssh_mux.specs.Drill.{drill_text}
use Rattle.ssh_mux.proofs.DrillLemmas.{summed-counts, summed-goes, unsummed-goes}
use Rattle.ssh_mux.proofs.ListLemmas.{handed-tried}
use Rattle.ssh_mux.proofs.PutLemmas.{quiet-puts}
use Rattle.ssh_mux.proofs.StillLemmas.{loud, not_false, on_false, quiet-count}
use Rattle.ssh_mux.proofs.drill.drill.Goals as goal

pub returns-in_err-serve_drill-clause-goes : goal.returns-in_err-serve_drill-clause-goes
returns-in_err-serve_drill-clause-goes g c = let p = err_from_is_err_and c.from_residual.result c.from_residual.ensures.1 in rw (p.1, p.2) (unsummed-goes _ _ _ _ _ _ c.in_err-serve_drill.ensures.ends c.in_err-serve_drill.ensures.start c.in_err-serve_drill.ensures.opened c.in_err-serve_drill.ensures.served)

pub returns-in_err-serve_drill-clause-wire : goal.returns-in_err-serve_drill-clause-wire
returns-in_err-serve_drill-clause-wire g c = let p = err_from_is_err_and c.from_residual.result c.from_residual.ensures.1 in rw (p.1, p.2) c.in_err-serve_drill.ensures.wire

pub returns-in_err-serve_drill-clause-unwritten : goal.returns-in_err-serve_drill-clause-unwritten
returns-in_err-serve_drill-clause-unwritten g c = on_false _ _

pub returns-in_err-serve_drill-clause-out_cause : goal.returns-in_err-serve_drill-clause-out_cause
returns-in_err-serve_drill-clause-out_cause g c = let p = err_from_is_err_and c.from_residual.result c.from_residual.ensures.1 in rw (p.1, p.2) (quiet-count _ _ (loud _))

pub returns-in_err-serve_drill-clause-once : goal.returns-in_err-serve_drill-clause-once
returns-in_err-serve_drill-clause-once g c = let p = err_from_is_err_and c.from_residual.result c.from_residual.ensures.1 in rw (p.1, p.2) (quiet-puts _ _ (loud _))

pub returns-clause-goes : goal.returns-clause-goes
returns-clause-goes g c = summed-goes _ _ _ _ _ _ _ _ c.in_ok-serve_drill.ensures.ends c.in_ok-serve_drill.ensures.opened c.in_ok-serve_drill.ensures.served (rw c.tally-tally.ensures at c.sum_up.ensures.handed)

pub returns-clause-wire : goal.returns-clause-wire
returns-clause-wire g c = summed-counts _ _ (drill_text c.tally-tally.result) c.sum_up.result (g.S.Sink.recorded c.args.out.now) (g.S.Sink.recorded c.sum_up.new.out) _ _ _ _ c.in_ok-serve_drill.ensures.ends c.sum_up.ensures.handed c.in_ok-serve_drill.ensures.wire

pub returns-clause-unwritten : goal.returns-clause-unwritten
returns-clause-unwritten g c = not_false _ _ (handed-tried (drill_text c.tally-tally.result) c.sum_up.result (g.S.Sink.recorded c.args.out.now) (g.S.Sink.recorded c.sum_up.new.out) c.sum_up.ensures.handed)
