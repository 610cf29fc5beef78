use Rattle.std.proofs.Common.{◌∙◌, refl, sym, subst}
use Rattle.std.proofs.lemmas.Result.{err_from_is_err_and}
use Rattle.conf_reader.proofs.MovingLemmas.{goes-same, goes-then}
use Rattle.conf_reader.proofs.RefusalLemmas.{moved-before}
use Rattle.conf_reader.proofs.UsesLemmas.{uses-fails, uses-none, uses-then}
use Rattle.conf_reader.specs.Known.{RecordsFiles}
use Rattle.conf_reader.specs.Left.{open_left}
use Rattle.conf_reader.proofs.stack.OpenFiles.settle.Goals as goal

pub loop-init : goal.loop-init
loop-init g c = record {
  left = λ recorded place blocks records. refl;
  goes_on = goes-same c.args.self.now c.requires.ready;
  files = uses-none (λ recorded test h. h) (λ recorded. refl);
}

pub loop-preserved : goal.loop-preserved
loop-preserved g c = record {
  left = λ recorded place blocks records. c.loop.invariant.left recorded place blocks records ∙ c.in_ok-advance.ensures.moves recorded place blocks (subst (λ f. RecordsFiles f recorded) (sym c.loop.invariant.files.recorded) records);
  goes_on = goes-then c.loop.invariant.goes_on c.in_ok-advance.ensures.goes_on;
  files = uses-then tt c.loop.invariant.files c.in_ok-advance.ensures.files;
}

pub returns-in_err-advance-clause-moves : goal.returns-in_err-advance-clause-moves
returns-in_err-advance-clause-moves g c = λ recorded place blocks records.
    let p = err_from_is_err_and c.from_residual.result c.from_residual.ensures.1 in
    rw (p.1, p.2) (moved-before (open_left recorded place blocks c.args.self.now) (open_left recorded place blocks c.loop.self) _ (c.loop.invariant.left recorded place blocks records) (c.in_err-advance.ensures.moves recorded place blocks (subst (λ f. RecordsFiles f recorded) (sym c.loop.invariant.files.recorded) records)))

pub returns-in-Line-clause-moves : goal.returns-in-Line-clause-moves
returns-in-Line-clause-moves g c = λ recorded place blocks records. c.loop.invariant.left recorded place blocks records ∙ c.in_ok-advance.ensures.moves recorded place blocks (subst (λ f. RecordsFiles f recorded) (sym c.loop.invariant.files.recorded) records)

pub returns-in-Line-clause-goes_on : goal.returns-in-Line-clause-goes_on
returns-in-Line-clause-goes_on g c = goes-then c.loop.invariant.goes_on c.in_ok-advance.ensures.goes_on

pub returns-in-Line-clause-files : goal.returns-in-Line-clause-files
returns-in-Line-clause-files g c = uses-then _ c.loop.invariant.files c.in_ok-advance.ensures.files

pub returns-in-End-clause-moves : goal.returns-in-End-clause-moves
returns-in-End-clause-moves g c = λ recorded place blocks records. c.loop.invariant.left recorded place blocks records ∙ c.in_ok-advance.ensures.moves recorded place blocks (subst (λ f. RecordsFiles f recorded) (sym c.loop.invariant.files.recorded) records)

pub returns-in-End-clause-goes_on : goal.returns-in-End-clause-goes_on
returns-in-End-clause-goes_on g c = goes-then c.loop.invariant.goes_on c.in_ok-advance.ensures.goes_on

pub returns-in-End-clause-files : goal.returns-in-End-clause-files
returns-in-End-clause-files g c = uses-then _ c.loop.invariant.files c.in_ok-advance.ensures.files

pub returns-in_err-advance-clause-files : goal.returns-in_err-advance-clause-files
returns-in_err-advance-clause-files g c =
    let p = err_from_is_err_and c.from_residual.result c.from_residual.ensures.1 in
    rw (p.1, p.2) (uses-fails c.loop.invariant.files c.in_err-advance.ensures.files)
