use Rattle.std.proofs.Common.{◌∙◌, refl}
use Rattle.std.proofs.lemmas.Result.{err_from_is_err_and}
use Rattle.conf_reader.proofs.MovingLemmas.{lines-fail, lines-same, lines-then}
use Rattle.conf_reader.proofs.UsesLemmas.{uses-fails, uses-none, uses-then}
use Rattle.conf_reader.proofs.lines.Lines.reach.Goals as goal

pub loop-self-init : goal.loop-self-init
loop-self-init g c = record {
  lines = lines-same c.args.self.now c.requires.ready;
  files = uses-none (λ recorded test h. h) (λ recorded. refl);
}

pub loop-self-preserved : goal.loop-self-preserved
loop-self-preserved g c =
    let before = c.loop-self.invariant in
    let step = c.in_ok-settle.ensures in
    let later = c.in_ok-first.ensures in
    record {
      lines = lines-then (tt {0}) (step.files.recorded ∙ before.files.recorded) (lines-then (tt {0}) before.files.recorded before.lines step.lines) later.lines;
      files = uses-then (tt {0}) (uses-then (tt {0}) before.files step.files) later.files;
    }

pub returns-then-branch-clause-lines : goal.returns-then-branch-clause-lines
returns-then-branch-clause-lines g c = lines-then _ c.loop-self.invariant.files.recorded c.loop-self.invariant.lines c.in_ok-settle.ensures.lines

pub returns-then-branch-clause-files : goal.returns-then-branch-clause-files
returns-then-branch-clause-files g c = uses-then _ c.loop-self.invariant.files c.in_ok-settle.ensures.files

pub returns-then-not-branch-clause-lines : goal.returns-then-not-branch-clause-lines
returns-then-not-branch-clause-lines g c =
    let before = c.loop-self.invariant in
    let step = c.in_ok-settle.ensures in
    lines-then _ (step.files.recorded ∙ before.files.recorded) (lines-then (tt {0}) before.files.recorded before.lines step.lines) c.in_ok-first.ensures.lines

pub returns-then-not-branch-clause-files : goal.returns-then-not-branch-clause-files
returns-then-not-branch-clause-files g c = uses-then _ (uses-then (tt {0}) c.loop-self.invariant.files c.in_ok-settle.ensures.files) c.in_ok-first.ensures.files

pub returns-in_err-settle-clause-lines : goal.returns-in_err-settle-clause-lines
returns-in_err-settle-clause-lines g c =
    let p = err_from_is_err_and c.from_residual.result c.from_residual.ensures.1 in
    rw (p.1, p.2) (lines-fail c.loop-self.invariant.files.recorded c.loop-self.invariant.lines c.in_err-settle.ensures.lines)

pub returns-in_err-settle-clause-files : goal.returns-in_err-settle-clause-files
returns-in_err-settle-clause-files g c =
    let p = err_from_is_err_and c.from_residual.result c.from_residual.ensures.1 in
    rw (p.1, p.2) (uses-fails c.loop-self.invariant.files c.in_err-settle.ensures.files)

pub returns-in_err-first-clause-lines : goal.returns-in_err-first-clause-lines
returns-in_err-first-clause-lines g c =
    let before = c.loop-self.invariant in
    let step = c.in_ok-settle.ensures in
    let p = err_from_is_err_and c.from_residual-in_err-first.result c.from_residual-in_err-first.ensures.1 in
    rw (p.1, p.2) (lines-fail (step.files.recorded ∙ before.files.recorded) (lines-then (tt {0}) before.files.recorded before.lines step.lines) c.in_err-first.ensures.lines)

pub returns-in_err-first-clause-files : goal.returns-in_err-first-clause-files
returns-in_err-first-clause-files g c =
    let p = err_from_is_err_and c.from_residual-in_err-first.result c.from_residual-in_err-first.ensures.1 in
    rw (p.1, p.2) (uses-fails (uses-then (tt {0}) c.loop-self.invariant.files c.in_ok-settle.ensures.files) c.in_err-first.ensures.files)
