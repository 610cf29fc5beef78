use Rattle.std.proofs.Common.{◌≡◌, ◌∙◌, Err, ap, refl, subst, sym}
use Rattle.conf_fold.specs.Results.{breaks_line, breaks_off, FailsAtLine}
use Rattle.conf_fold.specs.FoldRepresents.{Folds, next_row}
use Rattle.conf_fold.proofs.RefusedLemmas.{entry-refused, placed-refusal, placed-folds}
use Rattle.conf_fold.proofs.RanLemmas.{ran-weaker, refused-ran, breaks-placed, never-failed, plain-placed, placed-fails, some-broken, Placed}
use Rattle.conf_fold.proofs.fold.Fold.line.Goals as goal

pub returns-in-Err-clause-folds : goal.returns-in-Err-clause-folds
returns-in-Err-clause-folds g c = λ recorded pass rows blocks place l facts status s n.
    placed-refusal recorded pass rows blocks c.args.line.now place l _ _ _ n.is_line c.refused.ensures (entry-refused recorded pass c.args.self.now _ rows blocks c.args.line.now place l _ s n c.in-Err.ensures.read)

pub returns-in-Err-clause-ran : goal.returns-in-Err-clause-ran
returns-in-Err-clause-ran g c = λ recorded pass rows blocks place l facts status s n.
    ran-weaker (breaks_line {A = Unit {0}} (Err c.in-Err.e)) (breaks_off {A = Unit {0}} (Err c.refused.result)) _ _ _ (breaks-placed c.in-Err.e _ _ c.refused.result c.refused.ensures)
    (refused-ran recorded pass c.args.self.now rows blocks c.args.line.now place l c.in-Err.e _ _ s n c.in-Err.ensures.read refl)

pub returns-in-Err-clause-failed : goal.returns-in-Err-clause-failed
returns-in-Err-clause-failed g c = λ recorded pass rows blocks place l facts status s n.
    never-failed c.in-Err.e _ _ c.refused.result _ _ _ c.in-Err.ensures.plain c.refused.ensures

pub returns-in-Err-clause-cause : goal.returns-in-Err-clause-cause
returns-in-Err-clause-cause g c = plain-placed c.in-Err.e _ _ _ _ c.refused.result c.in-Err.ensures.plain refl c.refused.ensures

pub returns-in_default-clause-ran : goal.returns-in_default-clause-ran
returns-in_default-clause-ran g c = λ recorded pass rows blocks place l facts status s n. some-broken _ _ _ refl

pub returns-clause-folds : goal.returns-clause-folds
returns-clause-folds g c = λ recorded pass rows blocks place l facts status s n.
    let given = c.args.line.now in
    let file : c.in-Ok-copy.file ≡ given.file = c.in-Ok-copy.ensures ∙ c.as_bytes.ensures in
    let is : c.placed.result ≡ Placed c.take.result given.file given.number = c.placed.ensures ∙ ap (λ f. Placed c.take.result f given.number) file in
    subst (λ r. Folds recorded pass rows blocks given place l r c.take.new.self) (sym is)
    (placed-folds recorded pass rows blocks given place l c.take.result c.take.new.self n.is_line (c.take.ensures.folds recorded pass rows blocks place l facts status s n c.in-Ok.ensures.read))

pub returns-clause-failed : goal.returns-clause-failed
returns-clause-failed g c = λ recorded pass rows blocks place l facts status s n.
    let given = c.args.line.now in
    let file : c.in-Ok-copy.file ≡ given.file = c.in-Ok-copy.ensures ∙ c.as_bytes.ensures in
    let is : c.placed.result ≡ Placed c.take.result given.file given.number = c.placed.ensures ∙ ap (λ f. Placed c.take.result f given.number) file in
    subst (λ r. FailsAtLine given.file given.number r (g.R.Runner.ran c.args.runner.now) (g.R.Runner.ran c.take.new.runner) (next_row recorded pass rows place l).ran) (sym is)
    (placed-fails c.take.result given.file given.number _ _ _ (c.take.ensures.failed recorded pass rows blocks place l facts status s n c.in-Ok.ensures.read))
