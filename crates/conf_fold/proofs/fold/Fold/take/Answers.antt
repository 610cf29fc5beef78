use Rattle.std.proofs.Common.{◌∙◌, ap, Ok, Err, false, take, ◌++◌, ◌∷◌, [], refl}
use Rattle.std.proofs.lemmas.Result.{err_from_is_err_and}
use Rattle.conf_rules.specs.Evaluation.{verdict}
use Rattle.conf_fold.specs.declared.fold.Fold.{Fold}
use Rattle.conf_fold.specs.Results.{breaks_line}
use Rattle.conf_fold.specs.FoldRepresents.{fold_view_of}
use Rattle.conf_fold.proofs.FoldLemmas.{folds-nothing, folds-block, folds-tests}
use Rattle.conf_fold.proofs.GiveLemmas.{folds-gives}
use Rattle.conf_fold.proofs.RefusedLemmas.{tests-failed, gives-depth}
use Rattle.conf_fold.proofs.RanLemmas.{ran-none, ran-weaker, quiet-row, tests-ran, tests-broken}
use Rattle.conf_fold.proofs.fold.Fold.take.Goals as goal

pub returns-in_ok-enter-in-Nothing-clause-folds : goal.returns-in_ok-enter-in-Nothing-clause-folds
returns-in_ok-enter-in-Nothing-clause-folds g c = λ recorded pass rows blocks place l facts status s n e.
    folds-nothing recorded pass c.args.self.now _ rows blocks c.args.line.now place l s n (e ∙ ap (λ x. Ok x) c.in-Nothing.is) c.requires.known c.in_ok-enter-in-Nothing.ensures.ok

pub returns-in_ok-enter-in-Nothing-clause-ran : goal.returns-in_ok-enter-in-Nothing-clause-ran
returns-in_ok-enter-in-Nothing-clause-ran g c = λ recorded pass rows blocks place l facts status s n e.
    ran-none false _ _ _ (quiet-row recorded pass c.args.self.now rows blocks c.args.line.now place l _ s n (e ∙ ap (λ x. Ok x) c.in-Nothing.is) (λ cs h. cc)) refl

pub returns-in_ok-open-in-Host-clause-folds : goal.returns-in_ok-open-in-Host-clause-folds
returns-in_ok-open-in-Host-clause-folds g c = λ recorded pass rows blocks place l facts status s n e.
    folds-block recorded pass c.args.self.now _ rows blocks c.args.line.now place l _ s n (e ∙ ap (λ x. Ok x) c.in-Host.is)
    (c.in_ok-open-in-Host.ensures.ok ∙ ap (λ b. record c.args.self.now { applies = take c.args.line.now.depth c.args.self.now.applies ++ b ∷ [] }) c.names_it-applies.ensures)

pub returns-in_ok-open-in-Host-clause-ran : goal.returns-in_ok-open-in-Host-clause-ran
returns-in_ok-open-in-Host-clause-ran g c = λ recorded pass rows blocks place l facts status s n e.
    ran-none false _ _ _ (quiet-row recorded pass c.args.self.now rows blocks c.args.line.now place l _ s n (e ∙ ap (λ x. Ok x) c.in-Host.is) (λ cs h. cc)) refl

pub returns-in_ok-open-in-Match-clause-folds : goal.returns-in_ok-open-in-Match-clause-folds
returns-in_ok-open-in-Match-clause-folds g c = λ recorded pass rows blocks place l facts status s n e.
    folds-tests recorded pass c.args.self.now _ rows blocks c.args.line.now place l _ c.in_ok-applies-in-Match.applies s n (e ∙ ap (λ x. Ok x) c.in-Match.is)
    (λ a. ap (λ f. (verdict recorded.status (fold_view_of c.args.self.now f) c.in-Match.criteria).holds) facts ∙ c.in_ok-applies-in-Match.ensures.held recorded.status status (c.all_apply-active.ensures ∙ a))
    (λ a. let h = c.in_ok-applies-in-Match.ensures.idle (c.all_apply-active.ensures ∙ a) in cc)
    (c.in_ok-open-in-Match.ensures.ok ∙ ap (λ (f : Fold). record f { applies = take c.args.line.now.depth f.applies ++ c.in_ok-applies-in-Match.applies ∷ [] }) c.ask.ensures)

pub returns-in_ok-open-in-Match-clause-ran : goal.returns-in_ok-open-in-Match-clause-ran
returns-in_ok-open-in-Match-clause-ran g c = λ recorded pass rows blocks place l facts status s n e.
    tests-ran recorded pass c.args.self.now rows blocks c.args.line.now place l _ c.all_apply-active.result false _ _ s n (e ∙ ap (λ x. Ok x) c.in-Match.is) c.all_apply-active.ensures
    (λ a. rw facts (c.in_ok-applies-in-Match.ensures.ran recorded.status status a)) c.in_ok-applies-in-Match.ensures.quiet

pub returns-in_err-open-in-Match-clause-ran : goal.returns-in_err-open-in-Match-clause-ran
returns-in_err-open-in-Match-clause-ran g c = λ recorded pass rows blocks place l facts status s n e.
    ran-weaker false (breaks_line c.from_residual-in_err-open-in-Match.result) _ _ _ (λ h. absurd cc)
    (tests-ran recorded pass c.args.self.now rows blocks c.args.line.now place l _ c.all_apply-active.result false _ _ s n (e ∙ ap (λ x. Ok x) c.in-Match.is) c.all_apply-active.ensures
    (λ a. rw facts (c.in_ok-applies-in-Match.ensures.ran recorded.status status a)) c.in_ok-applies-in-Match.ensures.quiet)

pub returns-in_err-applies-in-Match-clause-folds : goal.returns-in_err-applies-in-Match-clause-folds
returns-in_err-applies-in-Match-clause-folds g c = λ recorded pass rows blocks place l facts status s n e.
    let p = err_from_is_err_and c.from_residual-in_err-applies-in-Match.result c.from_residual-in_err-applies-in-Match.ensures.1 in
    rw (p.1, p.2) (tests-failed recorded pass c.args.self.now _ rows blocks c.args.line.now place l _ _ c.all_apply-active.result s n (e ∙ ap (λ x. Ok x) c.in-Match.is) c.all_apply-active.ensures
    (λ a. rw facts (c.in_err-applies-in-Match.ensures.held recorded.status status a))
    c.in_err-applies-in-Match.ensures.idle)

pub returns-in_err-applies-in-Match-clause-ran : goal.returns-in_err-applies-in-Match-clause-ran
returns-in_err-applies-in-Match-clause-ran g c = λ recorded pass rows blocks place l facts status s n e.
    let p = err_from_is_err_and c.from_residual-in_err-applies-in-Match.result c.from_residual-in_err-applies-in-Match.ensures.1 in
    rw (p.1, p.2) (tests-ran recorded pass c.args.self.now rows blocks c.args.line.now place l _ c.all_apply-active.result (breaks_line {A = Unit {0}} (Err _)) _ _ s n (e ∙ ap (λ x. Ok x) c.in-Match.is) c.all_apply-active.ensures
    (λ a. rw facts (c.in_err-applies-in-Match.ensures.ran recorded.status status a)) c.in_err-applies-in-Match.ensures.quiet)

pub returns-in_err-applies-in-Match-clause-failed : goal.returns-in_err-applies-in-Match-clause-failed
returns-in_err-applies-in-Match-clause-failed g c = λ recorded pass rows blocks place l facts status s n e.
    let p = err_from_is_err_and c.from_residual-in_err-applies-in-Match.result c.from_residual-in_err-applies-in-Match.ensures.1 in
    rw (p.1, p.2) (tests-broken recorded pass c.args.self.now rows blocks c.args.line.now place l _ _ c.all_apply-active.result _ _ s n (e ∙ ap (λ x. Ok x) c.in-Match.is) c.all_apply-active.ensures
    (λ a. rw facts (c.in_err-applies-in-Match.ensures.failed recorded.status status a)) c.in_err-applies-in-Match.ensures.idle)

pub returns-in_ok-give-in-Gives-clause-folds : goal.returns-in_ok-give-in-Gives-clause-folds
returns-in_ok-give-in-Gives-clause-folds g c = λ recorded pass rows blocks place l facts status s n e.
    folds-gives recorded pass c.args.self.now _ _ rows blocks c.args.line.now place l _ _ _ s n (e ∙ ap (λ x. Ok x) c.in-Gives.is) c.requires.known c.is_active-active.ensures c.in_ok-enter-in-Gives.ensures.ok c.in_ok-give-in-Gives.ensures.keeps c.in_ok-give-in-Gives.ensures.others

pub returns-in_ok-give-in-Gives-clause-ran : goal.returns-in_ok-give-in-Gives-clause-ran
returns-in_ok-give-in-Gives-clause-ran g c = λ recorded pass rows blocks place l facts status s n e.
    ran-none false _ _ _ (quiet-row recorded pass c.args.self.now rows blocks c.args.line.now place l _ s n (e ∙ ap (λ x. Ok x) c.in-Gives.is) (λ cs h. cc)) refl

pub returns-in_ok-give-in-Gives-clause-depth : goal.returns-in_ok-give-in-Gives-clause-depth
returns-in_ok-give-in-Gives-clause-depth g c = gives-depth c.args.self.now _ _ c.args.line.now _ _ c.requires.known c.requires.opened c.in_ok-enter-in-Gives.ensures.ok c.in_ok-give-in-Gives.ensures.others
