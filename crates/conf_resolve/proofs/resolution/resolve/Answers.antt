use Rattle.std.proofs.lemmas.Result.{err_from_is_err_and}
use Rattle.conf_resolve.proofs.ResolveLemmas.{begin-refused, begin-ran, over, over-err}
use Rattle.conf_resolve.proofs.FaultLemmas.{plain-stands}
use Rattle.std.proofs.Common.{refl}
use Rattle.conf_reader.proofs.ToReadLemmas.{none-read}
use Rattle.conf_resolve.proofs.resolution.resolve.Goals as goal

pub returns-in_err-fold-clause-exact : goal.returns-in_err-fold-clause-exact
returns-in_err-fold-clause-exact g c = λ recorded asked facts records status.
    let p = err_from_is_err_and c.from_residual.result c.from_residual.ensures.1 in
    rw (p.1, p.2) (begin-refused recorded _ (c.in_err-fold.ensures.begins recorded asked))

pub returns-in_err-fold-clause-ran : goal.returns-in_err-fold-clause-ran
returns-in_err-fold-clause-ran g c = λ recorded asked facts records status.
    let p = err_from_is_err_and c.from_residual.result c.from_residual.ensures.1 in
    rw (p.1, p.2) (begin-ran recorded _ _ (c.in_err-fold.ensures.begins recorded asked))

pub returns-clause-exact : goal.returns-clause-exact
returns-clause-exact g c = λ recorded asked facts records status.
    let b = c.in_ok-fold.ensures.begins recorded asked in
    let p = c.in_ok-passes.ensures.passes recorded asked facts records status b.0 b.1 in
    rw c.settings.ensures p

pub returns-clause-ran : goal.returns-clause-ran
returns-clause-ran g c = λ recorded asked facts records status.
    let b = c.in_ok-fold.ensures.begins recorded asked in
    c.in_ok-passes.ensures.ran recorded asked facts records status b.0 b.1

pub returns-in_err-passes-clause-exact : goal.returns-in_err-passes-clause-exact
returns-in_err-passes-clause-exact g c = λ recorded asked facts records status.
    let p = err_from_is_err_and c.from_residual-in_err-passes.result c.from_residual-in_err-passes.ensures.1 in
    let b = c.in_ok-fold.ensures.begins recorded asked in
    rw (p.1, p.2) (over recorded c.passes.new.fold _ (c.in_err-passes.ensures.passes recorded asked facts records status b.0 b.1))

pub returns-in_err-passes-clause-ran : goal.returns-in_err-passes-clause-ran
returns-in_err-passes-clause-ran g c = λ recorded asked facts records status.
    let p = err_from_is_err_and c.from_residual-in_err-passes.result c.from_residual-in_err-passes.ensures.1 in
    let b = c.in_ok-fold.ensures.begins recorded asked in
    rw (p.1, p.2) (over-err _ _ _ _ (c.in_err-passes.ensures.ran recorded asked facts records status b.0 b.1))

pub returns-in_err-fold-clause-fault : goal.returns-in_err-fold-clause-fault
returns-in_err-fold-clause-fault g c = λ recorded asked facts records status.
    let p = err_from_is_err_and c.from_residual.result c.from_residual.ensures.1 in
    rw (p.1, p.2) (plain-stands recorded _ _ _ _ _ _ c.in_err-fold.ensures.plain)

pub returns-in_err-passes-clause-fault : goal.returns-in_err-passes-clause-fault
returns-in_err-passes-clause-fault g c = λ recorded asked facts records status.
    let p = err_from_is_err_and c.from_residual-in_err-passes.result c.from_residual-in_err-passes.ensures.1 in
    let b = c.in_ok-fold.ensures.begins recorded asked in
    rw (p.1, p.2) (c.in_err-passes.ensures.fault recorded asked facts records status b.0 b.1)

pub returns-in_err-fold-clause-noted : goal.returns-in_err-fold-clause-noted
returns-in_err-fold-clause-noted g c = λ recorded asked facts records status.
    let p = err_from_is_err_and c.from_residual.result c.from_residual.ensures.1 in
    rw p.1 (none-read _ _ _ refl)

pub returns-clause-noted : goal.returns-clause-noted
returns-clause-noted g c = λ recorded asked facts records status.
    let b = c.in_ok-fold.ensures.begins recorded asked in
    c.in_ok-passes.ensures.noted recorded asked facts records status b.0 b.1

pub returns-in_err-passes-clause-noted : goal.returns-in_err-passes-clause-noted
returns-in_err-passes-clause-noted g c = λ recorded asked facts records status.
    let p = err_from_is_err_and c.from_residual-in_err-passes.result c.from_residual-in_err-passes.ensures.1 in
    let b = c.in_ok-fold.ensures.begins recorded asked in
    rw p.1 (c.in_err-passes.ensures.noted recorded asked facts records status b.0 b.1)
