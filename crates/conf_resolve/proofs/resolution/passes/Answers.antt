use Rattle.std.proofs.Common.{ap, true, Ok}
use Rattle.std.proofs.lemmas.Result.{err_from_is_err_and}
use Rattle.conf_rules.specs.Rows.{First, Second}
use Rattle.conf_fold.specs.Begins.{asked_rows, asked_again, SecondBegins}
use Rattle.conf_fold.specs.Results.{breaks_off}
use Rattle.conf_resolve.specs.PassGives.{first_rows}
use Rattle.conf_resolve.proofs.ResolveLemmas.{first-begins, first-refused, first-stands, behind-asked, once, second-begins, twice, asked-start, first-broken, first-ran, once-ran, second-start, twice-ran}
use Rattle.conf_resolve.proofs.FaultLemmas as faults
use Rattle.conf_resolve.proofs.ReadingLemmas as readings
use Rattle.conf_resolve.proofs.resolution.passes.Goals as goal

pub returns-in_err-pass-clause-passes : goal.returns-in_err-pass-clause-passes
returns-in_err-pass-clause-passes g c = λ recorded asked facts records status stands none.
    let p = err_from_is_err_and c.from_residual.result c.from_residual.ensures.1 in
    rw (p.1, p.2) (first-refused recorded c.pass.new.fold _ none (c.in_err-pass.ensures.passes recorded asked facts records status First (asked_rows recorded) (first-begins recorded c.args.fold.now stands none)))

pub returns-in_err-pass-clause-ran : goal.returns-in_err-pass-clause-ran
returns-in_err-pass-clause-ran g c = λ recorded asked facts records status stands none.
    let p = err_from_is_err_and c.from_residual.result c.from_residual.ensures.1 in
    rw (p.1, p.2) (first-ran recorded c.pass.new.fold _ _ _ none
    (c.in_err-pass.ensures.passes recorded asked facts records status First (asked_rows recorded) (first-begins recorded c.args.fold.now stands none))
    (c.in_err-pass.ensures.ran recorded asked facts records status First (asked_rows recorded) _ (first-begins recorded c.args.fold.now stands none) (asked-start recorded _)))

pub returns-in_err-second-clause-passes : goal.returns-in_err-second-clause-passes
returns-in_err-second-clause-passes g c = λ recorded asked facts records status stands none.
    let p = err_from_is_err_and c.from_residual-in_err-second.result c.from_residual-in_err-second.ensures.1 in
    rw (p.1, p.2) tt

pub returns-in_err-second-clause-ran : goal.returns-in_err-second-clause-ran
returns-in_err-second-clause-ran g c = λ recorded asked facts records status stands none.
    let p = err_from_is_err_and c.from_residual-in_err-second.result c.from_residual-in_err-second.ensures.1 in
    rw (p.1, p.2) (first-broken recorded _ _ none (c.in_ok-pass.ensures.ran recorded asked facts records status First (asked_rows recorded) _ (first-begins recorded c.args.fold.now stands none) (asked-start recorded _)))

pub returns-then-branch-clause-passes : goal.returns-then-branch-clause-passes
returns-then-branch-clause-passes g c = λ recorded asked facts records status stands none.
    let first = first-stands recorded c.pass.new.fold none (c.in_ok-pass.ensures.passes recorded asked facts records status First (asked_rows recorded) (first-begins recorded c.args.fold.now stands none)) in
    let again : SecondBegins recorded (first_rows recorded) c.second.new.self true = rw c.if-branch.true at (c.in_ok-second.ensures.second recorded (first_rows recorded) first.blocks first.stands (behind-asked recorded none first.none)) in
    twice recorded c.pass.new.fold c.pass-then-branch.new.fold c.second.new.self c.pass-then-branch.result first again
    (c.pass-then-branch.ensures.passes recorded asked facts (rw c.pass.ensures.files records) (rw c.pass.ensures.runner status) (Second (first_rows recorded)) (asked_again recorded (first_rows recorded)) (second-begins recorded c.second.new.self none first.none again))

pub returns-then-branch-clause-ran : goal.returns-then-branch-clause-ran
returns-then-branch-clause-ran g c = λ recorded asked facts records status stands none.
    let first = first-stands recorded c.pass.new.fold none (c.in_ok-pass.ensures.passes recorded asked facts records status First (asked_rows recorded) (first-begins recorded c.args.fold.now stands none)) in
    let again : SecondBegins recorded (first_rows recorded) c.second.new.self true = rw c.if-branch.true at (c.in_ok-second.ensures.second recorded (first_rows recorded) first.blocks first.stands (behind-asked recorded none first.none)) in
    twice-ran recorded c.second.new.self (breaks_off c.pass-then-branch.result) _ _ first.none again
    (c.pass-then-branch.ensures.ran recorded asked facts (rw c.pass.ensures.files records) (rw c.pass.ensures.runner status) (Second (first_rows recorded)) (asked_again recorded (first_rows recorded)) _ (second-begins recorded c.second.new.self none first.none again)
    (second-start recorded _ _ none (c.in_ok-pass.ensures.ran recorded asked facts records status First (asked_rows recorded) _ (first-begins recorded c.args.fold.now stands none) (asked-start recorded _))))

pub returns-else-branch-clause-passes : goal.returns-else-branch-clause-passes
returns-else-branch-clause-passes g c = λ recorded asked facts records status stands none.
    let first = first-stands recorded c.pass.new.fold none (c.in_ok-pass.ensures.passes recorded asked facts records status First (asked_rows recorded) (first-begins recorded c.args.fold.now stands none)) in
    once recorded c.pass.new.fold c.second.new.self first (rw c.if-branch.false at (c.in_ok-second.ensures.second recorded (first_rows recorded) first.blocks first.stands (behind-asked recorded none first.none))) (c.in_ok-second.ensures.same (ap (λ b. Ok b) c.if-branch.false))

pub returns-else-branch-clause-ran : goal.returns-else-branch-clause-ran
returns-else-branch-clause-ran g c = λ recorded asked facts records status stands none.
    let first = first-stands recorded c.pass.new.fold none (c.in_ok-pass.ensures.passes recorded asked facts records status First (asked_rows recorded) (first-begins recorded c.args.fold.now stands none)) in
    once-ran recorded c.pass.new.fold _ _ none first (rw c.if-branch.false at (c.in_ok-second.ensures.second recorded (first_rows recorded) first.blocks first.stands (behind-asked recorded none first.none)))
    (c.in_ok-pass.ensures.ran recorded asked facts records status First (asked_rows recorded) _ (first-begins recorded c.args.fold.now stands none) (asked-start recorded _))

pub returns-in_err-pass-clause-fault : goal.returns-in_err-pass-clause-fault
returns-in_err-pass-clause-fault g c = λ recorded asked facts records status stands none.
    let p = err_from_is_err_and c.from_residual.result c.from_residual.ensures.1 in
    rw (p.1, p.2) (faults.first-stands recorded _ _ _ _ _ none
    (c.in_err-pass.ensures.fault recorded asked facts records status First (asked_rows recorded) _ (first-begins recorded c.args.fold.now stands none) (asked-start recorded _)))

pub returns-in_err-second-clause-fault : goal.returns-in_err-second-clause-fault
returns-in_err-second-clause-fault g c = λ recorded asked facts records status stands none.
    let p = err_from_is_err_and c.from_residual-in_err-second.result c.from_residual-in_err-second.ensures.1 in
    rw (p.1, p.2) tt

pub returns-then-branch-clause-fault : goal.returns-then-branch-clause-fault
returns-then-branch-clause-fault g c = λ recorded asked facts records status stands none.
    let first = first-stands recorded c.pass.new.fold none (c.in_ok-pass.ensures.passes recorded asked facts records status First (asked_rows recorded) (first-begins recorded c.args.fold.now stands none)) in
    let again : SecondBegins recorded (first_rows recorded) c.second.new.self true = rw c.if-branch.true at (c.in_ok-second.ensures.second recorded (first_rows recorded) first.blocks first.stands (behind-asked recorded none first.none)) in
    faults.second-stands recorded c.second.new.self c.pass-then-branch.result _ _ _ _ _ first.none again (c.in_ok-pass.ensures.failed recorded asked facts records status)
    (c.pass-then-branch.ensures.fault recorded asked facts (rw c.pass.ensures.files records) (rw c.pass.ensures.runner status) (Second (first_rows recorded)) (asked_again recorded (first_rows recorded)) _ (second-begins recorded c.second.new.self none first.none again)
    (second-start recorded _ _ none (c.in_ok-pass.ensures.ran recorded asked facts records status First (asked_rows recorded) _ (first-begins recorded c.args.fold.now stands none) (asked-start recorded _))))

pub returns-in_err-pass-clause-failed : goal.returns-in_err-pass-clause-failed
returns-in_err-pass-clause-failed g c = λ recorded asked facts records status.
    let p = err_from_is_err_and c.from_residual.result c.from_residual.ensures.1 in
    rw (p.1, p.2) (c.in_err-pass.ensures.failed recorded asked facts records status)

pub returns-in_err-second-clause-failed : goal.returns-in_err-second-clause-failed
returns-in_err-second-clause-failed g c = λ recorded asked facts records status.
    let p = err_from_is_err_and c.from_residual-in_err-second.result c.from_residual-in_err-second.ensures.1 in
    rw (p.1, p.2) (c.in_ok-pass.ensures.failed recorded asked facts records status)

pub returns-then-branch-clause-failed : goal.returns-then-branch-clause-failed
returns-then-branch-clause-failed g c = λ recorded asked facts records status.
    faults.none-again c.pass-then-branch.result _ _ _ (c.in_ok-pass.ensures.failed recorded asked facts records status)
    (c.pass-then-branch.ensures.failed recorded asked facts (rw c.pass.ensures.files records) (rw c.pass.ensures.runner status))

pub returns-in_err-pass-clause-noted : goal.returns-in_err-pass-clause-noted
returns-in_err-pass-clause-noted g c = λ recorded asked facts records status stands none.
    let p = err_from_is_err_and c.from_residual.result c.from_residual.ensures.1 in
    rw p.1 (readings.first-some recorded _ _ (c.in_err-pass.ensures.noted recorded asked facts records status))

pub returns-in_err-second-clause-noted : goal.returns-in_err-second-clause-noted
returns-in_err-second-clause-noted g c = λ recorded asked facts records status stands none.
    let p = err_from_is_err_and c.from_residual-in_err-second.result c.from_residual-in_err-second.ensures.1 in
    rw p.1 (readings.first-all recorded _ _ (c.in_ok-pass.ensures.noted recorded asked facts records status))

pub returns-then-branch-clause-noted : goal.returns-then-branch-clause-noted
returns-then-branch-clause-noted g c = λ recorded asked facts records status stands none.
    let first = first-stands recorded c.pass.new.fold none (c.in_ok-pass.ensures.passes recorded asked facts records status First (asked_rows recorded) (first-begins recorded c.args.fold.now stands none)) in
    let again : SecondBegins recorded (first_rows recorded) c.second.new.self true = rw c.if-branch.true at (c.in_ok-second.ensures.second recorded (first_rows recorded) first.blocks first.stands (behind-asked recorded none first.none)) in
    readings.twice-read recorded c.pass-then-branch.result _ _ _ first.none again.0 (c.in_ok-pass.ensures.noted recorded asked facts records status)
    (c.pass-then-branch.ensures.noted recorded asked facts (rw c.pass.ensures.files records) (rw c.pass.ensures.runner status))

pub returns-else-branch-clause-noted : goal.returns-else-branch-clause-noted
returns-else-branch-clause-noted g c = λ recorded asked facts records status stands none.
    let first = first-stands recorded c.pass.new.fold none (c.in_ok-pass.ensures.passes recorded asked facts records status First (asked_rows recorded) (first-begins recorded c.args.fold.now stands none)) in
    readings.once-all recorded _ _ first.none (rw c.if-branch.false at (c.in_ok-second.ensures.second recorded (first_rows recorded) first.blocks first.stands (behind-asked recorded none first.none))) (c.in_ok-pass.ensures.noted recorded asked facts records status)
