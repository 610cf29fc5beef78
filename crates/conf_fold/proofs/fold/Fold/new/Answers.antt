use Rattle.std.proofs.Common.{◌≡◌, ◌∙◌, ◌∷◌, ◌+◌, [], drop, length, sym, ap, subst, arith}
use Rattle.std.proofs.lemmas.Result.{err_from_is_err_and}
use Rattle.std.proofs.Math.ListN.{drop_of_length-le}
use Rattle.conf_rules.specs.declared.asked.Asked.{Asked}
use Rattle.conf_fold.specs.Begins.{IsEmpty}
use Rattle.conf_fold.proofs.AskedLemmas.{SoFar, begins, goes-on, stops, ends, next-asked}
use Rattle.conf_fold.proofs.fold.Fold.new.Goals as goal

pub loop-line-init : goal.loop-line-init
loop-line-init c = λ recorded asked.
    subst (λ (a : Asked). SoFar recorded c.in_ok-fold.fold a.lines) asked (begins recorded c.in_ok-fold.fold (subst (λ o. IsEmpty o c.in_ok-fold.fold) (c.as_bytes.ensures ∙ ap (λ (a : Asked). a.original) (sym asked)) c.in_ok-fold.ensures))

pub returns-in_err-asked_line-clause-begins : goal.returns-in_err-asked_line-clause-begins
returns-in_err-asked_line-clause-begins c = λ recorded asked.
    let step = next-asked c.args.asked.now.lines c.as_slice-line-items.result.now c.loop-line.line-index c.line-item.result c.as_slice-line-items.ensures c.loop-line-test.true c.line-item.is in
    let s : SoFar recorded c.loop-line.fold (c.line-item.result ∷ drop (c.loop-line.line-index + 1) c.args.asked.now.lines) = subst (SoFar recorded c.loop-line.fold) step (c.loop-line.invariant recorded asked) in
    let p = err_from_is_err_and c.from_residual-in_err-asked_line.result c.from_residual-in_err-asked_line.ensures.1 in
    rw (p.1, p.2) (stops recorded c.loop-line.fold c.asked_line.new.self c.line-item.result (drop (c.loop-line.line-index + 1) c.args.asked.now.lines) _ s (c.in_err-asked_line.ensures.takes recorded s.rows s.stands))

pub loop-line-preserved : goal.loop-line-preserved
loop-line-preserved c = λ recorded asked.
    let step = next-asked c.args.asked.now.lines c.as_slice-line-items.result.now c.loop-line.line-index c.line-item.result c.as_slice-line-items.ensures c.loop-line-test.true c.line-item.is in
    let s : SoFar recorded c.loop-line.fold (c.line-item.result ∷ drop (c.loop-line.line-index + 1) c.args.asked.now.lines) = subst (SoFar recorded c.loop-line.fold) step (c.loop-line.invariant recorded asked) in
    goes-on recorded c.loop-line.fold c.asked_line.new.self c.line-item.result (drop (c.loop-line.line-index + 1) c.args.asked.now.lines) s (c.in_ok-asked_line.ensures.takes recorded s.rows s.stands)

pub returns-clause-begins : goal.returns-clause-begins
returns-clause-begins c = λ recorded asked.
    let past = c.loop-line-test.false in
    let same : length c.as_slice-line-items.result.now ≡ length c.args.asked.now.lines = ap length c.as_slice-line-items.ensures in
    let none : drop c.loop-line.line-index c.args.asked.now.lines ≡ [] = drop_of_length-le c.args.asked.now.lines (omega (arith, past, same)) in
    ends recorded c.loop-line.fold (subst (SoFar recorded c.loop-line.fold) none (c.loop-line.invariant recorded asked))
