use Rattle.std.proofs.lemmas.Result.{err_from_is_err_and}
use Rattle.mux_messages.proofs.Pairs.{begins, grows, ended, no_name, no_value}
use Rattle.mux_messages.proofs.read.skip_extensions.Goals as goal

pub loop-fields-init : goal.loop-fields-init
loop-fields-init c = begins _ _

pub loop-fields-preserved : goal.loop-fields-preserved
loop-fields-preserved c = grows _ _ _ _ _ _ _ _ _ _ c.loop-fields.invariant c.in_ok-take_string.ensures.ok c.in_ok-take_string-2.ensures.ok c.in_ok-take_string.ensures.place c.in_ok-take_string-2.ensures.place

pub returns-in_err-take_string-clause-err : goal.returns-in_err-take_string-clause-err
returns-in_err-take_string-clause-err c =
    let p = err_from_is_err_and c.from_residual.result c.from_residual.ensures.1 in
    rw (p.1, p.2, c.in_err-take_string.ensures.err) (no_name _ _ _ _ c.loop-fields.invariant (λ e. let yes = c.is_empty.ensures.1 e in let no = c.loop-fields-test.true in absurd cc) c.in_err-take_string.ensures.short)

pub returns-in_err-take_string-2-clause-err : goal.returns-in_err-take_string-2-clause-err
returns-in_err-take_string-2-clause-err c =
    let p = err_from_is_err_and c.from_residual-in_err-take_string-2.result c.from_residual-in_err-take_string-2.ensures.1 in
    rw (p.1, p.2, c.in_err-take_string-2.ensures.err) (no_value _ _ _ _ _ _ _ c.loop-fields.invariant c.in_ok-take_string.ensures.ok c.in_err-take_string-2.ensures.short c.in_ok-take_string.ensures.place)

pub returns-clause-ok : goal.returns-clause-ok
returns-clause-ok c = ended _ _ _ _ c.loop-fields.invariant (c.is_empty.ensures.0 c.loop-fields-test.false)
