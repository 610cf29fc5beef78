use Rattle.std.proofs.Common.{rules, arith, ◌≡◌, None, Some, refl}
use Rattle.std.proofs.lemmas.Grind.{common_steps}
use Rattle.forward_rules.proofs.Lists.{around}
use Rattle.forward_rules.proofs.reading.around_last.Goals as goal

pub returns-in_err-at : goal.returns-in_err-at
returns-in_err-at c =
    let h : c.memrchr.result ≡ None = search rules in
    let r : c.from_residual.result ≡ None = search rules in
    rw (r, around c.args.byte c.args.text.now c.memrchr.result c.memrchr.ensures, h) refl

pub returns : goal.returns
returns c =
    let h : c.memrchr.result ≡ Some c.in_ok-at.at = search rules in
    rw (around c.args.byte c.args.text.now c.memrchr.result c.memrchr.ensures, h) (grind (arith, common_steps))
