use Rattle.std.proofs.Common.{◌∙◌, arith}
use Rattle.conf_lexer.proofs.NumberLemmas.{too_large}
use Rattle.conf_lexer.proofs.numbers.number.Goals as goal

pub returns-in_err-number : goal.returns-in_err-number
returns-in_err-number c = c.from_residual.ensures ∙ too_large c.args.word.now c.args.low c.args.high c.loop-digit.number c.loop-digit.digit-index c.loop-digit-test.true c.loop-digit.invariant.so_far (omega (arith, c.in_err-number.ensures, c.ranges.high.fits))
