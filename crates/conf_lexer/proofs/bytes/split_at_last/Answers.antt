use Rattle.std.proofs.Common.{arith, ◌-◌}
use Rattle.conf_rules.proofs.SplitLemmas.{split-here}
use Rattle.conf_lexer.proofs.bytes.split_at_last.Goals as goal

pub returns-then-text-i : goal.returns-then-text-i
returns-then-text-i c = split-here c.args.byte c.args.text.now (c.loop-i.i - 1) c.loop-i.i (omega arith) (omega arith) c.loop-i.invariant.none c.if-text-i.true
