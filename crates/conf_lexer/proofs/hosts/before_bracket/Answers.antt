use Rattle.std.proofs.Common.{arith, length, ◌-◌}
use Rattle.conf_rules.proofs.SplitLemmas.{closed, unclosed}
use Rattle.conf_lexer.proofs.hosts.before_bracket.Goals as goal

pub returns-then-last-eq93 : goal.returns-then-last-eq93
returns-then-last-eq93 c = closed c.args.inner.now (length c.args.inner.now - 1) (omega (arith, c.in-len1-up.len_at_least)) c.if-last-eq93.true

pub returns-else-last-eq93 : goal.returns-else-last-eq93
returns-else-last-eq93 c = unclosed c.args.inner.now (length c.args.inner.now - 1) (omega (arith, c.in-len1-up.len_at_least)) c.if-last-eq93.false
