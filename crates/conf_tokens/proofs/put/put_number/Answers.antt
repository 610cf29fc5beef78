use Rattle.std.proofs.Common.{sym, arith}
use Rattle.conf_rules.proofs.NumberLemmas.{digits-decimal}
use Rattle.conf_tokens.proofs.put.put_number.Goals as goal

pub returns : goal.returns
returns c = rw (digits-decimal c.args.number (omega (arith, c.ranges.number)), sym c.in_ok-digits.ensures.ok, sym c.as_bytes.ensures.value) c.add.ensures.ok
