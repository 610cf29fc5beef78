use Rattle.std.proofs.Common.{arith}
use Rattle.std.proofs.lemmas.Grind.{common_steps}
use Rattle.forward_rules.proofs.Lists.{too-large}
use Rattle.forward_rules.proofs.reading.read_number.Goals as goal

pub returns-then-number-gt-LAST_PORT : goal.returns-then-number-gt-LAST_PORT
returns-then-number-gt-LAST_PORT c = grind (arith, common_steps, too-large)
