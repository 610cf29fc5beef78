use Rattle.std.proofs.Common.{rules, inr}
use Rattle.mux_sockets.proofs.control.listen_at.Goals as goal

pub returns-in_default-clause-err : goal.returns-in_default-clause-err
returns-in_default-clause-err g c = inr (c.find.result, search rules)
