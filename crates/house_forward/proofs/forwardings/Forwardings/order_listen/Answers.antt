use Rattle.std.proofs.Common.{sym}
use Rattle.house_forward.proofs.InOrder.{none-first}
use Rattle.house_forward.proofs.forwardings.Forwardings.order_listen.Goals as goal

pub returns-in_err-i-clause-listens : goal.returns-in_err-i-clause-listens
returns-in_err-i-clause-listens c = absurd (none-first c.args.self.now.all.items (sym c.in_err-i.ensures) c.requires)
