use Rattle.std.proofs.Common.{sym}
use Rattle.house_forward.specs.Forwardings.{is_listen_unanswered}
use Rattle.house_forward.proofs.Refusing.{first-refused, none-refused}
use Rattle.house_forward.proofs.forwardings.Forwardings.refuse.Goals as goal

pub returns-in-Some-clause-refused : goal.returns-in-Some-clause-refused
returns-in-Some-clause-refused c =
    first-refused (is_listen_unanswered c.args.serial) c.args.self.now.all.items c.in-Some.i c.args.self.now.refused c.fail.new.self.refused (sym c.in-Some.ensures) c.fail.ensures.refused

pub returns-in_default-clause-refused : goal.returns-in_default-clause-refused
returns-in_default-clause-refused c =
    none-refused (is_listen_unanswered c.args.serial) c.args.self.now.all.items c.args.self.now.refused (sym c.in_default.ensures)
