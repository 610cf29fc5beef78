use Rattle.house_forward.proofs.Greeted.{greets-first}
use Rattle.house_forward.proofs.forwarder.ForwarderHouse.present.Goals as goal

pub returns-clause-greets : goal.returns-clause-greets
returns-clause-greets g c = λ there calls h. greets-first c.args.self.now.has.greeted calls h.greeting
