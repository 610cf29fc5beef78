use Rattle.house_forward.proofs.Steps.{few-after, distinct-after}
use Rattle.house_forward.proofs.relays.Relays.step.Goals as goal

pub invariant_of-self : goal.invariant_of-self
invariant_of-self c = record {
  few = rw c.step_all.ensures (few-after c.args.step c.args.stream c.args.self.now.all.items c.args.self.now.few);
  distinct = rw c.step_all.ensures (distinct-after c.args.step c.args.stream c.args.self.now.all.items c.args.self.now.distinct);
}
