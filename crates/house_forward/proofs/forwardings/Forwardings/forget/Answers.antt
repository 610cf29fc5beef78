use Rattle.house_forward.proofs.InOrder.{order-remove}
use Rattle.house_forward.proofs.Numbered.{numbered-remove}
use Rattle.house_forward.proofs.Placed.{placed-remove}
use Rattle.house_forward.proofs.forwardings.Forwardings.forget.Goals as goal

pub invariant_of-self : goal.invariant_of-self
invariant_of-self c = record {
  in_order = rw c.remove.ensures.items (order-remove c.args.self.now.all.items c.in-Some.i c.args.self.now.in_order);
  placed = rw c.remove.ensures.items (placed-remove c.args.self.now.all.items c.in-Some.i c.args.self.now.placed);
  numbered = rw c.remove.ensures.items (numbered-remove c.args.self.now.all.items c.in-Some.i c.args.self.now.serials c.args.self.now.numbered);
}
