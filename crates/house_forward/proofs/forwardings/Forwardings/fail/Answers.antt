use Rattle.std.proofs.Common.{ap}
use Rattle.house_forward.specs.declared.forwardings.Forwardings.{Forwardings}
use Rattle.house_forward.proofs.InOrder.{order-remove}
use Rattle.house_forward.proofs.Numbered.{numbered-remove}
use Rattle.house_forward.proofs.Placed.{placed-remove}
use Rattle.house_forward.proofs.forwardings.Forwardings.fail.Goals as goal

pub invariant_of-self : goal.invariant_of-self
invariant_of-self c = record {
  in_order = rw c.remove-f.ensures.items (order-remove c.args.self.now.all.items c.args.i c.args.self.now.in_order);
  placed = rw c.remove-f.ensures.items (placed-remove c.args.self.now.all.items c.args.i c.args.self.now.placed);
  numbered = rw c.remove-f.ensures.items (numbered-remove c.args.self.now.all.items c.args.i c.args.self.now.serials c.args.self.now.numbered);
}

pub returns-clause-refused : goal.returns-clause-refused
returns-clause-refused c = (c.remove-f.result, c.remove-f.ensures.value, ap (λ (x : Forwardings). x.refused) c.refuse_start.ensures)
