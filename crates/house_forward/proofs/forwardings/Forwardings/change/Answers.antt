use Rattle.std.proofs.Common.{◌∙◌}
use Rattle.house_forward.proofs.InOrder.{changed-order}
use Rattle.house_forward.proofs.Numbered.{numbered-changed}
use Rattle.house_forward.proofs.Placed.{placed-changed}
use Rattle.house_forward.proofs.forwardings.Forwardings.change.Goals as goal

pub invariant_of-self : goal.invariant_of-self
invariant_of-self c = record {
  in_order = rw c.change_all.ensures (changed-order c.args.change c.args.serial c.args.self.now.all.items ∙ c.args.self.now.in_order);
  placed = rw c.change_all.ensures (placed-changed c.args.change c.args.serial c.args.self.now.all.items c.args.self.now.placed);
  numbered = rw c.change_all.ensures (numbered-changed c.args.change c.args.serial c.args.self.now.all.items c.args.self.now.serials c.args.self.now.numbered);
}
