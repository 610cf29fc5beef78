use Rattle.std.proofs.Common.{◌∙◌, refl, ap, set}
use Rattle.house_forward.specs.Forwardings.{to_listen}
use Rattle.house_forward.specs.declared.forwarding.Forwarding.{Forwarding}
use Rattle.house_forward.proofs.InOrder.{orders, to-listen-at}
use Rattle.house_forward.proofs.Numbered.{numbered-first}
use Rattle.house_forward.proofs.Placed.{placed-set, first-placed, listens-there}
use Rattle.house_forward.proofs.forwardings.Forwardings.ordered_at.Goals as goal

pub invariant_of-self : goal.invariant_of-self
invariant_of-self c =
    let is = to-listen-at c.args.self.now.all.items c.args.i c.index_mut.result.now c.requires.place c.index_mut.ensures.value c.requires.first in
    let o = orders c.args.self.now.all.items c.args.i c.index_mut.result.now c.ordered.new.self c.requires.place c.index_mut.ensures.value c.args.self.now.in_order (c.ordered.ensures.ordered is) in
    record {
      in_order = o.in_order;
      placed = placed-set c.args.self.now.all.items c.args.i c.ordered.new.self (rw (c.ordered.ensures.ordered is) refl) c.args.self.now.placed;
      numbered = numbered-first to_listen c.args.self.now.all.items c.args.i c.ordered.new.self c.index_mut.result.now c.args.self.now.serials c.requires.place c.index_mut.ensures.value
          (ap (λ (f : Forwarding). f.serial) (c.ordered.ensures.ordered is)) c.args.self.now.numbered;
    }

pub returns-clause-listens : goal.returns-clause-listens
returns-clause-listens c =
    let x = c.index_mut.result.now in
    let is = to-listen-at c.args.self.now.all.items c.args.i x c.requires.place c.index_mut.ensures.value c.requires.first in
    let first = first-placed c.args.self.now.all.items c.args.i x c.requires.place c.index_mut.ensures.value c.args.self.now.placed in
    listens-there c.ordered.result _ x first.0 first.1 (c.ordered.ensures.some ∙ is) c.ordered.ensures.port c.ordered.ensures.host

pub returns-clause-ordered : goal.returns-clause-ordered
returns-clause-ordered c =
    let is = to-listen-at c.args.self.now.all.items c.args.i c.index_mut.result.now c.requires.place c.index_mut.ensures.value c.requires.first in
    (c.index_mut.result.now, c.index_mut.ensures.value, ap (λ (f : Forwarding). set c.args.self.now.all.items c.args.i f) (c.ordered.ensures.ordered is))
