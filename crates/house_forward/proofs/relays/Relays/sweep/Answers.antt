use Rattle.std.proofs.Common.{sym}
use Rattle.house_forward.proofs.Changes.{swept, swept-due}
use Rattle.house_forward.proofs.relays.Relays.sweep.Goals as goal

pub invariant_of-self : goal.invariant_of-self
invariant_of-self c =
    let k = swept c.args.self.now.all.items c.in-Some.i c.remove.result (sym c.in-Some.ensures) c.args.self.now.few c.args.self.now.distinct in
    record { few = rw c.remove.ensures.items k.few; distinct = rw c.remove.ensures.items k.distinct }

pub returns-in-Some-clause-streams : goal.returns-in-Some-clause-streams
returns-in-Some-clause-streams c =
    let k = swept c.args.self.now.all.items c.in-Some.i c.remove.result (sym c.in-Some.ensures) c.args.self.now.few c.args.self.now.distinct in
    rw c.remove.ensures.items k.streams

pub returns-in-Some-clause-due : goal.returns-in-Some-clause-due
returns-in-Some-clause-due c =
    rw c.remove.ensures.items (swept-due c.args.self.now.all.items c.in-Some.i c.remove.result (sym c.in-Some.ensures))
