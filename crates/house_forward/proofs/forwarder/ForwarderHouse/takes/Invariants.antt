use Rattle.std.proofs.Common.{◌≡◌, length, None}
use Rattle.house_forward.specs.State.{held_in, known_in}
use Rattle.house_forward.proofs.Leading.{LeadsOn}
use Rattle.house_forward.proofs.forwarder.ForwarderHouse.takes.Given as goal

abbrev pub invariant-loop-self : goal.invariant-loop-self
invariant-loop-self g l = record {
  recorded : g.N.Notes.recorded l.self.notes.notes ≡ g.N.Notes.recorded l.initial.self.notes.notes;
  known : known_in l.self.has ≡ known_in l.initial.self.has;
  must : l.self.has.must ≡ l.initial.self.has.must;
  ordering : l.self.has.ordering ≡ None;
  greeted : l.self.has.greeted ≡ l.initial.self.has.greeted;
  leads : LeadsOn (held_in l.initial.self.has) (held_in l.self.has);
}

abbrev pub decreases-loop-self : goal.decreases-loop-self
decreases-loop-self g l = length l.self.has.framer.rest
