use Rattle.house_forward.specs.Places.{AreNotedAt}
use Rattle.house_forward.proofs.places.Places.note.Given as goal

abbrev pub invariant-loop-i : goal.invariant-loop-i
invariant-loop-i l = AreNotedAt l.self l.links
