use Rattle.std.proofs.Common.{length, ◌≤◌}
use Rattle.std.proofs.lemmas.List.Elements.{All-push}
use Rattle.mux_outside.specs.declared.piece.TheConstants.{LONGEST_PIECE}
use Rattle.house_forward.specs.declared.link.Link.{Link}
use Rattle.house_forward.proofs.Changes.{more_distinct}
use Rattle.house_forward.proofs.relays.Relays.push.Goals as goal

pub invariant_of-self-2 : goal.invariant_of-self-2
invariant_of-self-2 c = record {
  few = rw c.in_ok-push.ensures.items (All-push (λ (l : Link). length l.relay.held.waiting ≤ LONGEST_PIECE) c.args.self.now.all.items c.args.link c.args.self.now.few c.requires.few);
  distinct = rw c.in_ok-push.ensures.items (more_distinct c.args.self.now.all.items c.args.link c.args.self.now.distinct c.requires.free);
}
