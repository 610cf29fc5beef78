use Rattle.std.proofs.Common.{sym}
use Rattle.std.specs.List.{list_any, position}
use Rattle.std.proofs.lemmas.Bool.{both_ways}
use Rattle.house_forward.specs.Links.{is_awaited}
use Rattle.house_forward.proofs.Changes.{made}
use Rattle.house_forward.proofs.Going.{makes-at}
use Rattle.house_forward.proofs.Lists.{none-passes}
use Rattle.house_forward.proofs.relays.Relays.made.Goals as goal

pub returns-in_default-clause-streams : goal.returns-in_default-clause-streams
returns-in_default-clause-streams c =
    absurd (both_ways (list_any is_awaited c.args.self.now.all.items) (none-passes is_awaited c.args.self.now.all.items (sym c.in_default.ensures)) c.requires.awaited)

pub returns-in_default-clause-due : goal.returns-in_default-clause-due
returns-in_default-clause-due c =
    absurd (both_ways (list_any is_awaited c.args.self.now.all.items) (none-passes is_awaited c.args.self.now.all.items (sym c.in_default.ensures)) c.requires.awaited)

pub invariant_of-self : goal.invariant_of-self
invariant_of-self c =
    let m = made c.args.self.now.all.items c.in-Some.i c.remove-link.result c.made.new.self c.args.stream (sym c.in-Some.ensures) c.remove-link.ensures.value c.args.self.now.few c.args.self.now.distinct c.requires.free c.made.ensures.stream c.made.ensures.held in
    record {
      few = rw (c.push_reserved.ensures.items, c.remove-link.ensures.items) m.few;
      distinct = rw (c.push_reserved.ensures.items, c.remove-link.ensures.items) m.distinct;
    }

pub returns-clause-streams : goal.returns-clause-streams
returns-clause-streams c =
    let m = made c.args.self.now.all.items c.in-Some.i c.remove-link.result c.made.new.self c.args.stream (sym c.in-Some.ensures) c.remove-link.ensures.value c.args.self.now.few c.args.self.now.distinct c.requires.free c.made.ensures.stream c.made.ensures.held in
    rw (c.push_reserved.ensures.items, c.remove-link.ensures.items) m.streams

pub returns-clause-due : goal.returns-clause-due
returns-clause-due c =
    let m = made c.args.self.now.all.items c.in-Some.i c.remove-link.result c.made.new.self c.args.stream (sym c.in-Some.ensures) c.remove-link.ensures.value c.args.self.now.few c.args.self.now.distinct c.requires.free c.made.ensures.stream c.made.ensures.held in
    rw (c.push_reserved.ensures.items, c.remove-link.ensures.items) m.due

pub returns-in_default-clause-makes : goal.returns-in_default-clause-makes
returns-in_default-clause-makes c =
    absurd (both_ways (list_any is_awaited c.args.self.now.all.items) (none-passes is_awaited c.args.self.now.all.items (sym c.in_default.ensures)) c.requires.awaited)

pub returns-clause-makes : goal.returns-clause-makes
returns-clause-makes c =
    let ls = c.args.self.now.all.items in
    rw (c.push_reserved.ensures.items, c.remove-link.ensures.items)
    (makes-at (position is_awaited ls) c.in-Some.i c.args.stream ls c.remove-link.result c.made.new.self (sym c.in-Some.ensures) c.remove-link.ensures.value c.made.ensures.stream c.made.ensures.relay c.requires.free)
