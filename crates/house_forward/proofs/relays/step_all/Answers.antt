use Rattle.std.proofs.Common.{◌<◌, length, get_or, rules}
use Rattle.std.proofs.lemmas.List.Edits.{map_over_more}
use Rattle.house_forward.specs.Links.{link_after}
use Rattle.house_forward.proofs.relays.step_all.Goals as goal

pub loop-l-preserved : goal.loop-l-preserved
loop-l-preserved c =
    let lt : c.loop-l.l-index < length c.deref_mut-l-items.result.now = c.loop-l-test.true in
    rw c.take.ensures (map_over_more (link_after c.args.step c.args.stream) c.deref_mut-l-items.result.now c.loop-l.l-items c.loop-l.l-index (get_or c.loop-l.l-items c.loop-l.l-index c.l-item.result) lt c.loop-l.invariant (search rules))
