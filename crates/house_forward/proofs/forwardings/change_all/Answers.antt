use Rattle.std.proofs.Common.{◌<◌, length, rules}
use Rattle.std.proofs.lemmas.List.Edits.{map_over_more}
use Rattle.house_forward.specs.Forwardings.{forwarding_changed}
use Rattle.house_forward.proofs.forwardings.change_all.Goals as goal

pub loop-f-preserved : goal.loop-f-preserved
loop-f-preserved c =
    let lt : c.loop-f.f-index < length c.deref_mut-f-items.result.now = c.loop-f-test.true in
    rw c.change.ensures (map_over_more (forwarding_changed c.args.change c.args.serial) c.deref_mut-f-items.result.now c.loop-f.f-items c.loop-f.f-index _ lt c.loop-f.invariant (search rules))
