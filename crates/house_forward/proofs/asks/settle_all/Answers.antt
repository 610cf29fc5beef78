use Rattle.std.proofs.Common.{rules, ◌<◌, length}
use Rattle.std.proofs.lemmas.List.Edits.{map_over_more}
use Rattle.house_forward.specs.Asks.{settle_one}
use Rattle.house_forward.proofs.asks.settle_all.Goals as goal

pub loop-w-preserved : goal.loop-w-preserved
loop-w-preserved c =
    let lt : c.loop-w.w-index < length c.deref_mut-w-items.result.now = c.loop-w-test.true in
    rw c.settled.ensures (map_over_more (settle_one c.args.forwarding c.args.opening c.args.at c.args.outcome) c.deref_mut-w-items.result.now c.loop-w.w-items c.loop-w.w-index _ lt c.loop-w.invariant (search rules))
