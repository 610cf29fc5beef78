use Rattle.std.proofs.Common.{rules, ◌<◌, length}
use Rattle.std.proofs.lemmas.List.Edits.{map_over_more}
use Rattle.mux_outside.specs.OwnStreams.{finish_one}
use Rattle.mux_outside.proofs.own_streams.OwnStreams.finish.Goals as goal

pub loop-stream-preserved : goal.loop-stream-preserved
loop-stream-preserved c =
    let lt : c.loop-stream.stream-index < length c.deref_mut-stream-items.result.now = c.loop-stream-test.true in
    rw c.finished_one.ensures (map_over_more (finish_one c.args.number) c.deref_mut-stream-items.result.now c.loop-stream.stream-items c.loop-stream.stream-index _ lt c.loop-stream.invariant (search rules))
