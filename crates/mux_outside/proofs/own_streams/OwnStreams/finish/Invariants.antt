use Rattle.std.proofs.Common.{◌≡◌, ◌++◌, map, take, drop}
use Rattle.mux_outside.specs.OwnStreams.{finish_one}
use Rattle.mux_outside.proofs.own_streams.OwnStreams.finish.Given as goal

abbrev pub invariant-loop-stream : goal.invariant-loop-stream
invariant-loop-stream l = l.stream-items ≡ map (finish_one l.number) (take l.stream-index l.initial.stream-items) ++ drop l.stream-index l.initial.stream-items
