use Rattle.std.proofs.Common.{◌≡◌, ◌++◌, map, take, drop}
use Rattle.mux_outside.specs.OwnStreams.{end_one}
use Rattle.mux_outside.proofs.own_streams.OwnStreams.end.Given as goal

abbrev pub invariant-loop-stream : goal.invariant-loop-stream
invariant-loop-stream l = l.stream-items ≡ map (end_one l.number) (take l.stream-index l.initial.stream-items) ++ drop l.stream-index l.initial.stream-items
