use Rattle.std.proofs.Common.{◌≡◌, ◌++◌, take}
use Rattle.std.specs.Prelude.{filter}
use Rattle.mux_outside.specs.House.{has_waiting}
use Rattle.mux_outside.specs.OwnStreams.{numbers_of}
use Rattle.house_forward.specs.Links.{queue_at, streams_of}
use Rattle.house_forward.proofs.relays.Relays.list_waiting.Given as goal

abbrev pub invariant-loop-i : goal.invariant-loop-i
invariant-loop-i l = l.into ≡ l.fn.into ++ filter (has_waiting (queue_at l.self.all.items) l.failed) (numbers_of (streams_of (take l.i l.self.all.items)))
