-- What was counted so far is in the channel, and what is to be read stays.
use Rattle.std.proofs.Common.{◌≡◌, ◌≤◌, length, take}
use Rattle.std.specs.Io.KnownBytes.{Appends}
use Rattle.mux_exchange.proofs.outbox.give_front.Given as goal

abbrev pub invariant-loop : goal.invariant-loop
invariant-loop g l =
    (l.count ≤ length l.bytes)
    × Appends (g.W.ByteChannel.contents l.initial.to) (g.W.ByteChannel.contents l.to) (take l.count l.bytes)
    × (g.W.ByteChannel.remaining l.to ≡ g.W.ByteChannel.remaining l.initial.to)
