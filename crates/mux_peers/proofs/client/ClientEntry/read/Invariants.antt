use Rattle.std.proofs.Common.{◌++◌, length}
use Rattle.mux_peers.proofs.Looped.{LoopApplies}
use Rattle.mux_peers.proofs.client.ClientEntry.read.Given as goal

abbrev pub invariant-loop-self : goal.invariant-loop-self
invariant-loop-self g l = LoopApplies g.H.Asks.may l.fn.asks l.asks (g.H.Asks.state l.fn.house) (g.H.Asks.state l.house) l.pid (l.fn.self.rest ++ l.fn.bytes) l.fn.core l.fn.up l.fn.self l.core l.up l.self l.change

abbrev pub decreases-loop-self : goal.decreases-loop-self
decreases-loop-self g l = length l.self.rest
