use Rattle.std.proofs.Common.{◌≡◌}
use Rattle.mux_edge.proofs.Resolved.{SoFar}
use Rattle.mux_edge.proofs.lookups.Lookups.resolve.Given as goal

-- the first targets are resolved, and nothing else changes
abbrev pub invariant-loop-index : goal.invariant-loop-index
invariant-loop-index l = (l.self.running ≡ l.fn.self.running) × (l.self.cache ≡ l.fn.self.cache)
    × (l.self.alloc ≡ l.fn.self.alloc)
    × SoFar l.name l.addresses l.index l.fn.self.targets.entries l.self.targets.entries
