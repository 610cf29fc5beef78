use Rattle.std.proofs.Common.{◌≡◌}
use Rattle.mux_edge.proofs.lookup.Lookup.receive.Given as goal

abbrev pub invariant-loop : goal.invariant-loop
invariant-loop l = l.self.name ≡ l.fn.self.name
