use Rattle.std.proofs.Common.{◌≡◌, drop}
use Rattle.mux_outside.specs.Files.{pair_value_at}
use Rattle.mux_outside.proofs.directories.pair_value_at.Given as goal

abbrev pub invariant-loop-pair : goal.invariant-loop-pair
invariant-loop-pair l = pair_value_at (drop l.pair-index l.pairs) l.name ≡ pair_value_at l.pairs l.name
