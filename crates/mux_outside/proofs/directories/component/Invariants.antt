use Rattle.std.proofs.Common.{◌≡◌, ◌+◌, ◌==◌, drop}
use Rattle.std.specs.List.{position_or_len}
use Rattle.mux_outside.proofs.directories.component.Given as goal

abbrev pub invariant-loop-end : goal.invariant-loop-end
invariant-loop-end l = l.end + position_or_len (λ b. b == 47) (drop l.end l.rest) ≡ position_or_len (λ b. b == 47) l.rest
