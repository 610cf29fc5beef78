use Rattle.std.proofs.Common.{◌≤◌, length}
use Rattle.mux_sockets.proofs.files.list_at.Given as goal

abbrev pub invariant-loop-entry : goal.invariant-loop-entry
invariant-loop-entry g l = length l.names ≤ 1000000
