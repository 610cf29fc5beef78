-- No name is bound so far.
use Rattle.std.proofs.Common.{◌≡◌}
use Rattle.mux_sockets.proofs.control.bind_beside.Given as goal

abbrev pub invariant-loop-number : goal.invariant-loop-number
invariant-loop-number g l = g.F.SocketFiles.recorded l.files ≡ g.F.SocketFiles.recorded l.initial.files
