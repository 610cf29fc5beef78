use Rattle.std.proofs.Common.{◌≡◌, ◌+◌, drop}
use Rattle.mux_peers.specs.Among.{client_index}
use Rattle.mux_peers.proofs.clients.index_of.Given as goal

abbrev pub invariant-loop-i : goal.invariant-loop-i
invariant-loop-i l = l.i + client_index l.number (drop l.i l.clients) ≡ client_index l.number l.clients
