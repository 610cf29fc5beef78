use Rattle.std.proofs.Common.{◌≡◌, ◌++◌, drop}
use Rattle.mux_peers.specs.Among.{waiting_clients}
use Rattle.mux_peers.proofs.clients.add_waiting.Given as goal

abbrev pub invariant-loop-client : goal.invariant-loop-client
invariant-loop-client l = l.list ++ waiting_clients (drop l.client-index l.clients) ≡ l.fn.list ++ waiting_clients l.clients
