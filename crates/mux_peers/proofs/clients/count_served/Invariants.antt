use Rattle.std.proofs.Common.{◌≡◌, ◌+◌, ◌≤◌, drop, length}
use Rattle.mux_peers.specs.Room.{served_in}
use Rattle.mux_peers.proofs.clients.count_served.Given as goal

abbrev pub invariant-loop-client : goal.invariant-loop-client
invariant-loop-client l = record {
  counted : l.count + length (served_in (drop l.client-index l.clients)) ≡ length (served_in l.clients);
  few : l.count ≤ l.client-index;
}
