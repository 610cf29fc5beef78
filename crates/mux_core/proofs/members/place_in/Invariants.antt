use Rattle.std.proofs.Common.{◌≡◌, ◌+◌, map, drop}
use Rattle.mux_core.specs.Members.{member_state}
use Rattle.mux_core.specs.Requesting.{place_of_client}
use Rattle.mux_core.proofs.members.place_in.Given as goal

abbrev pub invariant-loop-c : goal.invariant-loop-c
invariant-loop-c l = record {
  here : l.place ≡ l.c-index;
  first : l.place + place_of_client l.client (map member_state (drop l.c-index l.clients)) ≡ place_of_client l.client (map member_state l.clients);
}
