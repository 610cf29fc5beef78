use Rattle.std.proofs.Common.{◌≡◌, map, drop}
use Rattle.mux_core.specs.Members.{member_state}
use Rattle.mux_core.specs.Requesting.{member_waiting_of}
use Rattle.mux_core.proofs.members.waiting_in.Given as goal

abbrev pub invariant-loop-c : goal.invariant-loop-c
invariant-loop-c l = member_waiting_of l.client (map member_state l.clients) ≡ member_waiting_of l.client (map member_state (drop l.c-index l.clients))
