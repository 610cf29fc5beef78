use Rattle.std.proofs.Common.{◌≡◌, map, drop}
use Rattle.mux_core.specs.Members.{member_state}
use Rattle.mux_core.specs.Settling.{is_lost_in}
use Rattle.mux_core.proofs.members.lost_in.Given as goal

abbrev pub invariant-loop-c : goal.invariant-loop-c
invariant-loop-c l = is_lost_in (map member_state l.clients) l.client ≡ is_lost_in (map member_state (drop l.c-index l.clients)) l.client
