use Rattle.std.proofs.Common.{◌≡◌, ◌++◌, ℕ, drop, map, take}
use Rattle.std.specs.Prelude.{◌==◌, ◌||◌}
use Rattle.mux_core.specs.declared.members.Member.{Member}
use Rattle.mux_core.proofs.members.lose_in.Given as goal

abbrev pub lose_one : ℕ → Member → Member
lose_one k c = record c { lost = c.lost || (c.number == k) }

abbrev pub invariant-loop-c : goal.invariant-loop-c
invariant-loop-c l = l.clients ≡ map (lose_one l.client) (take l.c-index l.initial.clients) ++ drop l.c-index l.initial.clients
