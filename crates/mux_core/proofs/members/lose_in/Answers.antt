use Rattle.std.proofs.Common.{rules, arith, ◌≡◌, ◌<◌, ◌≤◌, ◌++◌, ◌∙◌, drop, ap, refl, map, length, ℕ, List, [], ◌∷◌}
use Rattle.std.proofs.lemmas.List.{append-nil, drop_all, take_all}
use Rattle.std.proofs.lemmas.List.Edits.{map_over_more}
use Rattle.mux_core.specs.declared.members.Member.{Member}
use Rattle.mux_core.specs.Members.{member_state}
use Rattle.mux_core.specs.Losing.{lose, lost_clients}
use Rattle.mux_core.proofs.members.lose_in.Invariants.{lose_one}
use Rattle.mux_core.proofs.members.lose_in.Goals as goal

seen : (k : ℕ) (cs : List Member) → map member_state (map (lose_one k) cs) ≡ lost_clients k (map member_state cs)
seen k [] = refl
seen k (c ∷ cs) = ap (λ ds. lose k (member_state c) ∷ ds) (seen k cs)

pub loop-c-preserved : goal.loop-c-preserved
loop-c-preserved c =
    let lt : c.loop-c.c-index < length c.args.clients.now = omega arith in
    rw c.is_lost_by-c.ensures (map_over_more (lose_one c.args.client) c.args.clients.now c.loop-c.clients c.loop-c.c-index _ lt c.loop-c.invariant (search rules))

pub returns : goal.returns
returns c =
    let over : length c.args.clients.now ≤ c.loop-c.c-index = omega arith in
    let all : c.loop-c.clients ≡ map (lose_one c.args.client) c.args.clients.now =
    c.loop-c.invariant
    ∙ (ap (λ (ys : List Member). map (lose_one c.args.client) ys ++ drop c.loop-c.c-index c.args.clients.now) (take_all c.loop-c.c-index c.args.clients.now over)
    ∙ (ap (λ (ys : List Member). map (lose_one c.args.client) c.args.clients.now ++ ys) (drop_all c.loop-c.c-index c.args.clients.now over) ∙ append-nil (map (lose_one c.args.client) c.args.clients.now))) in
    ap (map member_state) all ∙ seen c.args.client c.args.clients.now
