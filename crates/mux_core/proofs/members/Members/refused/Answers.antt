use Rattle.std.proofs.Common.{rules, arith, ◌≡◌, ◌∙◌, ap, sym, map, Bool, List}
use Rattle.global_replies.specs.Replies.{is_none_left, or_behind}
use Rattle.mux_core.specs.declared.members.Member.{Member}
use Rattle.mux_core.specs.Members.{member_state}
use Rattle.mux_core.specs.Requesting.{place_of_client}
use Rattle.mux_core.proofs.Waiting.{length-clients, not-there, set-client}
use Rattle.mux_core.proofs.members.Members.refused.Goals as goal

pub returns-then-place-len-clause-now : goal.returns-then-place-len-clause-now
returns-then-place-len-clause-now c =
    let a = length-clients c.self.inside.listed.items in
    let b : c.place_in-place.result ≡ place_of_client c.args.client (map member_state c.self.inside.listed.items) = search rules in
    rw (← c.self.view_is) (sym (ap is_none_left (not-there c.args.client or_behind (map member_state c.self.inside.listed.items) (omega arith)).1))

pub returns-then-place-len-clause-ok : goal.returns-then-place-len-clause-ok
returns-then-place-len-clause-ok c =
    let a = length-clients c.self.inside.listed.items in
    let b : c.place_in-place.result ≡ place_of_client c.args.client (map member_state c.self.inside.listed.items) = search rules in
    rw (← c.self.view_is) (sym (not-there c.args.client or_behind (map member_state c.self.inside.listed.items) (omega arith)).0)

pub returns-clause-now : goal.returns-clause-now
returns-clause-now c =
    let b : c.place_in-place.result ≡ place_of_client c.args.client (map member_state c.self.inside.listed.items) = search rules in
    rw (← c.self.view_is) (c.in_ok-now.ensures.now ∙ (ap (λ (d : Member). is_none_left (member_state d).waiting) c.index_mut.ensures.value ∙ sym (ap is_none_left (set-client c.args.client or_behind c.self.inside.listed.items c.place_in-place.result (record c.index_mut.result.now { answers = c.local.new.self }) c.index_mut.result.now b (omega arith) (ap (λ (w : List Bool). record (member_state c.index_mut.result.now) { waiting = w }) c.in_ok-now.ensures.ok ∙ ap (λ (d : Member). record (member_state d) { waiting = or_behind (member_state d).waiting }) c.index_mut.ensures.value)).1)))

pub returns-clause-ok : goal.returns-clause-ok
returns-clause-ok c =
    let b : c.place_in-place.result ≡ place_of_client c.args.client (map member_state c.self.inside.listed.items) = search rules in
    rw (← c.self.view_is) ((set-client c.args.client or_behind c.self.inside.listed.items c.place_in-place.result _ c.index_mut.result.now b (omega arith) (ap (λ (w : List Bool). record (member_state c.index_mut.result.now) { waiting = w }) c.in_ok-now.ensures.ok ∙ ap (λ (d : Member). record (member_state d) { waiting = or_behind (member_state d).waiting }) c.index_mut.ensures.value)).0)
