use Rattle.std.proofs.Common.{rules, arith, ◌≡◌, ◌∙◌, ap, sym, map, Bool, List}
use Rattle.global_replies.specs.Replies.{after_reply, refusals_behind}
use Rattle.mux_core.specs.declared.members.Member.{Member}
use Rattle.mux_core.specs.Members.{member_state}
use Rattle.mux_core.specs.Requesting.{place_of_client}
use Rattle.mux_core.proofs.Waiting.{length-clients, not-there, set-client}
use Rattle.mux_core.proofs.members.Members.answered.Goals as goal

pub returns-then-place-len-clause-refusals : goal.returns-then-place-len-clause-refusals
returns-then-place-len-clause-refusals c =
    let a = length-clients c.self.inside.listed.items in
    let b : c.place_in-place.result ≡ place_of_client c.args.client (map member_state c.self.inside.listed.items) = search rules in
    rw (← c.self.view_is) (sym (ap refusals_behind (not-there c.args.client after_reply (map member_state c.self.inside.listed.items) (omega arith)).1))

pub returns-then-place-len-clause-left : goal.returns-then-place-len-clause-left
returns-then-place-len-clause-left c =
    let a = length-clients c.self.inside.listed.items in
    let b : c.place_in-place.result ≡ place_of_client c.args.client (map member_state c.self.inside.listed.items) = search rules in
    rw (← c.self.view_is) (sym (not-there c.args.client after_reply (map member_state c.self.inside.listed.items) (omega arith)).0)

pub returns-clause-refusals : goal.returns-clause-refusals
returns-clause-refusals c =
    let b : c.place_in-place.result ≡ place_of_client c.args.client (map member_state c.self.inside.listed.items) = search rules in
    rw (← c.self.view_is) (c.server_answered.ensures.refusals ∙ (ap (λ (d : Member). refusals_behind (member_state d).waiting) c.index_mut.ensures.value ∙ sym (ap refusals_behind (set-client c.args.client after_reply c.self.inside.listed.items c.place_in-place.result (record c.index_mut.result.now { answers = c.server_answered.new.self }) c.index_mut.result.now b (omega arith) (ap (λ (w : List Bool). record (member_state c.index_mut.result.now) { waiting = w }) c.server_answered.ensures.left ∙ ap (λ (d : Member). record (member_state d) { waiting = after_reply (member_state d).waiting }) c.index_mut.ensures.value)).1)))

pub returns-clause-left : goal.returns-clause-left
returns-clause-left c =
    let b : c.place_in-place.result ≡ place_of_client c.args.client (map member_state c.self.inside.listed.items) = search rules in
    rw (← c.self.view_is) ((set-client c.args.client after_reply c.self.inside.listed.items c.place_in-place.result _ c.index_mut.result.now b (omega arith) (ap (λ (w : List Bool). record (member_state c.index_mut.result.now) { waiting = w }) c.server_answered.ensures.left ∙ ap (λ (d : Member). record (member_state d) { waiting = after_reply (member_state d).waiting }) c.index_mut.ensures.value)).0)
