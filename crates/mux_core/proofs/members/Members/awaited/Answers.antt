use Rattle.std.proofs.Common.{rules, arith, ◌≡◌, ◌∙◌, ap, sym, map, Bool, List}
use Rattle.mux_core.specs.declared.members.Member.{Member}
use Rattle.mux_core.specs.Members.{member_state}
use Rattle.mux_core.specs.Requesting.{more_awaited, place_of_client}
use Rattle.mux_core.proofs.Waiting.{length-clients, not-there, set-client}
use Rattle.mux_core.proofs.members.Members.awaited.Goals as goal

pub returns-then-place-len : goal.returns-then-place-len
returns-then-place-len c =
    let a = length-clients c.self.inside.listed.items in
    let b : c.place_in-place.result ≡ place_of_client c.args.client (map member_state c.self.inside.listed.items) = search rules in
    rw (← c.self.view_is) (sym (not-there c.args.client more_awaited (map member_state c.self.inside.listed.items) (omega arith)).0)

pub returns : goal.returns
returns c =
    let b : c.place_in-place.result ≡ place_of_client c.args.client (map member_state c.self.inside.listed.items) = search rules in
    rw (← c.self.view_is) ((set-client c.args.client more_awaited c.self.inside.listed.items c.place_in-place.result _ c.index_mut.result.now b (omega arith) (ap (λ (w : List Bool). record (member_state c.index_mut.result.now) { waiting = w }) c.in_ok-awaited.ensures.ok ∙ ap (λ (d : Member). record (member_state d) { waiting = more_awaited (member_state d).waiting }) c.index_mut.ensures.value)).0)
