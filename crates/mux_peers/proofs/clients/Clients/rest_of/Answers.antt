use Rattle.std.proofs.Common.{◌≡◌, ◌≤◌, [], ℕ, length, false, sym, ap, ◌∙◌}
use Rattle.mux_peers.specs.State.{ClientsState}
use Rattle.mux_peers.specs.Stands.{is_read}
use Rattle.mux_peers.specs.Among.{client_index, in_client, is_client_read}
use Rattle.mux_peers.proofs.Found.{Found, found, found-look, none-found}
use Rattle.mux_peers.proofs.Places.{look_absent}
use Rattle.mux_peers.proofs.clients.Clients.rest_of.Goals as goal

pub returns-then-i-len-clause-exact : goal.returns-then-i-len-clause-exact
returns-then-i-len-clause-exact c =
    let f : Found c.args.number c.index_of-i.result c.index.result.now c.self.inside.all.items =
    found c.args.number c.index_of-i.result c.len.result c.self.inside.all.len c.index.result.now c.deref.result.now c.self.inside.all.items c.index_of-i.ensures c.deref.ensures.value c.if-i-len.true c.len.ensures c.self.inside.all.ok.0 c.index.ensures in
    c.rest_len.ensures.exact ∙ ap (length {A = ℕ}) (sym (found-look [] (λ x. x.rest) c.args.number c.index_of-i.result c.index.result.now c.self.inside.all.items f) ∙ ap (λ (s : ClientsState). in_client [] (λ x. x.rest) s.all c.args.number) c.self.view_is)

pub returns-then-i-len-clause-unheard : goal.returns-then-i-len-clause-unheard
returns-then-i-len-clause-unheard c =
    let f : Found c.args.number c.index_of-i.result c.index.result.now c.self.inside.all.items =
    found c.args.number c.index_of-i.result c.len.result c.self.inside.all.len c.index.result.now c.deref.result.now c.self.inside.all.items c.index_of-i.ensures c.deref.ensures.value c.if-i-len.true c.len.ensures c.self.inside.all.ok.0 c.index.ensures in
    λ e.
    let unread : is_read c.index.result.now.peer.standing ≡ false = sym (found-look false (λ x. is_read x.peer.standing) c.args.number c.index_of-i.result c.index.result.now c.self.inside.all.items f) ∙ (ap (λ (s : ClientsState). is_client_read s.all c.args.number) c.self.view_is ∙ e) in
    c.rest_len.ensures.exact ∙ ap (length {A = ℕ}) (c.rest_len.ensures.unread unread)

pub returns-else-i-len-clause-exact : goal.returns-else-i-len-clause-exact
returns-else-i-len-clause-exact c =
    let away : length c.self.inside.all.items ≤ client_index c.args.number c.self.inside.all.items =
    none-found c.args.number c.index_of-i.result c.len.result c.self.inside.all.len c.deref.result.now c.self.inside.all.items c.index_of-i.ensures c.deref.ensures.value c.if-i-len.false c.len.ensures c.self.inside.all.ok.0 in
    ap (length {A = ℕ}) (sym (look_absent [] (λ x. x.rest) c.args.number c.self.inside.all.items away) ∙ ap (λ (s : ClientsState). in_client [] (λ x. x.rest) s.all c.args.number) c.self.view_is)
