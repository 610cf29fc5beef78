use Rattle.std.proofs.Common.{◌≤◌, [], length, sym, ap, ◌∙◌}
use Rattle.mux_peers.specs.State.{ClientsState}
use Rattle.mux_peers.specs.Among.{client_index, in_client}
use Rattle.mux_peers.proofs.Found.{Found, found, found-look, none-found}
use Rattle.mux_peers.proofs.Places.{look_absent}
use Rattle.mux_peers.proofs.clients.Clients.queue_of.Goals as goal

pub returns-then-i-len : goal.returns-then-i-len
returns-then-i-len c =
    let f : Found c.args.number c.index_of-i.result c.index.result.now c.self.inside.all.items =
    found c.args.number c.index_of-i.result c.len.result c.self.inside.all.len c.index.result.now c.deref.result.now c.self.inside.all.items c.index_of-i.ensures c.deref.ensures.value c.if-i-len.true c.len.ensures c.self.inside.all.ok.0 c.index.ensures in
    c.queue.ensures ∙ (sym (found-look [] (λ x. x.peer.queue) c.args.number c.index_of-i.result c.index.result.now c.self.inside.all.items f) ∙ ap (λ (s : ClientsState). in_client [] (λ x. x.peer.queue) s.all c.args.number) c.self.view_is)

pub returns-else-i-len : goal.returns-else-i-len
returns-else-i-len c =
    let away : length c.self.inside.all.items ≤ client_index c.args.number c.self.inside.all.items =
    none-found c.args.number c.index_of-i.result c.len.result c.self.inside.all.len c.deref.result.now c.self.inside.all.items c.index_of-i.ensures c.deref.ensures.value c.if-i-len.false c.len.ensures c.self.inside.all.ok.0 in
    sym (look_absent [] (λ x. x.peer.queue) c.args.number c.self.inside.all.items away) ∙ ap (λ (s : ClientsState). in_client [] (λ x. x.peer.queue) s.all c.args.number) c.self.view_is
