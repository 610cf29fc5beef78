use Rattle.std.proofs.Common.{◌≡◌, ◌≤◌, [], List, ℕ, sym, ap, ◌∙◌, length, subst}
use Rattle.mux_peers.specs.State.{ClientsState, client_took}
use Rattle.mux_peers.specs.Among.{at_client, client_index, in_client}
use Rattle.mux_peers.proofs.Found.{Found, found, found-at, found-look, none-found}
use Rattle.mux_peers.proofs.Places.{at_client_absent}
use Rattle.mux_peers.proofs.clients.Clients.took.Goals as goal

pub took-requires : goal.took-requires
took-requires c =
    let f : Found c.args.number c.index_of-i.result c.index_mut-client.result.now c.self.inside.all.items =
    found c.args.number c.index_of-i.result c.len.result c.self.inside.all.len c.index_mut-client.result.now c.deref.result.now c.self.inside.all.items c.index_of-i.ensures c.deref.ensures.value c.if-i-len.true c.len.ensures c.self.inside.all.ok.0 c.index_mut-client.ensures.value in
    subst (λ (q : List ℕ). c.args.n ≤ length q)
    (ap (λ (s : ClientsState). in_client [] (λ x. x.peer.queue) s.all c.args.number) (sym c.self.view_is) ∙ found-look [] (λ x. x.peer.queue) c.args.number c.index_of-i.result c.index_mut-client.result.now c.self.inside.all.items f) c.requires

pub returns-then-i-len-clause-clients : goal.returns-then-i-len-clause-clients
returns-then-i-len-clause-clients c =
    let f : Found c.args.number c.index_of-i.result c.index_mut-client.result.now c.self.inside.all.items =
    found c.args.number c.index_of-i.result c.len.result c.self.inside.all.len c.index_mut-client.result.now c.deref.result.now c.self.inside.all.items c.index_of-i.ensures c.deref.ensures.value c.if-i-len.true c.len.ensures c.self.inside.all.ok.0 c.index_mut-client.ensures.value in
    found-at c.args.number c.index_of-i.result (client_took c.args.n) c.index_mut-client.result.now c.took.new.self c.self.inside.all.items f c.took.ensures
    ∙ ap (λ (s : ClientsState). at_client c.args.number (client_took c.args.n) s.all) c.self.view_is

pub returns-else-i-len-clause-clients : goal.returns-else-i-len-clause-clients
returns-else-i-len-clause-clients c =
    let away : length c.self.inside.all.items ≤ client_index c.args.number c.self.inside.all.items =
    none-found c.args.number c.index_of-i.result c.len.result c.self.inside.all.len c.deref.result.now c.self.inside.all.items c.index_of-i.ensures c.deref.ensures.value c.if-i-len.false c.len.ensures c.self.inside.all.ok.0 in
    subst (λ (s : ClientsState). s.all ≡ at_client c.args.number (client_took c.args.n) s.all) c.self.view_is (at_client_absent c.args.number (client_took c.args.n) c.self.inside.all.items away)
