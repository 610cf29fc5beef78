use Rattle.std.proofs.Common.{◌≡◌, ◌≤◌, length, ltb, false, not, sym, ap, ◌∙◌, arith}
use Rattle.std.proofs.lemmas.Bool.Decides.{nat_tests}
use Rattle.mux_peers.specs.State.{ClientsState}
use Rattle.mux_peers.specs.Stands.{not_lost}
use Rattle.mux_peers.specs.Among.{client_index, is_client_served}
use Rattle.mux_peers.proofs.Found.{Found, found, found-look, none-found}
use Rattle.mux_peers.proofs.Places.{look_absent}
use Rattle.mux_peers.proofs.clients.Clients.is_served.Goals as goal

pub returns-then-i-len : goal.returns-then-i-len
returns-then-i-len c =
    let f : Found c.args.number c.index_of-i.result c.index.result.now c.self.inside.all.items =
    found c.args.number c.index_of-i.result c.len.result c.self.inside.all.len c.index.result.now c.deref.result.now c.self.inside.all.items c.index_of-i.ensures c.deref.ensures.value c.if-i-len.true c.len.ensures c.self.inside.all.ok.0 c.index.ensures in
    ap not c.is_lost.ensures ∙ (sym (found-look false (λ x. not_lost x.peer.standing) c.args.number c.index_of-i.result c.index.result.now c.self.inside.all.items f) ∙ ap (λ (s : ClientsState). is_client_served s.all c.args.number) c.self.view_is)

pub returns-else-i-len : goal.returns-else-i-len
returns-else-i-len c =
    let away : length c.self.inside.all.items ≤ client_index c.args.number c.self.inside.all.items =
    none-found c.args.number c.index_of-i.result c.len.result c.self.inside.all.len c.deref.result.now c.self.inside.all.items c.index_of-i.ensures c.deref.ensures.value c.if-i-len.false c.len.ensures c.self.inside.all.ok.0 in
    let none : ltb c.index_of-i.result c.len.result ≡ false = (let le : c.len.result ≤ c.index_of-i.result = c.if-i-len.false in grind (arith, nat_tests)) in
    none ∙ (sym (look_absent false (λ x. not_lost x.peer.standing) c.args.number c.self.inside.all.items away) ∙ ap (λ (s : ClientsState). is_client_served s.all c.args.number) c.self.view_is)
