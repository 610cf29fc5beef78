use Rattle.std.proofs.Common.{◌≤◌, ◌++◌, ◌∷◌, [], List, ℕ, Option, None, false, sym, ap, ◌∙◌, append-nil, cond, length, subst}
use Rattle.mux_history.specs.declared.why.Why.{Why}
use Rattle.mux_peers.specs.State.{ClientsState}
use Rattle.mux_peers.specs.Stands.{not_lost}
use Rattle.mux_peers.specs.Among.{client_index, is_present}
use Rattle.mux_peers.specs.Losing.{LosesIn}
use Rattle.mux_peers.specs.Room.{HasRoom}
use Rattle.mux_peers.proofs.Found.{Found, found, found-changes, found-here, found-keeps, found-look, found-room, keeps-same, loss-lost, none-found, none-here}
use Rattle.mux_peers.proofs.Noted.{loss-same}
use Rattle.mux_peers.proofs.Places.{look_absent}
use Rattle.mux_peers.proofs.clients.Clients.lose.Goals as goal

pub returns-in_ok-note_loss-clause-loses : goal.returns-in_ok-note_loss-clause-loses
returns-in_ok-note_loss-clause-loses c =
    let f : Found c.args.number c.index_of-i.result c.index_mut-client.result.now c.self.inside.all.items =
    found c.args.number c.index_of-i.result c.len.result c.self.inside.all.len c.index_mut-client.result.now c.deref.result.now c.self.inside.all.items c.index_of-i.ensures c.deref.ensures.value c.if-i-len.true c.len.ensures c.self.inside.all.ok.0 c.index_mut-client.ensures.value in
    rw (← c.self.view_is) (λ here. found-changes c.args.number c.index_of-i.result (LosesIn c.args.core.now c.lose.new.core c.args.up.now c.lose.new.up) c.index_mut-client.result.now c.lose.new.self c.self.inside.all.items f c.lose.ensures.loses)

pub returns-in_ok-note_loss-clause-keeps : goal.returns-in_ok-note_loss-clause-keeps
returns-in_ok-note_loss-clause-keeps c =
    let f : Found c.args.number c.index_of-i.result c.index_mut-client.result.now c.self.inside.all.items =
    found c.args.number c.index_of-i.result c.len.result c.self.inside.all.len c.index_mut-client.result.now c.deref.result.now c.self.inside.all.items c.index_of-i.ensures c.deref.ensures.value c.if-i-len.true c.len.ensures c.self.inside.all.ok.0 c.index_mut-client.ensures.value in
    rw (← c.self.view_is) (found-keeps c.args.number c.index_of-i.result c.index_mut-client.result.now c.lose.new.self c.self.inside.all.items c.args.up.now c.lose.new.up f c.lose.ensures.number c.lose.ensures.room)

pub returns-in_ok-note_loss-clause-absent : goal.returns-in_ok-note_loss-clause-absent
returns-in_ok-note_loss-clause-absent c =
    let f : Found c.args.number c.index_of-i.result c.index_mut-client.result.now c.self.inside.all.items =
    found c.args.number c.index_of-i.result c.len.result c.self.inside.all.len c.index_mut-client.result.now c.deref.result.now c.self.inside.all.items c.index_of-i.ensures c.deref.ensures.value c.if-i-len.true c.len.ensures c.self.inside.all.ok.0 c.index_mut-client.ensures.value in
    λ gone. found-here c.args.number c.index_of-i.result c.index_mut-client.result.now c.self.inside.all.items f (ap (λ (s : ClientsState). is_present s.all c.args.number) c.self.view_is ∙ gone)

pub returns-in_err-note_loss-clause-loses : goal.returns-in_err-note_loss-clause-loses
returns-in_err-note_loss-clause-loses c =
    let f : Found c.args.number c.index_of-i.result c.index_mut-client.result.now c.self.inside.all.items =
    found c.args.number c.index_of-i.result c.len.result c.self.inside.all.len c.index_mut-client.result.now c.deref.result.now c.self.inside.all.items c.index_of-i.ensures c.deref.ensures.value c.if-i-len.true c.len.ensures c.self.inside.all.ok.0 c.index_mut-client.ensures.value in
    rw (← c.self.view_is) (λ here. found-changes c.args.number c.index_of-i.result (LosesIn c.args.core.now c.lose.new.core c.args.up.now c.lose.new.up) c.index_mut-client.result.now c.lose.new.self c.self.inside.all.items f c.lose.ensures.loses)

pub returns-in_err-note_loss-clause-keeps : goal.returns-in_err-note_loss-clause-keeps
returns-in_err-note_loss-clause-keeps c =
    let f : Found c.args.number c.index_of-i.result c.index_mut-client.result.now c.self.inside.all.items =
    found c.args.number c.index_of-i.result c.len.result c.self.inside.all.len c.index_mut-client.result.now c.deref.result.now c.self.inside.all.items c.index_of-i.ensures c.deref.ensures.value c.if-i-len.true c.len.ensures c.self.inside.all.ok.0 c.index_mut-client.ensures.value in
    rw (← c.self.view_is) (found-keeps c.args.number c.index_of-i.result c.index_mut-client.result.now c.lose.new.self c.self.inside.all.items c.args.up.now c.lose.new.up f c.lose.ensures.number c.lose.ensures.room)

pub returns-in_err-note_loss-clause-absent : goal.returns-in_err-note_loss-clause-absent
returns-in_err-note_loss-clause-absent c =
    let f : Found c.args.number c.index_of-i.result c.index_mut-client.result.now c.self.inside.all.items =
    found c.args.number c.index_of-i.result c.len.result c.self.inside.all.len c.index_mut-client.result.now c.deref.result.now c.self.inside.all.items c.index_of-i.ensures c.deref.ensures.value c.if-i-len.true c.len.ensures c.self.inside.all.ok.0 c.index_mut-client.ensures.value in
    λ gone. found-here c.args.number c.index_of-i.result c.index_mut-client.result.now c.self.inside.all.items f (ap (λ (s : ClientsState). is_present s.all c.args.number) c.self.view_is ∙ gone)

pub returns-in_ok-note_loss-clause-notes : goal.returns-in_ok-note_loss-clause-notes
returns-in_ok-note_loss-clause-notes c =
    let f : Found c.args.number c.index_of-i.result c.index_mut-client.result.now c.self.inside.all.items =
    found c.args.number c.index_of-i.result c.len.result c.self.inside.all.len c.index_mut-client.result.now c.deref.result.now c.self.inside.all.items c.index_of-i.ensures c.deref.ensures.value c.if-i-len.true c.len.ensures c.self.inside.all.ok.0 c.index_mut-client.ensures.value in
    rw (← c.self.view_is)
    (c.in_ok-note_loss.ensures.notes
    ∙ ap (λ (l : List (ℕ × Option Why)). c.self.inside.leaving.items ++ l)
    (loss-same c.standing-before.result c.standing.result _ _ c.args.number c.standing-before.ensures c.standing.ensures
    ∙ (loss-lost c.args.number c.args.core.now c.lose.new.core c.args.up.now c.lose.new.up c.index_mut-client.result.now c.lose.new.self c.lose.ensures.loses
    ∙ ap (λ b. cond b ((c.args.number, None) ∷ []) []) (sym (found-look false (λ x. not_lost x.peer.standing) c.args.number c.index_of-i.result c.index_mut-client.result.now c.self.inside.all.items f)))))

pub returns-else-i-len-clause-loses : goal.returns-else-i-len-clause-loses
returns-else-i-len-clause-loses c =
    let away : length c.self.inside.all.items ≤ client_index c.args.number c.self.inside.all.items =
    none-found c.args.number c.index_of-i.result c.len.result c.self.inside.all.len c.deref.result.now c.self.inside.all.items c.index_of-i.ensures c.deref.ensures.value c.if-i-len.false c.len.ensures c.self.inside.all.ok.0 in
    λ here. none-here c.args.number c.self.inside.all.items away (ap (λ (s : ClientsState). is_present s.all c.args.number) c.self.view_is ∙ here)

pub returns-else-i-len-clause-notes : goal.returns-else-i-len-clause-notes
returns-else-i-len-clause-notes c =
    let away : length c.self.inside.all.items ≤ client_index c.args.number c.self.inside.all.items =
    none-found c.args.number c.index_of-i.result c.len.result c.self.inside.all.len c.deref.result.now c.self.inside.all.items c.index_of-i.ensures c.deref.ensures.value c.if-i-len.false c.len.ensures c.self.inside.all.ok.0 in
    rw (← c.self.view_is)
    (sym (append-nil c.self.inside.leaving.items)
    ∙ ap (λ b. c.self.inside.leaving.items ++ cond b ((c.args.number, None) ∷ []) []) (sym (look_absent false (λ x. not_lost x.peer.standing) c.args.number c.self.inside.all.items away)))

pub returns-else-i-len-clause-keeps : goal.returns-else-i-len-clause-keeps
returns-else-i-len-clause-keeps c = keeps-same c.args.self.now.all c.args.up.now

pub lose-requires : goal.lose-requires
lose-requires c =
    let f : Found c.args.number c.index_of-i.result c.index_mut-client.result.now c.self.inside.all.items =
    found c.args.number c.index_of-i.result c.len.result c.self.inside.all.len c.index_mut-client.result.now c.deref.result.now c.self.inside.all.items c.index_of-i.ensures c.deref.ensures.value c.if-i-len.true c.len.ensures c.self.inside.all.ok.0 c.index_mut-client.ensures.value in
    record { room = λ here. found-room c.args.number c.index_of-i.result c.index_mut-client.result.now c.self.inside.all.items c.args.up.now f (subst (λ (s : ClientsState). HasRoom s.all c.args.up.now) (sym c.self.view_is) c.requires.room) here }
