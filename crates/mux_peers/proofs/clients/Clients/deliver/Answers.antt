use Rattle.std.proofs.Common.{◌∷◌, sym, subst}
use Rattle.ssh_grammar.specs.Frames.{frame_payload}
use Rattle.mux_peers.specs.State.{ClientsState, refusals_of}
use Rattle.mux_peers.specs.Among.{ReceivesNoting}
use Rattle.mux_peers.specs.Room.{HasRoom}
use Rattle.mux_peers.proofs.Found.{Found, found, found-goes, found-keeps, found-rest, found-room, none-goes, none-noted, none-present, none-rest}
use Rattle.mux_peers.proofs.Heeding.{on-none}
use Rattle.mux_peers.proofs.Noted.{loss-same}
use Rattle.mux_peers.proofs.clients.Clients.deliver.Goals as goal

pub returns-in_ok-note_loss-clause-receives : goal.returns-in_ok-note_loss-clause-receives
returns-in_ok-note_loss-clause-receives c =
    let f : Found c.args.number c.index_of-i.result c.index_mut-client.result.now c.self.inside.all.items =
    found c.args.number c.index_of-i.result c.len.result c.self.inside.all.len c.index_mut-client.result.now c.deref.result.now c.self.inside.all.items c.index_of-i.ensures c.deref.ensures.value c.if-i-len.true c.len.ensures c.self.inside.all.ok.0 c.index_mut-client.ensures.value in
    rw (← c.self.view_is) (found-goes c.args.number c.index_of-i.result
    (λ noted. ReceivesNoting c.args.number (frame_payload c.args.payload.now ∷ refusals_of c.args.refusals) noted c.args.core.now c.deliver.new.core c.args.up.now c.deliver.new.up)
    c.standing-before.result c.standing.result c.index_mut-client.result.now c.deliver.new.self c.self.inside.all.items _ _ _ _ _ _ f c.in_ok-note_loss.ensures.notes (record {
      receives = c.in_ok-deliver.ensures.stands;
      noted_is = loss-same c.standing-before.result c.standing.result _ _ c.args.number c.standing-before.ensures c.standing.ensures;
    }) c.in_ok-deliver.ensures.stands.number c.deliver.ensures.reads)

pub returns-else-i-len-clause-receives : goal.returns-else-i-len-clause-receives
returns-else-i-len-clause-receives c = none-goes _ _ _ _ _
    (none-present c.args.number c.index_of-i.result c.len.result c.self.inside.all.len c.deref.result.now c.self.inside.all.items c.self.inside.leaving.items c.args.self.now c.self.view_is c.index_of-i.ensures c.deref.ensures.value c.if-i-len.false c.len.ensures c.self.inside.all.ok.0)

pub deliver-requires-clause-room : goal.deliver-requires-clause-room
deliver-requires-clause-room c =
    let f : Found c.args.number c.index_of-i.result c.index_mut-client.result.now c.self.inside.all.items =
    found c.args.number c.index_of-i.result c.len.result c.self.inside.all.len c.index_mut-client.result.now c.deref.result.now c.self.inside.all.items c.index_of-i.ensures c.deref.ensures.value c.if-i-len.true c.len.ensures c.self.inside.all.ok.0 c.index_mut-client.ensures.value in
    λ here. found-room c.args.number c.index_of-i.result c.index_mut-client.result.now c.self.inside.all.items c.args.up.now f (subst (λ (s : ClientsState). HasRoom s.all c.args.up.now) (sym c.self.view_is) c.requires.room) here

-- ---- what stays

pub returns-else-i-len-clause-rest : goal.returns-else-i-len-clause-rest
returns-else-i-len-clause-rest c = none-rest _ _ _ _ _

pub returns-in_ok-note_loss-clause-rest : goal.returns-in_ok-note_loss-clause-rest
returns-in_ok-note_loss-clause-rest c =
    let f : Found c.args.number c.index_of-i.result c.index_mut-client.result.now c.self.inside.all.items =
    found c.args.number c.index_of-i.result c.len.result c.self.inside.all.len c.index_mut-client.result.now c.deref.result.now c.self.inside.all.items c.index_of-i.ensures c.deref.ensures.value c.if-i-len.true c.len.ensures c.self.inside.all.ok.0 c.index_mut-client.ensures.value in
    rw (← c.self.view_is) (found-rest _ c.args.number c.index_of-i.result c.index_mut-client.result.now c.deliver.new.self c.self.inside.all.items _ _ _ _ _ _ f c.note_loss.ensures.more
    (found-keeps c.args.number c.index_of-i.result c.index_mut-client.result.now c.deliver.new.self c.self.inside.all.items c.args.up.now c.deliver.new.up f c.in_ok-deliver.ensures.stands.number c.in_ok-deliver.ensures.room) c.deliver.ensures.policy)

pub returns-in_err-note_loss-clause-rest : goal.returns-in_err-note_loss-clause-rest
returns-in_err-note_loss-clause-rest c =
    let f : Found c.args.number c.index_of-i.result c.index_mut-client.result.now c.self.inside.all.items =
    found c.args.number c.index_of-i.result c.len.result c.self.inside.all.len c.index_mut-client.result.now c.deref.result.now c.self.inside.all.items c.index_of-i.ensures c.deref.ensures.value c.if-i-len.true c.len.ensures c.self.inside.all.ok.0 c.index_mut-client.ensures.value in
    rw (← c.self.view_is) (found-rest _ c.args.number c.index_of-i.result c.index_mut-client.result.now c.deliver.new.self c.self.inside.all.items _ _ _ _ _ _ f c.note_loss.ensures.more
    (on-none c.from_residual-in_err-note_loss.result _ c.from_residual-in_err-note_loss.ensures.0) c.deliver.ensures.policy)

pub returns-in_err-deliver-clause-rest : goal.returns-in_err-deliver-clause-rest
returns-in_err-deliver-clause-rest c =
    let f : Found c.args.number c.index_of-i.result c.index_mut-client.result.now c.self.inside.all.items =
    found c.args.number c.index_of-i.result c.len.result c.self.inside.all.len c.index_mut-client.result.now c.deref.result.now c.self.inside.all.items c.index_of-i.ensures c.deref.ensures.value c.if-i-len.true c.len.ensures c.self.inside.all.ok.0 c.index_mut-client.ensures.value in
    rw (← c.self.view_is) (found-rest _ c.args.number c.index_of-i.result c.index_mut-client.result.now c.deliver.new.self c.self.inside.all.items _ _ _ _ _ _ f (none-noted _)
    (on-none c.from_residual.result _ c.from_residual.ensures.0) c.deliver.ensures.policy)
