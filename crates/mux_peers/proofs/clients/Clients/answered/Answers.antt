use Rattle.std.proofs.Common.{sym, subst}
use Rattle.mux_peers.specs.State.{ClientsState}
use Rattle.mux_peers.specs.Answering.{AnswersNoting}
use Rattle.mux_peers.specs.Room.{HasRoom}
use Rattle.mux_peers.proofs.Found.{Found, found, found-goes, found-keeps, found-rest, found-room, none-goes, none-noted, none-present, none-rest}
use Rattle.mux_peers.proofs.Heeding.{on-none}
use Rattle.mux_peers.proofs.Noted.{loss-same}
use Rattle.mux_peers.proofs.clients.Clients.answered.Goals as goal

pub returns-in_ok-note_loss-clause-answers : goal.returns-in_ok-note_loss-clause-answers
returns-in_ok-note_loss-clause-answers c =
    let f : Found c.args.number c.index_of-i.result c.index_mut-client.result.now c.self.inside.all.items =
    found c.args.number c.index_of-i.result c.len.result c.self.inside.all.len c.index_mut-client.result.now c.deref.result.now c.self.inside.all.items c.index_of-i.ensures c.deref.ensures.value c.if-i-len.true c.len.ensures c.self.inside.all.ok.0 c.index_mut-client.ensures.value in
    rw (← c.self.view_is) (found-goes c.args.number c.index_of-i.result
    (λ noted. AnswersNoting c.args.number c.args.id c.args.reply noted c.args.core.now c.answered.new.core c.args.up.now c.answered.new.up)
    c.standing-before.result c.standing.result c.index_mut-client.result.now c.answered.new.self c.self.inside.all.items _ _ _ _ _ _ f c.in_ok-note_loss.ensures.notes (record {
      answers = c.in_ok-answered.ensures.answers;
      noted_is = loss-same c.standing-before.result c.standing.result _ _ c.args.number c.standing-before.ensures c.standing.ensures;
    }) c.in_ok-answered.ensures.answers.number c.answered.ensures.reads)

pub returns-else-i-len-clause-answers : goal.returns-else-i-len-clause-answers
returns-else-i-len-clause-answers c = none-goes _ _ _ _ _
    (none-present c.args.number c.index_of-i.result c.len.result c.self.inside.all.len c.deref.result.now c.self.inside.all.items c.self.inside.leaving.items c.args.self.now c.self.view_is c.index_of-i.ensures c.deref.ensures.value c.if-i-len.false c.len.ensures c.self.inside.all.ok.0)

pub answered-requires : goal.answered-requires
answered-requires c =
    let f : Found c.args.number c.index_of-i.result c.index_mut-client.result.now c.self.inside.all.items =
    found c.args.number c.index_of-i.result c.len.result c.self.inside.all.len c.index_mut-client.result.now c.deref.result.now c.self.inside.all.items c.index_of-i.ensures c.deref.ensures.value c.if-i-len.true c.len.ensures c.self.inside.all.ok.0 c.index_mut-client.ensures.value in
    record { room = λ here. found-room c.args.number c.index_of-i.result c.index_mut-client.result.now c.self.inside.all.items c.args.up.now f (subst (λ (s : ClientsState). HasRoom s.all c.args.up.now) (sym c.self.view_is) c.requires.room) here }

-- ---- what stays

pub returns-else-i-len-clause-rest : goal.returns-else-i-len-clause-rest
returns-else-i-len-clause-rest c = none-rest _ _ _ _ _

pub returns-in_ok-note_loss-clause-rest : goal.returns-in_ok-note_loss-clause-rest
returns-in_ok-note_loss-clause-rest c =
    let f : Found c.args.number c.index_of-i.result c.index_mut-client.result.now c.self.inside.all.items =
    found c.args.number c.index_of-i.result c.len.result c.self.inside.all.len c.index_mut-client.result.now c.deref.result.now c.self.inside.all.items c.index_of-i.ensures c.deref.ensures.value c.if-i-len.true c.len.ensures c.self.inside.all.ok.0 c.index_mut-client.ensures.value in
    rw (← c.self.view_is) (found-rest _ c.args.number c.index_of-i.result c.index_mut-client.result.now c.answered.new.self c.self.inside.all.items _ _ _ _ _ _ f c.note_loss.ensures.more
    (found-keeps c.args.number c.index_of-i.result c.index_mut-client.result.now c.answered.new.self c.self.inside.all.items c.args.up.now c.answered.new.up f c.in_ok-answered.ensures.answers.number c.in_ok-answered.ensures.room) c.answered.ensures.policy)

pub returns-in_err-note_loss-clause-rest : goal.returns-in_err-note_loss-clause-rest
returns-in_err-note_loss-clause-rest c =
    let f : Found c.args.number c.index_of-i.result c.index_mut-client.result.now c.self.inside.all.items =
    found c.args.number c.index_of-i.result c.len.result c.self.inside.all.len c.index_mut-client.result.now c.deref.result.now c.self.inside.all.items c.index_of-i.ensures c.deref.ensures.value c.if-i-len.true c.len.ensures c.self.inside.all.ok.0 c.index_mut-client.ensures.value in
    rw (← c.self.view_is) (found-rest _ c.args.number c.index_of-i.result c.index_mut-client.result.now c.answered.new.self c.self.inside.all.items _ _ _ _ _ _ f c.note_loss.ensures.more
    (on-none c.from_residual-in_err-note_loss.result _ c.from_residual-in_err-note_loss.ensures.0) c.answered.ensures.policy)

pub returns-in_err-answered-clause-rest : goal.returns-in_err-answered-clause-rest
returns-in_err-answered-clause-rest c =
    let f : Found c.args.number c.index_of-i.result c.index_mut-client.result.now c.self.inside.all.items =
    found c.args.number c.index_of-i.result c.len.result c.self.inside.all.len c.index_mut-client.result.now c.deref.result.now c.self.inside.all.items c.index_of-i.ensures c.deref.ensures.value c.if-i-len.true c.len.ensures c.self.inside.all.ok.0 c.index_mut-client.ensures.value in
    rw (← c.self.view_is) (found-rest _ c.args.number c.index_of-i.result c.index_mut-client.result.now c.answered.new.self c.self.inside.all.items _ _ _ _ _ _ f (none-noted _)
    (on-none c.from_residual.result _ c.from_residual.ensures.0) c.answered.ensures.policy)
