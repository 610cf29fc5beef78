use Rattle.std.proofs.Common.{◌≤◌, Some, [], sym, ap, ◌∙◌, append-nil, length, subst}
use Rattle.mux_peers.specs.State.{ClientState, ClientsState}
use Rattle.mux_peers.specs.Stands as stands
use Rattle.mux_peers.specs.Among.{Noting, client_index, is_present}
use Rattle.mux_peers.specs.Losing.{loss_between}
use Rattle.mux_peers.specs.Pieces.{ReceivesIn}
use Rattle.mux_peers.specs.Room.{HasRoom}
use Rattle.mux_peers.specs.Starved.{ReceivesSome, OneIs}
use Rattle.mux_peers.proofs.Found.{Found, cut-noted, found, found-changes, found-here, found-keeps, found-room, keeps-same, none-found, none-here}
use Rattle.mux_peers.proofs.Heeding.{applies_any, applies_err}
use Rattle.mux_peers.proofs.Noted.{loss-same}
use Rattle.mux_peers.proofs.Runs.{read-here}
use Rattle.mux_peers.proofs.Starved.{on-err, one-is}
use Rattle.mux_peers.proofs.clients.Clients.got.Goals as goal

pub returns-then-i-len-clause-receives : goal.returns-then-i-len-clause-receives
returns-then-i-len-clause-receives g c =
    let f : Found c.args.number c.index_of-i.result c.index_mut-client.result.now c.self.inside.all.items =
    found c.args.number c.index_of-i.result c.len.result c.self.inside.all.len c.index_mut-client.result.now c.deref.result.now c.self.inside.all.items c.index_of-i.ensures c.deref.ensures.value c.if-i-len.true c.len.ensures c.self.inside.all.ok.0 c.index_mut-client.ensures.value in
    rw (← c.self.view_is) (record {
      noted = loss_between c.standing-before.result c.standing.result c.args.number;
      leaves = c.in_ok-note_loss.ensures.notes;
      changes = λ here. found-changes c.args.number c.index_of-i.result
          (Noting c.args.number (loss_between c.standing-before.result c.standing.result c.args.number) (ReceivesIn g.H.Asks.may (Some c.args.asks.now) (Some c.got.new.asks) c.args.pid c.args.bytes.now c.args.core.now c.got.new.core c.args.up.now c.got.new.up c.in_ok-change.change))
          c.index_mut-client.result.now c.got.new.self c.self.inside.all.items f (record {
            goes = c.in_ok-change.ensures.receives;
            noted_is = loss-same c.standing-before.result c.standing.result _ _ c.args.number c.standing-before.ensures c.standing.ensures;
          });
    })

pub returns-clause-receives : goal.returns-clause-receives
returns-clause-receives g c =
    let away : length c.self.inside.all.items ≤ client_index c.args.number c.self.inside.all.items =
    none-found c.args.number c.index_of-i.result c.len.result c.self.inside.all.len c.deref.result.now c.self.inside.all.items c.index_of-i.ensures c.deref.ensures.value c.if-i-len.false c.len.ensures c.self.inside.all.ok.0 in
    record {
      noted = [];
      leaves = sym (append-nil c.args.self.now.leaving);
      changes = λ here. none-here c.args.number c.self.inside.all.items away (ap (λ (s : ClientsState). is_present s.all c.args.number) c.self.view_is ∙ here);
    }

pub returns-clause-keeps : goal.returns-clause-keeps
returns-clause-keeps g c = keeps-same c.args.self.now.all c.args.up.now

pub returns-then-i-len-clause-keeps : goal.returns-then-i-len-clause-keeps
returns-then-i-len-clause-keeps g c =
    let f : Found c.args.number c.index_of-i.result c.index_mut-client.result.now c.self.inside.all.items =
    found c.args.number c.index_of-i.result c.len.result c.self.inside.all.len c.index_mut-client.result.now c.deref.result.now c.self.inside.all.items c.index_of-i.ensures c.deref.ensures.value c.if-i-len.true c.len.ensures c.self.inside.all.ok.0 c.index_mut-client.ensures.value in
    rw (← c.self.view_is) (found-keeps c.args.number c.index_of-i.result c.index_mut-client.result.now c.got.new.self c.self.inside.all.items c.args.up.now c.got.new.up f c.in_ok-change.ensures.number c.in_ok-change.ensures.room)

pub got-requires : goal.got-requires
got-requires g c =
    let f : Found c.args.number c.index_of-i.result c.index_mut-client.result.now c.self.inside.all.items =
    found c.args.number c.index_of-i.result c.len.result c.self.inside.all.len c.index_mut-client.result.now c.deref.result.now c.self.inside.all.items c.index_of-i.ensures c.deref.ensures.value c.if-i-len.true c.len.ensures c.self.inside.all.ok.0 c.index_mut-client.ensures.value in
    record { room = λ here. found-room c.args.number c.index_of-i.result c.index_mut-client.result.now c.self.inside.all.items c.args.up.now f (subst (λ (s : ClientsState). HasRoom s.all c.args.up.now) (sym c.self.view_is) c.requires.room) (read-here _ here); ordering = c.requires.ordering }

pub returns-then-i-len-clause-absent : goal.returns-then-i-len-clause-absent
returns-then-i-len-clause-absent g c =
    let f : Found c.args.number c.index_of-i.result c.index_mut-client.result.now c.self.inside.all.items =
    found c.args.number c.index_of-i.result c.len.result c.self.inside.all.len c.index_mut-client.result.now c.deref.result.now c.self.inside.all.items c.index_of-i.ensures c.deref.ensures.value c.if-i-len.true c.len.ensures c.self.inside.all.ok.0 c.index_mut-client.ensures.value in
    λ gone. found-here c.args.number c.index_of-i.result c.index_mut-client.result.now c.self.inside.all.items f (ap (λ (s : ClientsState). is_present s.all c.args.number) c.self.view_is ∙ gone)

pub returns-then-i-len-clause-silent : goal.returns-then-i-len-clause-silent
returns-then-i-len-clause-silent g c =
    let f : Found c.args.number c.index_of-i.result c.index_mut-client.result.now c.self.inside.all.items =
    found c.args.number c.index_of-i.result c.len.result c.self.inside.all.len c.index_mut-client.result.now c.deref.result.now c.self.inside.all.items c.index_of-i.ensures c.deref.ensures.value c.if-i-len.true c.len.ensures c.self.inside.all.ok.0 c.index_mut-client.ensures.value in
    λ gone. found-here c.args.number c.index_of-i.result c.index_mut-client.result.now c.self.inside.all.items f (ap (λ (s : ClientsState). is_present s.all c.args.number) c.self.view_is ∙ gone)

pub returns-in_err-note_loss-clause-absent : goal.returns-in_err-note_loss-clause-absent
returns-in_err-note_loss-clause-absent g c =
    let f : Found c.args.number c.index_of-i.result c.index_mut-client.result.now c.self.inside.all.items =
    found c.args.number c.index_of-i.result c.len.result c.self.inside.all.len c.index_mut-client.result.now c.deref.result.now c.self.inside.all.items c.index_of-i.ensures c.deref.ensures.value c.if-i-len.true c.len.ensures c.self.inside.all.ok.0 c.index_mut-client.ensures.value in
    λ gone. found-here c.args.number c.index_of-i.result c.index_mut-client.result.now c.self.inside.all.items f (ap (λ (s : ClientsState). is_present s.all c.args.number) c.self.view_is ∙ gone)

pub returns-in_err-note_loss-clause-silent : goal.returns-in_err-note_loss-clause-silent
returns-in_err-note_loss-clause-silent g c =
    let f : Found c.args.number c.index_of-i.result c.index_mut-client.result.now c.self.inside.all.items =
    found c.args.number c.index_of-i.result c.len.result c.self.inside.all.len c.index_mut-client.result.now c.deref.result.now c.self.inside.all.items c.index_of-i.ensures c.deref.ensures.value c.if-i-len.true c.len.ensures c.self.inside.all.ok.0 c.index_mut-client.ensures.value in
    λ gone. found-here c.args.number c.index_of-i.result c.index_mut-client.result.now c.self.inside.all.items f (ap (λ (s : ClientsState). is_present s.all c.args.number) c.self.view_is ∙ gone)

pub returns-in_err-change-clause-absent : goal.returns-in_err-change-clause-absent
returns-in_err-change-clause-absent g c =
    let f : Found c.args.number c.index_of-i.result c.index_mut-client.result.now c.self.inside.all.items =
    found c.args.number c.index_of-i.result c.len.result c.self.inside.all.len c.index_mut-client.result.now c.deref.result.now c.self.inside.all.items c.index_of-i.ensures c.deref.ensures.value c.if-i-len.true c.len.ensures c.self.inside.all.ok.0 c.index_mut-client.ensures.value in
    λ gone. found-here c.args.number c.index_of-i.result c.index_mut-client.result.now c.self.inside.all.items f (ap (λ (s : ClientsState). is_present s.all c.args.number) c.self.view_is ∙ gone)

pub returns-in_err-change-clause-silent : goal.returns-in_err-change-clause-silent
returns-in_err-change-clause-silent g c =
    let f : Found c.args.number c.index_of-i.result c.index_mut-client.result.now c.self.inside.all.items =
    found c.args.number c.index_of-i.result c.len.result c.self.inside.all.len c.index_mut-client.result.now c.deref.result.now c.self.inside.all.items c.index_of-i.ensures c.deref.ensures.value c.if-i-len.true c.len.ensures c.self.inside.all.ok.0 c.index_mut-client.ensures.value in
    λ gone. found-here c.args.number c.index_of-i.result c.index_mut-client.result.now c.self.inside.all.items f (ap (λ (s : ClientsState). is_present s.all c.args.number) c.self.view_is ∙ gone)

pub returns-then-i-len-clause-applies : goal.returns-then-i-len-clause-applies
returns-then-i-len-clause-applies g c = applies_any _ c.in_ok-change.ensures.applies

pub returns-in_err-note_loss-clause-applies : goal.returns-in_err-note_loss-clause-applies
returns-in_err-note_loss-clause-applies g c = applies_any c.from_residual-in_err-note_loss.result c.in_ok-change.ensures.applies

pub returns-in_err-change-clause-applies : goal.returns-in_err-change-clause-applies
returns-in_err-change-clause-applies g c = applies_err c.from_residual.result c.from_residual.ensures.0 c.in_err-change.ensures.applies

-- ---- what was requested if memory ran out

pub returns-in_err-change-clause-cut : goal.returns-in_err-change-clause-cut
returns-in_err-change-clause-cut g c =
    let f : Found c.args.number c.index_of-i.result c.index_mut-client.result.now c.self.inside.all.items =
    found c.args.number c.index_of-i.result c.len.result c.self.inside.all.len c.index_mut-client.result.now c.deref.result.now c.self.inside.all.items c.index_of-i.ensures c.deref.ensures.value c.if-i-len.true c.len.ensures c.self.inside.all.ok.0 c.index_mut-client.ensures.value in
    let P : ClientState → Type 0 = ReceivesSome g.H.Asks.may (g.H.Asks.state c.args.house.now).recorded (g.H.Asks.state c.got.new.house).recorded c.args.pid c.args.bytes.now c.args.core.now c.args.up.now in
    on-err c.from_residual.result
    (subst (λ (s : ClientsState). OneIs c.args.number P s.all) c.self.view_is
    (one-is c.args.number c.index_of-i.result P c.index_mut-client.result.now c.self.inside.all.items f.place f.within (subst P f.is c.in_err-change.ensures.cut)))

pub returns-in_err-note_loss-clause-cut : goal.returns-in_err-note_loss-clause-cut
returns-in_err-note_loss-clause-cut g c =
    let f : Found c.args.number c.index_of-i.result c.index_mut-client.result.now c.self.inside.all.items =
    found c.args.number c.index_of-i.result c.len.result c.self.inside.all.len c.index_mut-client.result.now c.deref.result.now c.self.inside.all.items c.index_of-i.ensures c.deref.ensures.value c.if-i-len.true c.len.ensures c.self.inside.all.ok.0 c.index_mut-client.ensures.value in
    let P : ClientState → Type 0 = ReceivesSome g.H.Asks.may (g.H.Asks.state c.args.house.now).recorded (g.H.Asks.state c.got.new.house).recorded c.args.pid c.args.bytes.now c.args.core.now c.args.up.now in
    on-err c.from_residual-in_err-note_loss.result
    (subst (λ (s : ClientsState). OneIs c.args.number P s.all) c.self.view_is
    (cut-noted g.H.Asks.may c.args.pid c.args.bytes.now c.args.core.now c.got.new.core c.args.up.now c.got.new.up c.in_ok-change.change c.args.number c.index_of-i.result c.index_mut-client.result.now c.got.new.self c.self.inside.all.items f
    (ap stands.is_standing_lost (sym c.standing-before.ensures) ∙ c.in_err-note_loss.ensures.lost.0, ap stands.is_standing_lost (sym c.standing.ensures) ∙ c.in_err-note_loss.ensures.lost.1)
    c.in_ok-change.ensures.receives c.in_ok-change.ensures.applies))
