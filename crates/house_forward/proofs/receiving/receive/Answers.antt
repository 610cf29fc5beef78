use Rattle.std.proofs.Common.{◌≡◌, ◌∙◌, sym, ap, ℕ, List, true, false, Some, None}
use Rattle.std.specs.Option.{option_copied}
use Rattle.ssh_grammar.specs.ReadMessage.{read_message as reading}
use Rattle.ssh_fields.specs.Fields.{take_u32}
use Rattle.conn_messages.specs.declared.message.Opening.TheVariants as opens
use Rattle.conn_messages.specs.declared.key.Key.TheVariants as keys
use Rattle.house_forward.specs.RelayTraces.{port_in}
use Rattle.house_forward.proofs.Going.{on-ok}
use Rattle.house_forward.proofs.Leading.{channel_of, its-channel, a-forwarded, a-channel-message, a-success, a-failure, port-read}
use Rattle.house_forward.proofs.Leaving.{replied-more}
use Rattle.house_forward.proofs.receiving.receive.Goals as goal
use Rattle.house_forward.proofs.receiving.receive.Goals.{in-Confirmation, in-Confirmation-2, in-Confirmation-3, in-Confirmation-4, in-Confirmation-5, in-Confirmation-6, in-Confirmation-7, in-Confirmation-8, in-Confirmation-9, in-Confirmation-10}

pub returns-in-Open-default-default-default-default-default-Forwarded-Tcp-clause-goes :
    goal.returns-in-Open-default-default-default-default-default-Forwarded-Tcp-clause-goes
returns-in-Open-default-default-default-default-default-Forwarded-Tcp-clause-goes c =
    let o = c.in-Open-default-default-default-default-default-Forwarded-Tcp in
    let outer = rw o.is at o.what-is in
    let inner = rw (o.is, outer) at o.what-0-is in
    let what : o.what ≡ opens.Forwarded (keys.Tcp o.address o.port) = cc (outer, inner) in
    on-ok c.take_open.result (λ offered. a-forwarded (reading c.args.payload.now) c.in-Ok.message o.kind o.rest o.address o.sender o.window o.maximum o.port o.what
    (option_copied c.of_server.result) c.args.relays.now c.take_open.new.relays c.args.forwardings.now c.args.asks.now c.in-Ok.ensures.exact o.is what
    c.of_server.ensures c.take_open.ensures.others offered) c.take_open.ensures.offered

pub returns-in-Confirmation-clause-goes : goal.returns-in-Confirmation-clause-goes
returns-in-Confirmation-clause-goes c =
    let n = c.in-Confirmation-1.recipient in
    let its = λ (r : ℕ) (e : n ≡ r). ap (λ (k : ℕ). Some k) (sym e) in
    let channel : channel_of c.in-Ok.message ≡ Some n =
    elim c.in-Confirmation-1.branch [
      | in-Confirmation w ↦ its-channel c.in-Ok.message w.in-Confirmation.recipient w.in-Confirmation.is ∙ its w.in-Confirmation.recipient w.recipient-is
      | in-Confirmation-2 w ↦ its-channel c.in-Ok.message w.in-Confirmation.recipient w.in-Confirmation.is ∙ its w.in-Confirmation.recipient w.recipient-is
      | in-Confirmation-3 w ↦ its-channel c.in-Ok.message w.in-Confirmation.recipient w.in-Confirmation.is ∙ its w.in-Confirmation.recipient w.recipient-is
      | in-Confirmation-4 w ↦ its-channel c.in-Ok.message w.in-Confirmation.recipient w.in-Confirmation.is ∙ its w.in-Confirmation.recipient w.recipient-is
      | in-Confirmation-5 w ↦ its-channel c.in-Ok.message w.in-Confirmation.recipient w.in-Confirmation.is ∙ its w.in-Confirmation.recipient w.recipient-is
      | in-Confirmation-6 w ↦ its-channel c.in-Ok.message w.in-Confirmation.recipient w.in-Confirmation.is ∙ its w.in-Confirmation.recipient w.recipient-is
      | in-Confirmation-7 w ↦ its-channel c.in-Ok.message w.in-Confirmation.recipient w.in-Confirmation.is ∙ its w.in-Confirmation.recipient w.recipient-is
      | in-Confirmation-8 w ↦ its-channel c.in-Ok.message w.in-Confirmation.recipient w.in-Confirmation.is ∙ its w.in-Confirmation.recipient w.recipient-is
      | in-Confirmation-9 w ↦ its-channel c.in-Ok.message w.in-Confirmation.recipient w.in-Confirmation.is ∙ its w.in-Confirmation.recipient w.recipient-is
      | in-Confirmation-10 w ↦ its-channel c.in-Ok.message w.in-Confirmation.recipient w.in-Confirmation.is ∙ its w.in-Confirmation.recipient w.recipient-is
    ] in
    on-ok c.receive.result (λ heard. a-channel-message (reading c.args.payload.now) c.in-Ok.message n c.args.relays.now c.receive.new.self c.args.forwardings.now c.args.asks.now
    c.in-Ok.ensures.exact channel heard) c.receive.ensures.receives

pub returns-in-RequestSuccess-clause-goes : goal.returns-in-RequestSuccess-clause-goes
returns-in-RequestSuccess-clause-goes c =
    let m = c.in-RequestSuccess in
    let read = c.take_u32-port in
    a-success (reading c.args.payload.now) c.in-Ok.message m.rest read.result c.args.relays.now c.args.forwardings.now c.args.asks.now
    c.replied.new.self c.replied.new.asks c.in-Ok.ensures.exact m.is
    (port-read read.result c.new.result read.new.self read.ensures.ok read.ensures.short ∙ ap (λ (b : List ℕ). port_in (take_u32 b)) c.new.ensures)
    c.replied.ensures

pub returns-in-RequestFailure-clause-goes : goal.returns-in-RequestFailure-clause-goes
returns-in-RequestFailure-clause-goes c =
    let r = c.replied-in-RequestFailure in
    a-failure (reading c.args.payload.now) c.in-Ok.message c.args.relays.now c.args.forwardings.now c.args.asks.now r.new.self r.new.asks
    c.in-Ok.ensures.exact c.in-RequestFailure.is r.ensures

pub returns-in-RequestSuccess-clause-open : goal.returns-in-RequestSuccess-clause-open
returns-in-RequestSuccess-clause-open c =
    let r = c.replied in
    (replied-more true c.take_u32-port.result c.args.forwardings.now c.args.asks.now r.new.self r.new.asks r.ensures).same.asks

pub returns-in-RequestSuccess-clause-asked : goal.returns-in-RequestSuccess-clause-asked
returns-in-RequestSuccess-clause-asked c =
    let r = c.replied in
    (replied-more true c.take_u32-port.result c.args.forwardings.now c.args.asks.now r.new.self r.new.asks r.ensures).same.count

pub returns-in-RequestSuccess-clause-listeners : goal.returns-in-RequestSuccess-clause-listeners
returns-in-RequestSuccess-clause-listeners c =
    let r = c.replied in
    (replied-more true c.take_u32-port.result c.args.forwardings.now c.args.asks.now r.new.self r.new.asks r.ensures).listeners

pub returns-in-RequestSuccess-clause-fewer : goal.returns-in-RequestSuccess-clause-fewer
returns-in-RequestSuccess-clause-fewer c =
    let r = c.replied in
    (replied-more true c.take_u32-port.result c.args.forwardings.now c.args.asks.now r.new.self r.new.asks r.ensures).fewer

pub returns-in-RequestFailure-clause-open : goal.returns-in-RequestFailure-clause-open
returns-in-RequestFailure-clause-open c =
    let r = c.replied-in-RequestFailure in
    (replied-more false None c.args.forwardings.now c.args.asks.now r.new.self r.new.asks r.ensures).same.asks

pub returns-in-RequestFailure-clause-asked : goal.returns-in-RequestFailure-clause-asked
returns-in-RequestFailure-clause-asked c =
    let r = c.replied-in-RequestFailure in
    (replied-more false None c.args.forwardings.now c.args.asks.now r.new.self r.new.asks r.ensures).same.count

pub returns-in-RequestFailure-clause-listeners : goal.returns-in-RequestFailure-clause-listeners
returns-in-RequestFailure-clause-listeners c =
    let r = c.replied-in-RequestFailure in
    (replied-more false None c.args.forwardings.now c.args.asks.now r.new.self r.new.asks r.ensures).listeners

pub returns-in-RequestFailure-clause-fewer : goal.returns-in-RequestFailure-clause-fewer
returns-in-RequestFailure-clause-fewer c =
    let r = c.replied-in-RequestFailure in
    (replied-more false None c.args.forwardings.now c.args.asks.now r.new.self r.new.asks r.ensures).fewer
