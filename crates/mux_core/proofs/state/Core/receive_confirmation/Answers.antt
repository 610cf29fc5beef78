use Rattle.std.proofs.Common.{rules, arith, ◌≡◌, ◌<◌, ◌++◌, sym, ap, ◌∙◌, true, false}
use Rattle.std.specs.Prelude.{is_some}
use Rattle.ssh_grammar.specs.Frames.{frame_payload}
use Rattle.ssh_grammar.specs.SpellMessage.{close}
use Rattle.proxy_frames.specs.State.{QueueState}
use Rattle.window_ledger.specs.Leaving.{ledger_after_close}
use Rattle.window_ledger.specs.Stands.{IsConfirmed}
use Rattle.channel_table.specs.Entries.{changed_at, number_of_remote, with_ledger}
use Rattle.mux_core.specs.State.{CoreState}
use Rattle.mux_core.specs.Lookups.{waits}
use Rattle.mux_core.specs.Settling.{is_lost_in, client_settled}
use Rattle.mux_core.proofs.Confirms.{confirm_remote}
use Rattle.mux_core.proofs.Naming.{is-unused, is-used, remote-named}
use Rattle.mux_core.proofs.ReceivesConfirmation.{confirmation-early, confirmation-given, confirmation-lost, confirmation-none, confirmation-used, idle-ledger}
use Rattle.mux_core.proofs.state.Core.receive_confirmation.Goals as goal

pub returns-in_default-clause-stands : goal.returns-in_default-clause-stands
returns-in_default-clause-stands c = λ rows st e.
    confirmation-none c.args.self.now c.args.self.now c.args.number c.args.remote c.args.window c.args.maximum c.args.payload.now c.args.payload.now c.args.up.now rows st (search rules) e

pub returns-then-not-waits-clause-stands : goal.returns-then-not-waits-clause-stands
returns-then-not-waits-clause-stands c = λ rows st e.
    confirmation-early c.args.self.now c.args.self.now c.args.number c.args.remote c.args.window c.args.maximum c.args.payload.now c.args.payload.now c.args.up.now c.in-Some.channel c.in-Some.ledger rows st (search rules) (search rules) e

pub returns-then-not-branch-clause-stands : goal.returns-then-not-branch-clause-stands
returns-then-not-branch-clause-stands c = λ rows st e.
    let pend : waits c.in-Some.channel c.in-Some.ledger ≡ true = search rules in
    let used : is_some (number_of_remote c.args.self.now.channels c.args.remote) ≡ true = is-used c.in_ok-name_remote.field-0 _ c.in_ok-name_remote.ensures.exact c.if-not-branch.true in
    confirmation-used c.args.self.now c.name_remote.new.self c.args.number c.args.remote c.args.window c.args.maximum c.args.payload.now c.args.payload.now c.args.up.now c.in-Some.channel c.in-Some.ledger rows st (search rules) pend used e

pub returns-then-is_lost-clause-stands : goal.returns-then-is_lost-clause-stands
returns-then-is_lost-clause-stands c = λ rows st e.
    let pend : waits c.in-Some.channel c.in-Some.ledger ≡ true = search rules in
    let unused : is_some (number_of_remote c.args.self.now.channels c.args.remote) ≡ false = is-unused c.in_ok-name_remote.field-0 _ c.in_ok-name_remote.ensures.exact c.if-not-branch.false in
    let lost : is_lost_in c.args.self.now.clients c.in-Some.channel.client ≡ true = ap (λ (u : CoreState). is_lost_in u.clients c.in-Some.channel.client) (sym c.in_ok-name_remote.ensures.ok) ∙ sym c.if-is_lost.ensures in
    let small : c.args.remote < 4294967296 = omega arith in
    let payload : c.as_bytes.result.now ≡ close c.args.remote = search rules in
    let sent : c.push_payload.new.self.waiting ≡ c.args.up.now.waiting ++ frame_payload (close c.args.remote) =
    ap (λ (q : QueueState). q.waiting) c.in_ok-push_payload.ensures.ok ∙ ap (λ p. c.args.up.now.waiting ++ frame_payload p) payload in
    let given : IsConfirmed c.in-Some.ledger c.confirmed_ledger-given.result c.args.window c.args.maximum = c.confirmed_ledger-given.ensures.stands (idle-ledger c.in-Some.channel c.in-Some.ledger pend) in
    let set : c.set_ledger.new.self ≡ record c.name_remote.new.self { channels = changed_at c.args.number (with_ledger (ledger_after_close c.confirmed_ledger-given.result)) c.name_remote.new.self.channels } =
    c.set_ledger.ensures ∙ ap (λ l. let u : CoreState = record c.name_remote.new.self { channels = changed_at c.args.number (with_ledger l) c.name_remote.new.self.channels } in u) c.left.ensures.value in
    let named = remote-named c.args.self.now c.name_remote.new.self c.set_ledger.new.self c.in_ok-name_remote.field-0 c.args.number c.args.remote (ledger_after_close c.confirmed_ledger-given.result) c.if-not-branch.false c.in_ok-name_remote.ensures.ok set in
    let after : c.settle.new.self ≡ client_settled (record c.args.self.now { channels = changed_at c.args.number (confirm_remote c.args.remote (ledger_after_close c.confirmed_ledger-given.result)) c.args.self.now.channels }) c.in-Some.channel.client =
    c.settle.ensures ∙ ap (λ (s : CoreState). client_settled s c.in-Some.channel.client) named in
    confirmation-lost c.args.self.now c.settle.new.self c.args.number c.args.remote c.args.window c.args.maximum c.args.payload.now c.args.payload.now c.args.up.now c.push_payload.new.self c.in-Some.channel c.in-Some.ledger c.confirmed_ledger-given.result rows st (search rules) lost pend unused small given c.confirmed_ledger-given.ensures.confirmed c.confirmed_ledger-given.ensures.left sent after e

pub returns-clause-stands : goal.returns-clause-stands
returns-clause-stands c = λ rows st e.
    let pend : waits c.in-Some.channel c.in-Some.ledger ≡ true = search rules in
    let unused : is_some (number_of_remote c.args.self.now.channels c.args.remote) ≡ false = is-unused c.in_ok-name_remote.field-0 _ c.in_ok-name_remote.ensures.exact c.if-not-branch.false in
    let here : is_lost_in c.args.self.now.clients c.in-Some.channel.client ≡ false = ap (λ (u : CoreState). is_lost_in u.clients c.in-Some.channel.client) (sym c.in_ok-name_remote.ensures.ok) ∙ sym c.if-is_lost.ensures in
    let small : c.args.remote < 4294967296 = omega arith in
    let given : IsConfirmed c.in-Some.ledger c.confirmed_ledger-given.result c.args.window c.args.maximum = c.confirmed_ledger-given.ensures.stands (idle-ledger c.in-Some.channel c.in-Some.ledger pend) in
    let after = remote-named c.args.self.now c.name_remote.new.self c.set_ledger-2.new.self c.in_ok-name_remote.field-0 c.args.number c.args.remote c.confirmed_ledger-given.result c.if-not-branch.false c.in_ok-name_remote.ensures.ok c.set_ledger-2.ensures in
    rw (c.put_recipient.ensures, c.unwrap_or.ensures) (confirmation-given c.args.self.now c.set_ledger-2.new.self c.args.number c.args.remote c.args.window c.args.maximum c.args.payload.now c.args.up.now c.in-Some.channel c.in-Some.ledger c.confirmed_ledger-given.result rows st (search rules) here pend unused small given c.confirmed_ledger-given.ensures.confirmed after e)
