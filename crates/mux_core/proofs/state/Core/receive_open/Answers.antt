use Rattle.std.proofs.Common.{rules, arith, ◌≡◌, ◌<◌, ◌++◌, ap, ◌∙◌, Some, None, false}
use Rattle.std.specs.Prelude.{is_some}
use Rattle.ssh_grammar.specs.declared.numbers.TheConstants.{ADMINISTRATIVELY_PROHIBITED, RESOURCE_SHORTAGE}
use Rattle.ssh_grammar.specs.Frames.{frame_payload}
use Rattle.ssh_grammar.specs.SpellMessage.{not_permitted, open_failure, too_many_channels}
use Rattle.proxy_frames.specs.State.{QueueState}
use Rattle.conn_messages.specs.Message.{opening_of}
use Rattle.channel_table.specs.Entries.{number_of_remote}
use Rattle.mux_core.specs.Opening.{owner_for}
use Rattle.mux_core.proofs.ReceivesOpens.{open-full, open-given, open-refused, open-used, reads-refusal, reads-shortage, remote-full, remote-room}
use Rattle.mux_core.proofs.state.Core.receive_open.Goals as goal

pub returns-then-uses_remote-clause-stands : goal.returns-then-uses_remote-clause-stands
returns-then-uses_remote-clause-stands c = λ rows st e.
    open-used c.args.self.now c.args.self.now c.args.sender c.args.window c.args.maximum (opening_of c.args.what.now) c.args.payload.now c.args.payload.now c.args.up.now rows st (search rules) e

pub returns-in_default-clause-stands : goal.returns-in_default-clause-stands
returns-in_default-clause-stands c = λ rows st e.
    let small : c.args.sender < 4294967296 = omega arith in
    let free : is_some (number_of_remote c.args.self.now.channels c.args.sender) ≡ false = search rules in
    let nobody : owner_for (opening_of c.args.what.now) c.args.self.now.forwards ≡ None = search rules in
    let payload : c.as_bytes.result.now ≡ open_failure c.args.sender ADMINISTRATIVELY_PROHIBITED not_permitted = search rules in
    let sent : c.push_payload.new.self.waiting ≡ c.args.up.now.waiting ++ frame_payload (open_failure c.args.sender ADMINISTRATIVELY_PROHIBITED not_permitted) =
    ap (λ (q : QueueState). q.waiting) c.in_ok-push_payload.ensures.ok ∙ ap (λ p. c.args.up.now.waiting ++ frame_payload p) payload in
    open-refused c.args.self.now c.args.sender c.args.window c.args.maximum (opening_of c.args.what.now) c.args.payload.now c.args.payload.now c.args.up.now c.push_payload.new.self rows st free nobody e (reads-refusal c.args.sender small) sent

pub returns-in-Ok-clause-stands : goal.returns-in-Ok-clause-stands
returns-in-Ok-clause-stands c = λ rows st e.
    let small : c.args.sender < 4294967296 = omega arith in
    let free : is_some (number_of_remote c.args.self.now.channels c.args.sender) ≡ false = search rules in
    let owner : owner_for (opening_of c.args.what.now) c.args.self.now.forwards ≡ Some c.in-Some.client = search rules in
    let room = remote-room c.args.self.now.channels c.in-Some.client c.args.sender free c.in-Ok.ensures.exact in
    open-given c.args.self.now c.add_remote.new.self c.in-Some.client c.in-Ok.field-0 c.args.sender c.args.window c.args.maximum (opening_of c.args.what.now) c.args.payload.now c.opened-ledger.result c.args.up.now rows st free owner room small c.in-Ok.ensures.fresh c.opened-ledger.ensures.confirmed c.opened-ledger.ensures.stands c.in-Ok.ensures.ok e

pub returns-clause-stands : goal.returns-clause-stands
returns-clause-stands c = λ rows st e.
    let small : c.args.sender < 4294967296 = omega arith in
    let free : is_some (number_of_remote c.args.self.now.channels c.args.sender) ≡ false = search rules in
    let owner : owner_for (opening_of c.args.what.now) c.args.self.now.forwards ≡ Some c.in-Some.client = search rules in
    let full = remote-full c.args.self.now.channels c.in-Some.client c.args.sender c.in-Err-Full.field-0-0 free (search rules) in
    let payload : c.as_bytes-2.result.now ≡ open_failure c.args.sender RESOURCE_SHORTAGE too_many_channels = search rules in
    let sent : c.push_payload-2.new.self.waiting ≡ c.args.up.now.waiting ++ frame_payload (open_failure c.args.sender RESOURCE_SHORTAGE too_many_channels) =
    ap (λ (q : QueueState). q.waiting) c.in_ok-push_payload-2.ensures.ok ∙ ap (λ p. c.args.up.now.waiting ++ frame_payload p) payload in
    rw c.in-Err-Full.ensures.unchanged (open-full c.args.self.now c.in-Some.client c.args.sender c.args.window c.args.maximum (opening_of c.args.what.now) c.args.payload.now c.args.payload.now c.args.up.now c.push_payload-2.new.self rows st free owner full e (reads-shortage c.args.sender small) sent)
