use Rattle.std.proofs.Common.{rules, sym, None}
use Rattle.global_replies.specs.Replies.{FirstAsked}
use Rattle.conn_messages.specs.Message.{grammar_request_of}
use Rattle.mux_core.proofs.ReceivesReplies.{none-asked, refusal-late, refusal-nobody, refusal-served}
use Rattle.mux_core.proofs.state.Core.receive_refusal.Goals as goal

pub returns-in_default-clause-stands : goal.returns-in_default-clause-stands
returns-in_default-clause-stands c = λ rows st e.
    let none : FirstAsked c.args.self.now.asks None = search rules in
    refusal-nobody c.args.self.now c.take_asker.new.self c.args.payload.now c.args.payload.now c.args.up.now rows st (none-asked c.args.self.now.asks none) e

pub returns-then-is_lost-clause-stands : goal.returns-then-is_lost-clause-stands
returns-then-is_lost-clause-stands c =
    refusal-late c.args.self.now c.take_asker.new.self c.receive_late.new.self c.in-Some.client c.in-Some.ask (grammar_request_of c.as_request-request.result) _ c.args.payload.now c.args.up.now c.receive_late.new.up c.receive_late.result c.in-Some.ensures.first c.take_asker.ensures.rest c.as_request-request.ensures (sym c.if-is_lost.ensures) c.late_refusal.ensures.exact c.receive_late.ensures.to c.receive_late.ensures.ok c.receive_late.ensures.sent

pub returns-clause-stands : goal.returns-clause-stands
returns-clause-stands c =
    refusal-served c.args.self.now c.take_asker.new.self c.fail.new.self c.pass_on.new.self c.in-Some.client c.in-Some.ask (grammar_request_of c.as_request-request.result) c.args.payload.now c.args.up.now c.pass_on.result c.in-Some.ensures.first c.take_asker.ensures.rest c.as_request-request.ensures (sym c.if-is_lost.ensures) c.fail.ensures c.pass_on.ensures.left c.pass_on.ensures.to
