use Rattle.std.proofs.Common.{rules, refl}
use Rattle.ssh_grammar.specs.Messages.{OtherName}
use Rattle.conn_messages.specs.Message.{grammar_request_of}
use Rattle.mux_core.proofs.Asking.{refused-result, roomy-result}
use Rattle.mux_core.proofs.SendsRequests.{too-many}
use Rattle.mux_core.proofs.state.Core.send_request.Goals as goal

pub returns-then-is_full-clause-stands : goal.returns-then-is_full-clause-stands
returns-then-is_full-clause-stands c = too-many c.args.self.now c.args.client c.args.payload.now (grammar_request_of c.args.what) c.args.want c.args.up.now (search rules)

pub returns-in-Other-clause-stands : goal.returns-in-Other-clause-stands
returns-in-Other-clause-stands c = rw c.in-Other.is (roomy-result c.args.self.now c.refuse_request.new.self c.args.client c.args.payload.now OtherName c.args.want c.args.up.now c.args.up.now c.refuse_request.result (search rules) (refused-result c.args.self.now c.refuse_request.new.self c.args.client c.args.payload.now OtherName c.args.want c.args.up.now c.refuse_request.result c.refuse_request.ensures.verdict c.refuse_request.ensures.ok (λ rows st. refl)))
