use Rattle.std.proofs.Common.{rules, ◌≡◌, ◌++◌, ap, ◌∙◌, Ok, true, false}
use Rattle.ssh_grammar.specs.Frames.{frame_payload}
use Rattle.ssh_grammar.specs.SpellMessage.{request_failure}
use Rattle.proxy_frames.specs.State.{QueueState}
use Rattle.conn_messages.specs.Message.{grammar_request_of}
use Rattle.mux_history.specs.Summary.{Requests}
use Rattle.mux_core.proofs.ReceivesRequest.{request-passed, request-refused}
use Rattle.mux_core.proofs.state.Core.receive_request.Goals as goal

pub returns-then-not-want-clause-stands : goal.returns-then-not-want-clause-stands
returns-then-not-want-clause-stands c = λ rows st e.
    let plain : c.args.want ≡ false = search rules in
    request-passed c.args.self.now (grammar_request_of c.args.what) c.args.payload.now c.args.payload.now c.args.up.now rows st (e ∙ ap (λ b. Ok (Requests (grammar_request_of c.args.what) b)) plain)

pub returns-clause-stands : goal.returns-clause-stands
returns-clause-stands c = λ rows st e.
    let wanted : c.args.want ≡ true = search rules in
    let payload : c.as_bytes.result.now ≡ request_failure = search rules in
    let sent : c.push_payload.new.self.waiting ≡ c.args.up.now.waiting ++ frame_payload request_failure =
    ap (λ (q : QueueState). q.waiting) c.in_ok-push_payload.ensures.ok ∙ ap (λ p. c.args.up.now.waiting ++ frame_payload p) payload in
    request-refused c.args.self.now (grammar_request_of c.args.what) c.args.payload.now c.args.payload.now c.args.up.now c.push_payload.new.self rows st (e ∙ ap (λ b. Ok (Requests (grammar_request_of c.args.what) b)) wanted) sent
