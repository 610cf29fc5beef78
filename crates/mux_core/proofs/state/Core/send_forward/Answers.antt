use Rattle.std.proofs.Common.{rules}
use Rattle.conn_messages.specs.Keys.{key_of}
use Rattle.mux_core.proofs.Asking.{forward-full, forward-goes, forward-not, refused-result}
use Rattle.mux_core.proofs.state.Core.send_forward.Goals as goal

pub returns-then-not-may_listen-clause-stands : goal.returns-then-not-may_listen-clause-stands
returns-then-not-may_listen-clause-stands c =
    refused-result c.args.self.now c.refuse_request.new.self c.args.client c.args.payload.now _ c.args.want c.args.up.now c.refuse_request.result c.refuse_request.ensures.verdict c.refuse_request.ensures.ok (forward-not c.args.self.now c.args.client c.args.payload.now (key_of c.args.key) c.args.want (search rules))

pub returns-in-Err-Full-clause-stands : goal.returns-in-Err-Full-clause-stands
returns-in-Err-Full-clause-stands c =
    refused-result c.args.self.now c.refuse_request-in-Err-Full.new.self c.args.client c.args.payload.now _ c.args.want c.args.up.now c.refuse_request-in-Err-Full.result (rw (← c.in-Err-Full.ensures.unchanged) c.refuse_request-in-Err-Full.ensures.verdict) (rw (← c.in-Err-Full.ensures.unchanged) c.refuse_request-in-Err-Full.ensures.ok) (forward-full c.args.self.now c.args.client c.args.payload.now (key_of c.args.key) c.args.want (search rules))

pub returns-clause-stands : goal.returns-clause-stands
returns-clause-stands c = rw c.in_ok-push_payload.ensures.ok (forward-goes c.args.self.now c.await_reply.new.self c.args.client c.args.payload.now (key_of c.args.key) c.args.want c.args.up.now (search rules) (search rules) (search rules))
