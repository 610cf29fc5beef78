use Rattle.std.proofs.Common.{rules, sym, refl}
use Rattle.conn_messages.specs.Keys.{key_of}
use Rattle.mux_core.proofs.Asking.{cancel-not, refused-result}
use Rattle.mux_core.proofs.SendsRequests.{cancel-unwanted, cancel-wanted}
use Rattle.mux_core.proofs.state.Core.send_cancel.Goals as goal

pub returns-then-not-cancel_forward-clause-stands : goal.returns-then-not-cancel_forward-clause-stands
returns-then-not-cancel_forward-clause-stands c =
    refused-result c.args.self.now c.refuse_request.new.self c.args.client c.args.payload.now _ c.args.want c.args.up.now c.refuse_request.result (rw (← c.if-not-cancel_forward.ensures.none refl) c.refuse_request.ensures.verdict) (rw (← c.if-not-cancel_forward.ensures.none refl) c.refuse_request.ensures.ok) (cancel-not c.args.self.now c.args.client c.args.payload.now (key_of c.args.key) c.args.want (sym c.if-not-cancel_forward.ensures.exact))

pub returns-then-want-clause-stands : goal.returns-then-want-clause-stands
returns-then-want-clause-stands c = rw (c.if-want.true, c.in_ok-push_payload.ensures.ok) (cancel-wanted c.args.self.now c.await_reply.new.self c.args.client c.args.payload.now (key_of c.args.key) c.args.up.now (sym c.if-not-cancel_forward.ensures.exact) (search rules))

pub returns-clause-stands : goal.returns-clause-stands
returns-clause-stands c = rw (c.if-want.false, c.in_ok-push_payload-2.ensures.ok) (cancel-unwanted c.args.self.now c.cancel_forward.new.self c.args.client c.args.payload.now (key_of c.args.key) c.args.up.now (sym c.if-not-cancel_forward.ensures.exact) (search rules))
