use Rattle.std.proofs.Common.{rules}
use Rattle.mux_core.proofs.SendsRequests.{alive-unwanted, alive-wanted}
use Rattle.mux_core.proofs.state.Core.send_alive.Goals as goal

pub returns-then-want-clause-stands : goal.returns-then-want-clause-stands
returns-then-want-clause-stands c = rw (c.if-want.true, c.in_ok-push_payload.ensures.ok) (alive-wanted c.args.self.now c.await_reply.new.self c.args.client c.args.payload.now c.args.up.now (search rules))

pub returns-clause-stands : goal.returns-clause-stands
returns-clause-stands c = rw (c.if-want.false, c.in_ok-push_payload-2.ensures.ok) (alive-unwanted c.args.self.now c.args.client c.args.payload.now c.args.up.now)
