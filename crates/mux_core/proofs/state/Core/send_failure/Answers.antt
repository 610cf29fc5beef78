use Rattle.std.proofs.Common.{rules}
use Rattle.mux_core.proofs.SendsFailure.{refuses, refuses-none}
use Rattle.mux_core.proofs.state.Core.send_failure.Goals as goal

pub returns-in_default-clause-stands : goal.returns-in_default-clause-stands
returns-in_default-clause-stands c = λ rows st serves e.
    refuses-none c.args.self.now c.args.client c.args.remote c.args.payload.now c.args.up.now rows st (search rules) e

pub returns-clause-stands : goal.returns-clause-stands
returns-clause-stands c = λ rows st serves e.
    rw c.in_ok-push_payload.ensures.ok (refuses c.args.self.now c.free.new.self c.args.client c.args.remote c.in-Some.number c.in-Some.field-0-1 c.args.payload.now c.args.up.now rows st serves (search rules) c.free.ensures e)
