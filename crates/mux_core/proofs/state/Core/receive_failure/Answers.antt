use Rattle.std.proofs.Common.{rules}
use Rattle.mux_core.proofs.ReceivesOpen.{failure-delivered, failure-early, failure-none}
use Rattle.mux_core.proofs.state.Core.receive_failure.Goals as goal

pub returns-in_default-clause-stands : goal.returns-in_default-clause-stands
returns-in_default-clause-stands c = λ rows up st e.
    failure-none c.args.self.now c.args.self.now c.args.number c.args.payload.now c.args.payload.now up rows st (search rules) e

pub returns-then-not-waits-clause-stands : goal.returns-then-not-waits-clause-stands
returns-then-not-waits-clause-stands c = λ rows up st e.
    failure-early c.args.self.now c.args.self.now c.args.number c.args.payload.now c.args.payload.now up c.in-Some.channel c.in-Some.ledger rows st (search rules) (search rules) e

pub returns-clause-stands : goal.returns-clause-stands
returns-clause-stands c = λ rows up st e.
    failure-delivered c.args.self.now c.free.new.self c.deliver.new.self c.args.number c.args.payload.now c.deliver.new.payload up c.in-Some.channel c.in-Some.ledger c.deliver.result rows st (search rules) (search rules) c.free.ensures c.deliver.ensures.goes e
