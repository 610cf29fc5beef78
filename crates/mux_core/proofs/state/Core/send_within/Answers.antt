use Rattle.std.proofs.Common.{rules}
use Rattle.ssh_grammar.specs.declared.side.Side.TheVariants.{Up}
use Rattle.window_ledger.specs.Act.{summary_act_of}
use Rattle.mux_core.proofs.Acts.{ActsOn, plain-act, no-failure}
use Rattle.mux_core.proofs.SendsWithin.{not-yours, breaks-account, is-sent}
use Rattle.mux_core.proofs.state.Core.send_within.Goals as goal

pub returns-in_default-clause-stands : goal.returns-in_default-clause-stands
returns-in_default-clause-stands c = λ rows st serves e.
    not-yours c.args.self.now c.args.client c.args.remote _ c.args.payload.now c.args.up.now rows st (search rules) (no-failure c.args.act) e

pub returns-in-Err-clause-stands : goal.returns-in-Err-clause-stands
returns-in-Err-clause-stands c = λ rows st serves e.
    breaks-account c.args.self.now c.args.client c.args.remote c.in-Some.number c.in-Some.ledger _ c.args.payload.now c.args.up.now c.in-Err.why rows st (search rules) (search rules) (no-failure c.args.act) e

pub returns-clause-stands : goal.returns-clause-stands
returns-clause-stands c = λ rows st serves e.
    let acts : ActsOn Up (summary_act_of c.args.act) c.in-Some.ledger c.take.new.self c.put.ensures.over = record { goes = search rules; ends = c.put.ensures.closed; confirmed = c.take.ensures.confirmed; fine = plain-act c.args.act } in
    rw c.in_ok-push_payload.ensures.ok (is-sent c.args.self.now c.put.new.self c.args.client c.args.remote c.in-Some.number c.in-Some.ledger c.take.new.self c.put.ensures.over (summary_act_of c.args.act) c.args.payload.now c.args.up.now rows st serves (search rules) (search rules) acts (no-failure c.args.act) c.put.ensures.after e)
