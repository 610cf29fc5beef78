use Rattle.std.proofs.Common.{rules}
use Rattle.ssh_grammar.specs.declared.side.Side.TheVariants.{Down}
use Rattle.window_ledger.specs.Act.{summary_act_of}
use Rattle.mux_core.proofs.Acts.{ActsOn, plain-act, no-failure}
use Rattle.mux_core.proofs.ChannelReceived.{shown-entry, shown-none}
use Rattle.mux_core.proofs.ReceivesWithin.{breaks, nobody, within-delivered}
use Rattle.mux_core.proofs.state.Core.receive_within.Goals as goal

pub returns-in_default-clause-stands : goal.returns-in_default-clause-stands
returns-in_default-clause-stands c = λ rows up st e.
    nobody c.args.self.now c.args.self.now c.args.number (summary_act_of c.args.act) c.args.payload.now c.args.payload.now up rows st (shown-none c.args.self.now.channels c.args.number st.channels.apart (search rules)) (no-failure c.args.act) e

pub returns-in-Err-clause-stands : goal.returns-in-Err-clause-stands
returns-in-Err-clause-stands c = λ rows up st e.
    let sh = shown-entry c.args.self.now.channels c.args.number c.in-Some.channel c.in-Some.ledger st.channels.apart (search rules) in
    breaks c.args.self.now c.args.self.now c.args.number (summary_act_of c.args.act) c.args.payload.now c.args.payload.now up sh.entry c.in-Err.why rows st sh.found (rw sh.ledger (search rules)) (no-failure c.args.act) e

pub returns-clause-stands : goal.returns-clause-stands
returns-clause-stands c = λ rows up st e.
    let acts : ActsOn Down (summary_act_of c.args.act) c.in-Some.ledger c.take.new.self c.put.ensures.over = record { goes = search rules; ends = c.put.ensures.closed; confirmed = c.take.ensures.confirmed; fine = plain-act c.args.act } in
    within-delivered c.args.self.now c.put.new.self c.deliver.new.self c.args.number (summary_act_of c.args.act) c.args.payload.now c.deliver.new.payload up c.in-Some.channel c.in-Some.ledger c.take.new.self c.put.ensures.over c.deliver.result rows st (search rules) (search rules) acts (no-failure c.args.act) c.put.ensures.after c.deliver.ensures.goes e
