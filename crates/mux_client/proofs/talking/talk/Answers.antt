use Rattle.mux_client.specs.declared.talked.Talked.TheVariants.{Spent}
use Rattle.mux_client.specs.Talking.{IsTalk}
use Rattle.mux_client.proofs.ShowLines.{last-none}
use Rattle.mux_client.proofs.WholeTalks.{has-talked, starts-spent}
use Rattle.mux_client.proofs.talking.talk.Goals as goal

pub returns-then-turns-eq0-clause-talked : goal.returns-then-turns-eq0-clause-talked
returns-then-turns-eq0-clause-talked g c =
    let recorded = (g.W.Wire.state c.args.wire.now).seen.recorded in
    has-talked c.args.asks.now Spent recorded recorded (g.S.Sink.recorded c.args.out.now) (g.S.Sink.recorded c.args.out.now) c.args.out.now c.args.out.now
    (last-none (g.S.Sink.recorded c.args.out.now) c.args.out.now (λ shown due. IsTalk c.args.asks.now Spent recorded recorded shown due) (starts-spent c.args.asks.now recorded))

pub returns-in-Ok-clause-talked : goal.returns-in-Ok-clause-talked
returns-in-Ok-clause-talked g c =
    has-talked c.args.asks.now Spent (g.W.Wire.state c.args.wire.now).seen.recorded (g.W.Wire.state c.converse.new.wire).seen.recorded (g.S.Sink.recorded c.args.out.now) (g.S.Sink.recorded c.converse.new.out) c.args.out.now c.converse.new.out c.in-Ok.ensures.talks

pub returns-in-Err-clause-talked : goal.returns-in-Err-clause-talked
returns-in-Err-clause-talked g c =
    has-talked c.args.asks.now c.in-Err.talked (g.W.Wire.state c.args.wire.now).seen.recorded (g.W.Wire.state c.converse.new.wire).seen.recorded (g.S.Sink.recorded c.args.out.now) (g.S.Sink.recorded c.converse.new.out) c.args.out.now c.converse.new.out c.in-Err.ensures.talks
