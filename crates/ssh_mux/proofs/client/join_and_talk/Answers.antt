use Rattle.std.proofs.Common.{Ok, ap, inl, refl, ◌∙◌}
use Rattle.mux_outside.specs.WireState.{WireState}
use Rattle.ssh_mux.proofs.JoinedLemmas.{converses_end, failed-talk, joins_end, lacking-talk, sinks_end, talk-counts}
use Rattle.ssh_mux.proofs.MasterLemmas.{nothing-more}
use Rattle.ssh_mux.proofs.JoinedLemmas.{is-joined}
use Rattle.ssh_mux.proofs.client.join_and_talk.Goals as goal

pub returns-in-Ok-clause-joined : goal.returns-in-Ok-clause-joined
returns-in-Ok-clause-joined g c = rw c.ending_of.ensures.recorded (joins_end c.talk.result _ _ _ (c.talk.ensures.wire.joinings ∙ ap (λ (s : WireState). s.joinings) (rw c.as_bytes.ensures at c.in-Ok.ensures.state)))

pub returns-in-Ok-clause-talked : goal.returns-in-Ok-clause-talked
returns-in-Ok-clause-talked g c = let t = rw (ap (λ (s : WireState). s.seen.recorded) c.in-Ok.ensures.state) at c.talk.ensures.talked in rw c.ending_of.ensures.recorded (converses_end c.args.asks.now c.talk.result _ _ _ _ t.talks t.shows)

pub returns-in-Ok-clause-out_cause : goal.returns-in-Ok-clause-out_cause
returns-in-Ok-clause-out_cause g c = rw c.ending_of.ensures.recorded (sinks_end c.talk.result _ _ c.talk.ensures.sink)

pub returns-in-Ok-clause-wire : goal.returns-in-Ok-clause-wire
returns-in-Ok-clause-wire g c = rw c.ending_of.ensures.recorded (talk-counts c.args.turns c.talk.result (Ok c.in-Ok.field-0) _ (g.W.Wire.state c.args.wire.now) (g.W.Wire.state c.join.new.self) (g.W.Wire.state c.talk.new.wire) (g.W.Wire.faults c.args.wire.now) (g.W.Wire.faults c.join.new.self) (g.W.Wire.faults c.talk.new.wire) c.in-Ok.ensures.state c.in-Ok.ensures.cause c.talk.ensures.calls c.talk.ensures.cause c.talk.ensures.wire (λ z. ap g.W.Wire.faults (c.talk.ensures.idle z).0))

pub talk-requires : goal.talk-requires
talk-requires g c = record { asks = c.requires.may; joined = is-joined c.in-Ok.field-0 _ (g.W.Wire.state c.args.wire.now) (g.W.Wire.state c.join.new.self) c.in-Ok.ensures.state }

pub returns-in-Err-Failed-clause-joined : goal.returns-in-Err-Failed-clause-joined
returns-in-Err-Failed-clause-joined g c = ap (λ (s : WireState). s.joinings) (rw (c.in-Err-Failed.field-0-is, c.as_bytes.ensures) at c.in-Err-Failed.ensures.state)

pub returns-in-Err-Failed-clause-talked : goal.returns-in-Err-Failed-clause-talked
returns-in-Err-Failed-clause-talked g c = record { same_wire = ap (λ (s : WireState). s.seen.recorded) c.in-Err-Failed.ensures.state; same_out = refl }

pub returns-in-Err-Failed-clause-wire : goal.returns-in-Err-Failed-clause-wire
returns-in-Err-Failed-clause-wire g c = failed-talk c.args.turns _ (g.W.Wire.state c.args.wire.now) (g.W.Wire.state c.join.new.self) (g.W.Wire.faults c.args.wire.now) (g.W.Wire.faults c.join.new.self) (rw c.in-Err-Failed.field-0-is at c.in-Err-Failed.ensures.state) (rw c.in-Err-Failed.field-0-is at c.in-Err-Failed.ensures.cause)

pub returns-in-Err-OutOfMemory-clause-joined : goal.returns-in-Err-OutOfMemory-clause-joined
returns-in-Err-OutOfMemory-clause-joined g c = inl (ap (λ (s : WireState). s.joinings) (rw c.in-Err-OutOfMemory.field-0-is at c.in-Err-OutOfMemory.ensures.state) ∙ nothing-more _)

pub returns-in-Err-OutOfMemory-clause-talked : goal.returns-in-Err-OutOfMemory-clause-talked
returns-in-Err-OutOfMemory-clause-talked g c = inl (record { same_wire = ap (λ (s : WireState). s.seen.recorded) c.in-Err-OutOfMemory.ensures.state; same_out = refl })

pub returns-in-Err-OutOfMemory-clause-wire : goal.returns-in-Err-OutOfMemory-clause-wire
returns-in-Err-OutOfMemory-clause-wire g c = lacking-talk c.args.turns c.as_bytes.result.now (g.W.Wire.state c.args.wire.now) (g.W.Wire.state c.join.new.self) (g.W.Wire.faults c.args.wire.now) (g.W.Wire.faults c.join.new.self) (rw c.in-Err-OutOfMemory.field-0-is at c.in-Err-OutOfMemory.ensures.state)
