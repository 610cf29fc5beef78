use Rattle.std.proofs.Common.{ap, refl, ◌∙◌}
use Rattle.mux_outside.specs.WireState.{WireState}
use Rattle.ssh_mux.proofs.MasterLemmas.{failed-counts, opens_end, served-counts}
use Rattle.ssh_mux.proofs.SharingLemmas.{shares_end, start_end}
use Rattle.ssh_mux.proofs.MasterLemmas.{is-opened}
use Rattle.ssh_mux.proofs.master.open_and_serve.Goals as goal

pub returns-in-Ok-clause-opened : goal.returns-in-Ok-clause-opened
returns-in-Ok-clause-opened g c = rw c.ending_of.ensures.recorded (opens_end c.serve.result _ _ _ _ (c.serve.ensures.wire.openings ∙ ap (λ (s : WireState). s.openings) (rw (c.as_bytes.ensures, c.as_bytes-2.ensures) at c.in-Ok.ensures.state)))

pub returns-in-Ok-clause-served : goal.returns-in-Ok-clause-served
returns-in-Ok-clause-served g c = shares_end _ _ _ _ _ _ _ _ _ _ _ _ _ _ c.ending_of.ensures.recorded (rw (ap (λ (s : WireState). s.seen.recorded) c.in-Ok.ensures.state) at c.serve.ensures.kept)

pub returns-in-Ok-clause-start : goal.returns-in-Ok-clause-start
returns-in-Ok-clause-start g c = rw c.ending_of.ensures.recorded (start_end _ _ c.serve.ensures.ended.permitted)

pub returns-in-Ok-clause-wire : goal.returns-in-Ok-clause-wire
returns-in-Ok-clause-wire g c = rw c.ending_of.ensures.recorded (served-counts (g.H.Asks.state c.args.house.now).known.present c.args.turns c.serve.result _ c.in-Ok.field-0 _ _ (g.W.Wire.state c.args.wire.now) (g.W.Wire.state c.open.new.self) (g.W.Wire.state c.serve.new.wire) (g.W.Wire.faults c.args.wire.now) (g.W.Wire.faults c.open.new.self) (g.W.Wire.faults c.serve.new.wire) c.in-Ok.ensures.state c.in-Ok.ensures.cause c.serve.ensures.calls c.serve.ensures.ended (c.serve.ensures.came c.requires.silent) c.serve.ensures.wire c.serve.ensures.idle)

pub serve-requires : goal.serve-requires
serve-requires g c = record { opened = is-opened c.in-Ok.field-0 _ _ (g.W.Wire.state c.args.wire.now) (g.W.Wire.state c.open.new.self) c.in-Ok.ensures.state; blank = (c.present-blank.ensures.begun c.requires.begun).nothing }

pub returns-in-Err-Failed-clause-opened : goal.returns-in-Err-Failed-clause-opened
returns-in-Err-Failed-clause-opened g c = ap (λ (s : WireState). s.openings) (rw (c.in-Err-Failed.field-0-is, c.as_bytes.ensures, c.as_bytes-2.ensures) at c.in-Err-Failed.ensures.state)

pub returns-in-Err-Failed-clause-served : goal.returns-in-Err-Failed-clause-served
returns-in-Err-Failed-clause-served g c = record { same_wire = ap (λ (s : WireState). s.seen.recorded) c.in-Err-Failed.ensures.state; same_house = refl }

pub returns-in-Err-Failed-clause-wire : goal.returns-in-Err-Failed-clause-wire
returns-in-Err-Failed-clause-wire g c = failed-counts (g.H.Asks.state c.args.house.now).known.present c.args.turns _ _ (g.W.Wire.state c.args.wire.now) (g.W.Wire.state c.open.new.self) (g.W.Wire.faults c.args.wire.now) (g.W.Wire.faults c.open.new.self) (rw c.in-Err-Failed.field-0-is at c.in-Err-Failed.ensures.state) (rw c.in-Err-Failed.field-0-is at c.in-Err-Failed.ensures.cause)
