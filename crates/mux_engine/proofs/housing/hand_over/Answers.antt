use Rattle.std.proofs.Common.{◌≤◌, ◌+◌, [], ◌∷◌, ◌++◌, sym, ap, refl, subst, ℕ, true, List, length, le_refl, arith}
use Rattle.mux_outside.specs.HouseCalls.{Receives}
use Rattle.mux_outside.specs.Seen.{Seen}
use Rattle.mux_outside.specs.Streams.{without}
use Rattle.mux_outside.specs.WireState.{WireState}
use Rattle.mux_outside.specs.declared.house_mark.HouseMark.TheVariants.{HouseTook}
use Rattle.mux_history.specs.declared.limits.TheConstants.{HOUSE}
use Rattle.mux_state.specs.Events.{here}
use Rattle.mux_engine.specs.Serving.{Serving}
use Rattle.mux_engine.specs.Sides.{RestsOf, all_marks_noted}
use Rattle.mux_engine.proofs.Arms.{empty-is, on-err, some-bytes}
use Rattle.mux_engine.proofs.Called.{handed-more, handed-none}
use Rattle.mux_engine.proofs.Cuts.{cut-here}
use Rattle.mux_engine.proofs.HouseCalls.{handed, no-turns, streams-note, streams-then}
use Rattle.mux_engine.proofs.HouseTakes.{house-idle}
use Rattle.mux_engine.proofs.Marks.{accepts-then}
use Rattle.mux_engine.proofs.Taken.{took-run}
use Rattle.mux_engine.proofs.Wired.{idle-note, idle-then}
use Rattle.mux_engine.proofs.housing.hand_over.Goals as goal

pub returns-then-is_empty-clause-serving : goal.returns-then-is_empty-clause-serving
returns-then-is_empty-clause-serving g c held failed first calls before policy pid start given hands w =
    let v = c.stop_accepting.ensures.serving held (g.H.Asks.state c.args.house.now).known.present first before _ policy pid start failed given _ w in
    handed-none _ hands (no-turns (house-idle v c.queue_of-bytes.result.now (c.queue_of-bytes.ensures.waits v.picked v.replies v.journal v.closed v.stands) (empty-is c.queue_of-bytes.result.now (sym c.if-is_empty.ensures))))

pub returns-in_err-takes-clause-serving : goal.returns-in_err-takes-clause-serving
returns-in_err-takes-clause-serving g c held failed first calls before policy pid start given hands w =
    let v = c.stop_accepting.ensures.serving held (g.H.Asks.state c.args.house.now).known.present first before _ policy pid start failed given _ w in
    on-err c.from_residual.result _ _ c.from_residual.ensures.0
    (cut-here v _ _ _ [] refl c.in_err-takes.ensures.recorded refl (omega arith))

pub returns-in_err-note-clause-serving : goal.returns-in_err-note-clause-serving
returns-in_err-note-clause-serving g c held failed first calls before policy pid start given hands w =
    let v = c.stop_accepting.ensures.serving held (g.H.Asks.state c.args.house.now).known.present first before _ policy pid start failed given _ w in
    on-err c.from_residual-in_err-note.result _ _ c.from_residual-in_err-note.ensures.0
    (cut-here v _ _ _ (HouseTook (length c.queue_of-bytes.result.now) ∷ []) (ap (λ (x : Seen). x.recorded) (ap (λ (x : WireState). x.seen) c.in_err-note.ensures.state)) c.in_ok-takes.ensures.recorded refl (omega arith))

pub took-requires : goal.took-requires
took-requires g c = subst (λ (b : List ℕ). length c.queue_of-bytes.result.now ≤ length b) c.queue_of-bytes.ensures.exact (le_refl _)

pub returns-clause-serving : goal.returns-clause-serving
returns-clause-serving g c held failed first calls before policy pid start given hands w =
    let H = g.H.Asks in
    let v = c.stop_accepting.ensures.serving held (H.state c.args.house.now).known.present first before _ policy pid start failed given _ w in
    let bytes : List ℕ = c.queue_of-bytes.result.now in
    handed-more _ (Receives bytes ∷ []) hands c.in_ok-takes.ensures.stands
    (subst (λ (x : Seen). Serving H.may (RestsOf H.state (H.state c.args.house.now).known.present first) before (all_marks_noted (H.state c.takes.new.self).recorded (H.state c.takes.new.self).known (calls ++ Receives bytes ∷ [])) policy pid start x held failed (given + 0) (0 ∷ without HOUSE (here c.took.new.self)) c.took.new.self) (sym (ap (λ (x : WireState). x.seen) c.in_ok-note.ensures.state))
    (no-turns (handed (H.state c.takes.new.self).known v c.took.new.self bytes c.in_ok-takes.ensures.recorded c.in_ok-takes.ensures.known c.queue_of-bytes.ensures.exact (some-bytes bytes (sym c.if-is_empty.ensures)) c.queue_of-bytes.ensures.waits c.took.ensures.exact (c.took.ensures.stands bytes true refl))))

-- ---- clients are accepted only as the engine does

pub stop_accepting-requires : goal.stop_accepting-requires
stop_accepting-requires g c = record { receives = c.requires.receives }

pub returns-then-is_empty-clause-silence : goal.returns-then-is_empty-clause-silence
returns-then-is_empty-clause-silence g c = c.stop_accepting.ensures.silence

pub returns-clause-silence : goal.returns-clause-silence
returns-clause-silence g c =
    let same = took-run c.args.engine.now c.took.new.self HOUSE (length c.queue_of-bytes.result.now) c.took.ensures.exact in
    let quiet : Seen = (g.W.Wire.state c.stop_accepting.new.wire).seen in
    let all_marks_noted : Seen = (g.W.Wire.state c.note.new.self).seen in
    accepts-then quiet all_marks_noted c.args.engine.now c.took.new.self c.stop_accepting.ensures.silence (streams-note c.note.result (HouseTook (length c.queue_of-bytes.result.now)) quiet all_marks_noted (ap (λ (x : WireState). x.seen) c.note.ensures.state)).places.silence same.ended same.listening

-- ---- the wire

pub returns-then-is_empty-clause-streams : goal.returns-then-is_empty-clause-streams
returns-then-is_empty-clause-streams g c = c.stop_accepting.ensures.streams

pub returns-in_err-takes-clause-streams : goal.returns-in_err-takes-clause-streams
returns-in_err-takes-clause-streams g c = c.stop_accepting.ensures.streams

pub returns-in_err-note-clause-streams : goal.returns-in_err-note-clause-streams
returns-in_err-note-clause-streams g c = streams-then _ _ _ c.stop_accepting.ensures.streams (streams-note c.note.result (HouseTook (length c.queue_of-bytes.result.now)) _ _ (ap (λ (x : WireState). x.seen) c.note.ensures.state))

pub returns-clause-streams : goal.returns-clause-streams
returns-clause-streams g c = streams-then _ _ _ c.stop_accepting.ensures.streams (streams-note c.note.result (HouseTook (length c.queue_of-bytes.result.now)) _ _ (ap (λ (x : WireState). x.seen) c.note.ensures.state))

pub returns-then-is_empty-clause-wire : goal.returns-then-is_empty-clause-wire
returns-then-is_empty-clause-wire g c = c.stop_accepting.ensures.wire

pub returns-in_err-takes-clause-wire : goal.returns-in_err-takes-clause-wire
returns-in_err-takes-clause-wire g c = c.stop_accepting.ensures.wire

pub returns-in_err-note-clause-wire : goal.returns-in_err-note-clause-wire
returns-in_err-note-clause-wire g c = idle-then c.stop_accepting.ensures.wire (idle-note c.note.result (HouseTook (length c.queue_of-bytes.result.now)) refl c.note.ensures.state c.note.ensures.faults)

pub returns-clause-wire : goal.returns-clause-wire
returns-clause-wire g c = idle-then c.stop_accepting.ensures.wire (idle-note c.note.result (HouseTook (length c.queue_of-bytes.result.now)) refl c.note.ensures.state c.note.ensures.faults)
