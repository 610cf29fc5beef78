use Rattle.std.proofs.Common.{◌<◌, ◌+◌, List, [], ◌∷◌, ◌++◌, refl, sym, ap, subst, length, arith}
use Rattle.mux_outside.specs.House.{Known}
use Rattle.mux_outside.specs.HouseCalls.{HouseCall, calls_of}
use Rattle.mux_outside.specs.Seen.{Seen}
use Rattle.mux_outside.specs.WireState.{WireState}
use Rattle.mux_outside.specs.declared.house_mark.HouseMark.TheVariants.{HouseAnswer}
use Rattle.mux_state.specs.Events.{here}
use Rattle.mux_engine.specs.Serving.{Promised, Serving}
use Rattle.mux_engine.specs.Sides.{RestsOf, all_marks_noted}
use Rattle.mux_engine.proofs.Arms.{on-err}
use Rattle.mux_engine.proofs.Called.{handed-more}
use Rattle.mux_engine.proofs.Cuts.{cut-here}
use Rattle.mux_engine.proofs.HouseCalls.{answered, answered-live, cut-answered, no-turns, no-turns-left, still-handed, streams-note}
use Rattle.mux_engine.proofs.HouseTurns.{reply-fewer}
use Rattle.mux_engine.proofs.Wired.{idle-none, idle-note}
use Rattle.mux_engine.proofs.housing.reply.Goals as goal

pub returns-in_err-note-clause-serving : goal.returns-in_err-note-clause-serving
returns-in_err-note-clause-serving g c held failed first calls before policy pid start given hands v = on-err c.from_residual.result _ _ c.from_residual.ensures.0
    (cut-here v _ _ _ (HouseAnswer c.in-Some.client c.in-Some.id c.in-Some.given ∷ []) (ap (λ (x : WireState). x.seen.recorded) c.in_err-note.ensures.state) c.in-Some.ensures.gave.recorded refl (omega arith))

pub returns-in_err-event-clause-serving : goal.returns-in_err-event-clause-serving
returns-in_err-event-clause-serving g c held failed first calls before policy pid start given hands v =
    let H = g.H.Asks in
    on-err c.from_residual-in_err-event.result _ _ c.from_residual-in_err-event.ensures.0
    (subst (λ (x : Seen). Promised H.may (RestsOf H.state (H.state c.args.house.now).known.present first) before (H.state c.answer.new.self).recorded policy pid start x.recorded (given + 0)) (sym (ap (λ (x : WireState). x.seen) c.in_ok-note.ensures.state))
    (no-turns-left (cut-answered (H.state c.args.house.now).known v c.in-Some.client c.in-Some.id c.in-Some.given c.requires.present c.requires.on c.in-Some.ensures.fits c.in-Some.ensures.gave.recorded)))

pub returns-clause-serving : goal.returns-clause-serving
returns-clause-serving g c held failed first calls before policy pid start given hands v =
    let H = g.H.Asks in
    let more : List HouseCall = calls_of (HouseAnswer c.in-Some.client c.in-Some.id c.in-Some.given ∷ []) in
    handed-more _ more hands c.in-Some.ensures.gave.stands
    (subst (λ (x : Seen). Serving H.may (RestsOf H.state (H.state c.args.house.now).known.present first) before (all_marks_noted (H.state c.answer.new.self).recorded (H.state c.answer.new.self).known (calls ++ more)) policy pid start x held failed (given + 0) (0 ∷ here c.event.new.self) c.event.new.self) (sym (ap (λ (x : WireState). x.seen) c.in_ok-note.ensures.state))
    (no-turns (answered (H.state c.args.house.now).known (H.state c.answer.new.self).known v c.event.new.self c.in-Some.client c.in-Some.id c.in-Some.given c.requires.present c.requires.on c.in-Some.ensures.fits c.in-Some.ensures.gave.recorded c.in-Some.ensures.gave.known c.in_ok-event.ensures.takes.stands c.in_ok-event.ensures.keeps)))

pub returns-clause-on : goal.returns-clause-on
returns-clause-on g c held failed todo w = answered-live (g.H.Asks.state c.args.house.now).known w.serving c.event.new.self c.in-Some.client c.in-Some.id c.in-Some.given c.requires.on c.in-Some.ensures.fits c.in_ok-event.ensures.takes.ends

pub returns-clause-answered : goal.returns-clause-answered
returns-clause-answered g c = subst (λ (k : Known). length k.asks < length (g.H.Asks.state c.args.house.now).known.asks) (sym c.in-Some.ensures.gave.known) (reply-fewer c.in-Some.given c.in-Some.client c.in-Some.id (g.H.Asks.state c.args.house.now).known.asks c.in-Some.ensures.fits)

-- ---- no answer

pub returns-in_default-clause-serving : goal.returns-in_default-clause-serving
returns-in_default-clause-serving g c held failed first calls before policy pid start given hands v = still-handed (g.H.Asks.state c.answer.new.self).known hands c.in_default.ensures.gave.stands c.in_default.ensures.gave.recorded c.in_default.ensures.gave.known v

-- ---- the wire

pub returns-in_err-note-clause-streams : goal.returns-in_err-note-clause-streams
returns-in_err-note-clause-streams g c = streams-note c.note.result (HouseAnswer c.in-Some.client c.in-Some.id c.in-Some.given) _ _ (ap (λ (x : WireState). x.seen) c.note.ensures.state)

pub returns-in_err-event-clause-streams : goal.returns-in_err-event-clause-streams
returns-in_err-event-clause-streams g c = streams-note c.note.result (HouseAnswer c.in-Some.client c.in-Some.id c.in-Some.given) _ _ (ap (λ (x : WireState). x.seen) c.note.ensures.state)

pub returns-clause-streams : goal.returns-clause-streams
returns-clause-streams g c = streams-note c.note.result (HouseAnswer c.in-Some.client c.in-Some.id c.in-Some.given) _ _ (ap (λ (x : WireState). x.seen) c.note.ensures.state)

pub returns-in_default-clause-wire : goal.returns-in_default-clause-wire
returns-in_default-clause-wire g c = idle-none _ _

pub returns-in_err-note-clause-wire : goal.returns-in_err-note-clause-wire
returns-in_err-note-clause-wire g c = idle-note c.note.result (HouseAnswer c.in-Some.client c.in-Some.id c.in-Some.given) refl c.note.ensures.state c.note.ensures.faults

pub returns-in_err-event-clause-wire : goal.returns-in_err-event-clause-wire
returns-in_err-event-clause-wire g c = idle-note c.note.result (HouseAnswer c.in-Some.client c.in-Some.id c.in-Some.given) refl c.note.ensures.state c.note.ensures.faults

pub returns-clause-wire : goal.returns-clause-wire
returns-clause-wire g c = idle-note c.note.result (HouseAnswer c.in-Some.client c.in-Some.id c.in-Some.given) refl c.note.ensures.state c.note.ensures.faults
