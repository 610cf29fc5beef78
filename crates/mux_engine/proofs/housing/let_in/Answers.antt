use Rattle.std.proofs.Common.{◌∷◌, sym, ap, refl, subst, true}
use Rattle.mux_outside.specs.Seen.{Seen}
use Rattle.mux_outside.specs.WireState.{WireState}
use Rattle.mux_outside.specs.declared.mark.Mark.TheVariants.{Accepts}
use Rattle.mux_history.specs.declared.limits.TheConstants.{HOUSE}
use Rattle.mux_state.specs.Events.{here}
use Rattle.mux_outside.specs.declared.house_mark.HouseMark.TheVariants.{HouseIn}
use Rattle.mux_engine.specs.Serving.{Promised, Serving}
use Rattle.mux_engine.specs.Sides.{RestsOf}
use Rattle.mux_engine.proofs.Arms.{on-err}
use Rattle.mux_engine.proofs.Cuts.{cut-still}
use Rattle.mux_engine.proofs.HouseCalls.{let-in, let-in-live, streams-note}
use Rattle.mux_engine.proofs.HouseTurns.{cut-let-in}
use Rattle.mux_engine.proofs.Wired.{idle-note}
use Rattle.mux_engine.proofs.housing.let_in.Goals as goal

pub returns-in_err-note-clause-serving : goal.returns-in_err-note-clause-serving
returns-in_err-note-clause-serving g c present first before now policy pid start held failed given v none there = on-err c.from_residual.result _ _ c.from_residual.ensures.0
    (cut-still v _ (ap (λ (x : WireState). x.seen.recorded) c.in_err-note.ensures.state))

pub returns-in_err-event-clause-serving : goal.returns-in_err-event-clause-serving
returns-in_err-event-clause-serving g c present first before now policy pid start held failed given v none there = on-err c.from_residual-in_err-event.result _ _ c.from_residual-in_err-event.ensures.0
    (subst (λ (x : Seen). Promised g.H.Asks.may (RestsOf g.H.Asks.state present first) before now.recorded policy pid start x.recorded given) (sym (ap (λ (x : WireState). x.seen) c.in_ok-note.ensures.state)) (cut-let-in v none there))

pub returns-clause-serving : goal.returns-clause-serving
returns-clause-serving g c present first before now policy pid start held failed given v none there =
    let m = c.in_ok-event.ensures in (
      subst (λ (x : Seen). Serving g.H.Asks.may (RestsOf g.H.Asks.state present first) before (record now { let_in = true }) policy pid start x held failed given (0 ∷ here c.event.new.self) c.event.new.self) (sym (ap (λ (x : WireState). x.seen) c.in_ok-note.ensures.state))
          (let-in v c.event.new.self none there c.requires.on c.requires.refused (m.takes.stands (Accepts HOUSE) refl) m.keeps),
      let-in-live v c.event.new.self none c.requires.on (m.takes.ends (Accepts HOUSE) refl),
    )

-- ---- the wire

pub returns-in_err-note-clause-places : goal.returns-in_err-note-clause-places
returns-in_err-note-clause-places g c = (streams-note c.note.result HouseIn _ _ (ap (λ (x : WireState). x.seen) c.note.ensures.state)).places

pub returns-in_err-event-clause-places : goal.returns-in_err-event-clause-places
returns-in_err-event-clause-places g c = (streams-note c.note.result HouseIn _ _ (ap (λ (x : WireState). x.seen) c.note.ensures.state)).places

pub returns-clause-places : goal.returns-clause-places
returns-clause-places g c = (streams-note c.note.result HouseIn _ _ (ap (λ (x : WireState). x.seen) c.note.ensures.state)).places

pub returns-in_err-note-clause-wire : goal.returns-in_err-note-clause-wire
returns-in_err-note-clause-wire g c = idle-note c.note.result HouseIn refl c.note.ensures.state c.note.ensures.faults

pub returns-in_err-event-clause-wire : goal.returns-in_err-event-clause-wire
returns-in_err-event-clause-wire g c = idle-note c.note.result HouseIn refl c.note.ensures.state c.note.ensures.faults

pub returns-clause-wire : goal.returns-clause-wire
returns-clause-wire g c = idle-note c.note.result HouseIn refl c.note.ensures.state c.note.ensures.faults
