use Rattle.std.proofs.Common.{◌∙◌, ◌++◌, List, [], ◌∷◌, Option, Ok, ap, refl, sym, inl, inr, arith}
use Rattle.std.specs.Option.{option_map}
use Rattle.mux_outside.specs.HouseCalls.{HouseCall, calls_of}
use Rattle.mux_outside.specs.Seen.{Seen}
use Rattle.mux_outside.specs.WireState.{WireState}
use Rattle.mux_outside.specs.declared.house_mark.HouseMark.TheVariants.{HouseOrder}
use Rattle.mux_outside.specs.declared.mark.Mark.{Mark}
use Rattle.mux_outside.specs.declared.mark.Mark.TheVariants.{House}
use Rattle.mux_engine.specs.Orders.{more_recorded, seen_carried}
use Rattle.mux_engine.specs.Sides.{all_marks_noted}
use Rattle.mux_engine.proofs.Arms.{on-err}
use Rattle.mux_engine.proofs.Called.{handed-more}
use Rattle.mux_engine.proofs.Cuts.{cut-here}
use Rattle.mux_engine.proofs.OrderHoused.{housed-noted}
use Rattle.mux_engine.proofs.Ordered.{carried-recorded, closes-own, may-note, order-lost, order-noted, side-carried, recorded-later, recorded-noted}
use Rattle.mux_engine.proofs.OwnFaults.{own-made, own-ordered-recorded, own-still}
use Rattle.mux_engine.proofs.Running.{match-more}
use Rattle.mux_engine.proofs.Stepping.{all-ok}
use Rattle.mux_engine.proofs.Recorded.{records-none}
use Rattle.mux_engine.proofs.Wired.{idle-ordered}
use Rattle.mux_engine.proofs.orders.obey.Goals as goal

-- ---- no memory for it

pub returns-in_err-number-clause-serving : goal.returns-in_err-number-clause-serving
returns-in_err-number-clause-serving g c todo s live first calls before policy pid start given hands v = on-err c.from_residual.result _ _ c.from_residual.ensures.0
    (elim c.in_err-number.ensures.carried [
      | inl o ↦ cut-here v _ _ _ [] o.marks (o.recorded ∙ records-none _) refl (omega arith)
      | inr w ↦ order-lost v c.requires.present live c.args.order w.0 _ _ w.1.made (closes-own c.args.order _ _ _ c.requires.ordered) refl w.1.recorded w.1.marks
    ])

pub returns-in_err-number-clause-wire : goal.returns-in_err-number-clause-wire
returns-in_err-number-clause-wire g c = record {
  untouched = c.carry_out.ensures.wire;
  own_faults = elim c.in_err-number.ensures.carried [
    | inl o ↦ own-still _ _ _ _ o.marks c.in_err-number.ensures.counted
    | inr w ↦ own-made c.args.order w.0 _ _ _ _ w.1.marks c.in_err-number.ensures.counted
  ];
}

-- ---- the wire recorded it

pub returns-then-makes-clause-serving : goal.returns-then-makes-clause-serving
returns-then-makes-clause-serving g c todo s live first calls before policy pid start given hands v =
    let H = g.H.Asks in
    let o = c.in_ok-number.ensures.carried in
    let side = side-carried c.args.order c.in_ok-number.number _ _ _ _ c.requires.ordered o.known in
    let more : List HouseCall = calls_of (more_recorded c.args.order c.in_ok-number.number) in
    let carried : Seen = seen_carried c.args.order c.in_ok-number.number (g.W.Wire.state c.args.wire.now).seen in
    handed-more _ more hands o.stands
    (order-noted v {E = Unit {0}} (Ok tt) c.args.order c.in_ok-number.number (all_marks_noted (H.state c.carry_out.new.house).recorded (H.state c.carry_out.new.house).known (calls ++ more)) carried _ _ _ c.requires.present live o.made (closes-own c.args.order _ _ _ c.requires.ordered) refl o.recorded side.asks refl side.present refl refl
    (carried-recorded c.args.order c.in_ok-number.number _) (o.seen_is ∙ recorded-noted c.args.order c.in_ok-number.number carried (sym c.if-makes.ensures)) o.held o.failed)

pub returns-then-makes-clause-housed : goal.returns-then-makes-clause-housed
returns-then-makes-clause-housed g c =
    let o = c.in_ok-number.ensures.carried in
    let carried : Seen = seen_carried c.args.order c.in_ok-number.number (g.W.Wire.state c.args.wire.now).seen in
    housed-noted {E = Unit {0}} (Ok tt) c.args.order c.in_ok-number.number _ _ _ carried _ _ _ _ c.requires.ordered o.made o.known refl o.own (o.seen_is ∙ recorded-noted c.args.order c.in_ok-number.number carried (sym c.if-makes.ensures))

pub returns-then-makes-clause-house : goal.returns-then-makes-clause-house
returns-then-makes-clause-house g c =
    let side = side-carried c.args.order c.in_ok-number.number _ _ _ _ c.requires.ordered c.in_ok-number.ensures.carried.known in
    record { present = side.present; must = c.carry_out.ensures.must }

pub returns-then-makes-clause-wire : goal.returns-then-makes-clause-wire
returns-then-makes-clause-wire g c =
    let o = c.in_ok-number.ensures.carried in
    let carried : Seen = seen_carried c.args.order c.in_ok-number.number (g.W.Wire.state c.args.wire.now).seen in
    let recorded = ap (λ (x : Seen). x.recorded) (o.seen_is ∙ recorded-noted c.args.order c.in_ok-number.number carried (sym c.if-makes.ensures)) in
    record {
      untouched = c.carry_out.ensures.wire;
      own_faults = own-ordered-recorded c.args.order c.in_ok-number.number (g.W.Wire.state c.args.wire.now).seen _ _ _ (recorded ∙ ap (λ (t : Option (List Mark)). option_map (λ (l : List Mark). l ++ House (HouseOrder c.args.order c.in_ok-number.number) ∷ []) t) (carried-recorded c.args.order c.in_ok-number.number (g.W.Wire.state c.args.wire.now).seen)) c.in_ok-number.ensures.counted;
    }

-- ---- it is noted

pub note-requires : goal.note-requires
note-requires g c = record { may = may-note c.args.order c.in_ok-number.number (sym c.if-makes.ensures) }

pub returns-clause-serving : goal.returns-clause-serving
returns-clause-serving g c todo s live first calls before policy pid start given hands v =
    let H = g.H.Asks in
    let o = c.in_ok-number.ensures.carried in
    let side = side-carried c.args.order c.in_ok-number.number _ _ _ _ c.requires.ordered o.known in
    let more : List HouseCall = calls_of (more_recorded c.args.order c.in_ok-number.number) in
    let seen_is = o.seen_is ∙ recorded-later c.args.order c.in_ok-number.number _ (sym c.if-makes.ensures) in
    match-more c.note.result _ (λ served. handed-more _ more hands o.stands served)
    (order-noted v c.note.result c.args.order c.in_ok-number.number (all_marks_noted (H.state c.carry_out.new.house).recorded (H.state c.carry_out.new.house).known (calls ++ more)) _ _ _ _ c.requires.present live o.made (closes-own c.args.order _ _ _ c.requires.ordered) refl o.recorded side.asks refl side.present refl seen_is
    (ap (λ (x : Seen). x.recorded) seen_is ∙ carried-recorded c.args.order c.in_ok-number.number _) (ap (λ (x : WireState). x.seen) c.note.ensures.state) o.held o.failed)

pub returns-clause-housed : goal.returns-clause-housed
returns-clause-housed g c =
    let o = c.in_ok-number.ensures.carried in
    housed-noted c.note.result c.args.order c.in_ok-number.number _ _ _ _ _ _ _ _ c.requires.ordered o.made o.known (o.seen_is ∙ recorded-later c.args.order c.in_ok-number.number _ (sym c.if-makes.ensures)) o.own (ap (λ (x : WireState). x.seen) c.note.ensures.state)

pub returns-clause-house : goal.returns-clause-house
returns-clause-house g c =
    let side = side-carried c.args.order c.in_ok-number.number _ _ _ _ c.requires.ordered c.in_ok-number.ensures.carried.known in
    record { present = all-ok c.note.result side.present; must = c.carry_out.ensures.must }

pub returns-clause-wire : goal.returns-clause-wire
returns-clause-wire g c =
    let o = c.in_ok-number.ensures.carried in
    let seen_is = o.seen_is ∙ recorded-later c.args.order c.in_ok-number.number _ (sym c.if-makes.ensures) in
    idle-ordered c.note.result c.args.order c.in_ok-number.number c.carry_out.ensures.wire (ap (λ (x : Seen). x.recorded) seen_is ∙ carried-recorded c.args.order c.in_ok-number.number _) c.in_ok-number.ensures.counted c.note.ensures.state c.note.ensures.faults
