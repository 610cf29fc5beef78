use Rattle.std.proofs.Common.{◌+◌, ◌++◌, ◌∙◌, List, sym, ap, refl, subst, Bool, Some}
use Rattle.mux_outside.specs.House.{Quiet, order_marks}
use Rattle.mux_outside.specs.HouseCalls.{HouseCall, calls_of}
use Rattle.mux_outside.proofs.HouseCalls.{hands-then}
use Rattle.mux_engine.specs.Serving.{Promised, Serving}
use Rattle.mux_engine.specs.Sides.{RestsOf, all_marks_noted, noting}
use Rattle.mux_engine.proofs.Arms.{on-err}
use Rattle.mux_engine.proofs.Called.{handed-so}
use Rattle.mux_engine.proofs.HouseCalls.{still-handed}
use Rattle.mux_engine.proofs.Ordered.{given-side, order-given}
use Rattle.mux_engine.proofs.Wired.{idle-none}
use Rattle.mux_engine.proofs.orders.next_order.Goals as goal

pub returns-in_err-obey-clause-serving : goal.returns-in_err-obey-clause-serving
returns-in_err-obey-clause-serving g c todo s live first calls before policy pid start given hands v =
    let H = g.H.Asks in
    let side = given-side c.in-Some.order _ _ c.in-Some.ensures.gave.known in
    let more : List HouseCall = calls_of (order_marks (Some c.in-Some.order)) in
    on-err c.from_residual.result _ _ c.from_residual.ensures.0
    (subst (λ (b : Bool). Promised H.may (RestsOf H.state b first) before (H.state c.obey.new.house).recorded policy pid start (g.W.Wire.state c.obey.new.wire).seen.recorded (given + 1)) side.present
    (c.in_err-obey.ensures.serving todo s live first (calls ++ more) before policy pid start given (hands-then (H.state first).stands (H.state c.args.house.now).stands (H.state c.order.new.self).stands calls more hands c.in-Some.ensures.gave.stands)
    (subst (λ (b : Bool). Serving H.may (RestsOf H.state b first) before (noting (order_marks (Some c.in-Some.order)) (H.state c.order.new.self).recorded (H.state c.order.new.self).known (calls ++ more)) policy pid start (g.W.Wire.state c.args.wire.now).seen c.args.lists.now.held c.args.lists.now.failed given todo s) (sym side.present)
    (order-given c.in-Some.order _ _ _ _ c.in-Some.ensures.gave.recorded c.in-Some.ensures.gave.known v))))

pub returns-clause-serving : goal.returns-clause-serving
returns-clause-serving g c todo s live first calls before policy pid start given hands v =
    let H = g.H.Asks in
    let side = given-side c.in-Some.order _ _ c.in-Some.ensures.gave.known in
    let more : List HouseCall = calls_of (order_marks (Some c.in-Some.order)) in
    let obeyed = c.in_ok-obey.ensures.serving todo s live first (calls ++ more) before policy pid start given (hands-then (H.state first).stands (H.state c.args.house.now).stands (H.state c.order.new.self).stands calls more hands c.in-Some.ensures.gave.stands)
    (subst (λ (b : Bool). Serving H.may (RestsOf H.state b first) before (noting (order_marks (Some c.in-Some.order)) (H.state c.order.new.self).recorded (H.state c.order.new.self).known (calls ++ more)) policy pid start (g.W.Wire.state c.args.wire.now).seen c.args.lists.now.held c.args.lists.now.failed given todo s) (sym side.present)
    (order-given c.in-Some.order _ _ _ _ c.in-Some.ensures.gave.recorded c.in-Some.ensures.gave.known v)) in
    handed-so obeyed (subst (λ (b : Bool). Serving H.may (RestsOf H.state b first) before (all_marks_noted (H.state c.obey.new.house).recorded (H.state c.obey.new.house).known obeyed.all) policy pid start (g.W.Wire.state c.obey.new.wire).seen c.obey.new.lists.held c.obey.new.lists.failed (given + 1) todo s) side.present obeyed.so)

-- ---- no order

pub returns-in_default-clause-serving : goal.returns-in_default-clause-serving
returns-in_default-clause-serving g c todo s live first calls before policy pid start given hands v = still-handed (g.H.Asks.state c.order.new.self).known hands c.in_default.ensures.gave.stands c.in_default.ensures.gave.recorded c.in_default.ensures.gave.known v

pub returns-in_default-clause-none : goal.returns-in_default-clause-none
returns-in_default-clause-none g c = λ e. let same = c.in_default.ensures.still refl in record {
  same = same;
  orders = ap (λ (q : Quiet). q.orders) same.quiet ∙ sym c.in_default.ensures.exact;
  still = refl;
}

-- ---- the forwarder and the wire

pub returns-clause-house : goal.returns-clause-house
returns-clause-house g c = let side = given-side c.in-Some.order _ _ c.in-Some.ensures.gave.known in record {
  present = c.in_ok-obey.ensures.house.present ∙ side.present;
  must = c.obey.ensures.house.must ∙ c.in-Some.ensures.gave.must;
}

pub returns-in_default-clause-wire : goal.returns-in_default-clause-wire
returns-in_default-clause-wire g c = idle-none _ _

pub returns-in_err-obey-clause-wire : goal.returns-in_err-obey-clause-wire
returns-in_err-obey-clause-wire g c = c.obey.ensures.wire

pub returns-clause-wire : goal.returns-clause-wire
returns-clause-wire g c = c.obey.ensures.wire
