use Rattle.std.proofs.Common.{◌≡◌, ◌∙◌, ◌∷◌, sym, subst, cond, ℕ, Bool, true, List, arith}
use Rattle.mux_outside.specs.Streams.{without}
use Rattle.mux_history.specs.declared.limits.TheConstants.{HOUSE}
use Rattle.mux_state.specs.Events.{here}
use Rattle.mux_engine.specs.Serving.{scene}
use Rattle.mux_engine.specs.Sides.{Housed, SameHouse}
use Rattle.mux_engine.proofs.Arms.{on-ok}
use Rattle.mux_engine.proofs.Called.{handed-none}
use Rattle.mux_engine.proofs.Following.{Ran, runs-cut, runs-held, runs-then}
use Rattle.mux_engine.proofs.Lists.{true-false}
use Rattle.mux_engine.proofs.Stepping.{all-ok, housed-still, no-more, none-handed, none-more, on-false, together-ordered}
use Rattle.mux_engine.proofs.Wired.{works-own-err, works-own-idle, works-own-none, works-own-then}
use Rattle.mux_engine.proofs.housing.ask_house.Given.{Over}
use Rattle.mux_engine.proofs.housing.ask_house.Goals.{In_ok-reply_all}
use Rattle.mux_engine.proofs.housing.ask_house.Goals as goal

-- ---- no forwarder

pub returns-then-not-present-clause-serving : goal.returns-then-not-present-clause-serving
returns-then-not-present-clause-serving g c first calls before policy pid start given hands v = handed-none _ hands (none-handed v (sym c.present.ensures.present ∙ c.if-not-present.true))

pub returns-then-not-present-clause-ready : goal.returns-then-not-present-clause-ready
returns-then-not-present-clause-ready g c = λ e. none-more _ _ _ (g.W.Wire.state c.args.wire.now).seen _ _ _ (sym c.present.ensures.present ∙ c.if-not-present.true) c.requires.ongoing.together.alone c.requires.ongoing.together.housed

pub returns-then-not-present-clause-wire : goal.returns-then-not-present-clause-wire
returns-then-not-present-clause-wire g c = works-own-none _ _ _

-- ---- there was no memory

pub returns-in_err-reply_all-clause-serving : goal.returns-in_err-reply_all-clause-serving
returns-in_err-reply_all-clause-serving g c =
    runs-cut {state = g.H.Asks.state} c.from_residual.result 1 (λ (more : Bool). cond more 1 0) (λ (more : Bool). 0 ∷ without HOUSE (here c.reply_all.new.engine)) c.from_residual.ensures.0 record { runs = c.in_err-reply_all.ensures.serving } (omega arith)

pub returns-in_err-reply_all-clause-wire : goal.returns-in_err-reply_all-clause-wire
returns-in_err-reply_all-clause-wire g c = works-own-err c.from_residual.result c.from_residual.ensures.0 c.in_err-reply_all.ensures.wire

-- ---- a forwarder

-- it replied, and was handed over what waits for it
replied : (g : Over) (c : In_ok-reply_all g) → Ran g.H.Asks.may g.H.Asks.state c.args.house.now c.reply_all.new.house (scene (g.W.Wire.state c.args.wire.now) c.args.lists.now c.args.engine.now) (scene (g.W.Wire.state c.reply_all.new.wire) c.reply_all.new.lists c.reply_all.new.engine) 0 (0 ∷ here c.args.engine.now) (0 ∷ without HOUSE (here c.reply_all.new.engine))
replied g c = record { runs = c.in_ok-reply_all.ensures.serving }

pub next_order-requires : goal.next_order-requires
next_order-requires g c =
    let o = c.in_ok-reply_all.ensures in
    record {
      housed = subst (λ (l : List ℕ). Housed (g.H.Asks.state c.reply_all.new.house).known (g.W.Wire.state c.reply_all.new.wire).seen l) (sym c.reply_all.ensures.own) (housed-still _ _ _ _ c.args.lists.now.own o.house.known c.reply_all.ensures.places c.requires.ongoing.together.housed);
      present = o.house.known.present ∙ (sym c.present.ensures.present ∙ c.if-not-present.false);
    }

pub returns-clause-serving : goal.returns-clause-serving
returns-clause-serving g c =
    let e1 = c.reply_all.new.engine in
    let at1 : List ℕ = 0 ∷ without HOUSE (here e1) in
    runs-then c.next_order.result c.next_order.new.house (scene (g.W.Wire.state c.next_order.new.wire) c.next_order.new.lists e1) 1 (λ (more : Bool). cond more 1 0) (λ (more : Bool). at1) c.in_ok-reply_all.ensures.house.known.present
    (replied g (goal.at.returns-clause-serving g c).In_ok-reply_all) (c.next_order.ensures.serving at1 e1 c.in_ok-reply_all.ensures.on)

pub returns-clause-together : goal.returns-clause-together
returns-clause-together g c =
    let H = g.H.Asks in
    let W = g.W.Wire in
    let e1 = c.reply_all.new.engine in
    together-ordered c.next_order.result (H.state c.reply_all.new.house) (H.state c.next_order.new.house) (W.state c.next_order.new.wire) c.next_order.new.lists (c.in_ok-reply_all.ensures.house.known.present ∙ (sym c.present.ensures.present ∙ c.if-not-present.false)) c.next_order.ensures.housed c.next_order.ensures.house
    (runs-held c.next_order.result c.next_order.new.house (scene (W.state c.next_order.new.wire) c.next_order.new.lists e1) 1 (λ (more : Bool). cond more 1 0) (λ (more : Bool). 0 ∷ without HOUSE (here e1)) c.requires.ongoing.served (returns-clause-serving g c))

pub returns-clause-house : goal.returns-clause-house
returns-clause-house g c =
    let H = g.H.Asks in
    let same : SameHouse (H.state c.args.house.now).known (H.state c.reply_all.new.house).known = c.in_ok-reply_all.ensures.house.known in
    record {
      present = on-ok c.next_order.result (λ (p : (H.state c.next_order.new.house).known.present ≡ (H.state c.reply_all.new.house).known.present). p ∙ same.present) c.next_order.ensures.house.present;
      must = c.next_order.ensures.house.must ∙ c.reply_all.ensures.house.must;
    }

pub returns-clause-none : goal.returns-clause-none
returns-clause-none g c out = true-false (sym (sym c.present.ensures.present ∙ c.if-not-present.false) ∙ out)

pub returns-clause-ready : goal.returns-clause-ready
returns-clause-ready g c =
    let H = g.H.Asks in
    on-false c.next_order.result (no-more (H.state c.reply_all.new.house) (H.state c.next_order.new.house) c.reply_all.new.lists c.next_order.new.lists c.in_ok-reply_all.ensures.rests) c.next_order.ensures.none

pub returns-clause-on : goal.returns-clause-on
returns-clause-on g c = all-ok c.next_order.result c.in_ok-reply_all.ensures.on

pub returns-clause-wire : goal.returns-clause-wire
returns-clause-wire g c = works-own-then c.in_ok-reply_all.ensures.wire (works-own-idle c.next_order.result c.next_order.ensures.wire)
