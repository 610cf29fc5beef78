use Rattle.std.proofs.Common.{◌≡◌, ◌∙◌, ◌∷◌, ◌++◌, [], sym, ap, refl, cond, Bool, true, false, arith}
use Rattle.std.specs.Prelude.{Ok}
use Rattle.mux_outside.specs.Streams.{without}
use Rattle.mux_history.specs.declared.limits.TheConstants.{HOUSE}
use Rattle.mux_state.specs.Events.{here}
use Rattle.mux_state.specs.State.{EngineState}
use Rattle.mux_engine.specs.Serving.{scene, scene_of}
use Rattle.mux_engine.specs.Sides.{SameHouse}
use Rattle.mux_engine.proofs.Arms.{on-err, on-ok}
use Rattle.mux_engine.proofs.Following.{Ran, cut-then, is-served, ran-again, ran-as, ran-then, ran-to-flush, runs-cut, runs-then, served-then, serves-cut, serves-ran}
use Rattle.mux_engine.proofs.HouseCalls.{same-house}
use Rattle.mux_engine.proofs.Lists.{true-false}
use Rattle.mux_engine.proofs.Places.{places-then}
use Rattle.mux_engine.proofs.Stepping.{both-ways, ends-err, ends-live, ends-offered, ends-said, no-more-held, on-said, on-unsaid, together-still, waits-err, works-again}
use Rattle.mux_engine.proofs.Wired.{works-err, works-idle, works-then}
use Rattle.mux_engine.proofs.housing.step_house.Given.{Over}
use Rattle.mux_engine.proofs.housing.step_house.Goals.{In_ok-ask_house, In_ok-flush}
use Rattle.mux_engine.proofs.housing.step_house.Goals as goal

-- ---- the forwarder was asked, and the streams were offered what waits
-- for them

-- whether it gave an order
asked : (g : Over) (c : In_ok-ask_house g) (more : Bool) → c.in_ok-ask_house.field-0 ≡ more → Ran g.H.Asks.may g.H.Asks.state c.args.house.now c.ask_house.new.house (scene (g.W.Wire.state c.args.wire.now) c.args.lists.now c.args.engine.now) (scene (g.W.Wire.state c.ask_house.new.wire) c.ask_house.new.lists c.ask_house.new.engine)
    (cond more 1 0) (0 ∷ here c.args.engine.now) (0 ∷ without HOUSE (here c.ask_house.new.engine))
asked g c more is = ran-as c.ask_house.result 1 (λ (b : Bool). cond b 1 0) (λ (b : Bool). 0 ∷ without HOUSE (here c.ask_house.new.engine)) more (c.in_ok-ask_house.was ∙ ap (λ (b : Bool). Ok b) is) c.ask_house.ensures.serving

-- it gave none: the other streams are left to be offered what waits for them
unasked : (g : Over) (c : In_ok-ask_house g) → c.in_ok-ask_house.field-0 ≡ false → Ran g.H.Asks.may g.H.Asks.state c.args.house.now c.ask_house.new.house (scene (g.W.Wire.state c.args.wire.now) c.args.lists.now c.args.engine.now) (scene (g.W.Wire.state c.ask_house.new.wire) c.ask_house.new.lists c.ask_house.new.engine)
    0 (0 ∷ here c.args.engine.now) (0 ∷ (without HOUSE (here c.ask_house.new.engine) ++ []))
unasked g c is = ran-to-flush (asked g c false is)

-- they were offered it
offered : (g : Over) (c : In_ok-flush g) → Ran g.H.Asks.may g.H.Asks.state c.args.house.now c.ask_house.new.house (scene (g.W.Wire.state c.args.wire.now) c.args.lists.now c.args.engine.now) (scene (g.W.Wire.state c.ask_house.new.wire) c.ask_house.new.lists c.ask_house.new.engine) 0 (0 ∷ here c.args.engine.now) (0 ∷ (without HOUSE (here c.ask_house.new.engine) ++ []))
    → Ran g.H.Asks.may g.H.Asks.state c.args.house.now c.ask_house.new.house (scene (g.W.Wire.state c.args.wire.now) c.args.lists.now c.args.engine.now) (scene_of (g.W.Wire.state c.flush.new.wire) c.flush.new.held c.ask_house.new.lists.failed c.flush.new.engine) 0 (0 ∷ here c.args.engine.now) []
offered g c before = ran-then c.in_ok-ask_house.ensures.house.present before (serves-ran (c.in_ok-flush.ensures.serving []))

-- ---- an order

pub returns-then-branch-clause-serving : goal.returns-then-branch-clause-serving
returns-then-branch-clause-serving g c = (ran-again (asked g (goal.at.returns-then-branch-clause-serving g c).In_ok-ask_house true c.if-branch.true)).runs

pub returns-in_err-ask_house-clause-serving : goal.returns-in_err-ask_house-clause-serving
returns-in_err-ask_house-clause-serving g c first calls before policy pid start given hands v = on-err c.from_residual.result _ _ c.from_residual.ensures.0 (c.in_err-ask_house.ensures.serving first calls before policy pid start given hands v)

-- ---- what waits is offered

pub flush-requires : goal.flush-requires
flush-requires g c = record { served = is-served (served-then c.in_ok-ask_house.ensures.house.present c.requires.ongoing.served (unasked g (goal.at.flush-requires g c).In_ok-ask_house c.if-branch.false)) }

pub returns-in_err-flush-clause-serving : goal.returns-in_err-flush-clause-serving
returns-in_err-flush-clause-serving g c =
    runs-cut c.from_residual-in_err-flush.result 1 (λ (more : Bool). cond more 1 0) (λ (more : Bool). cond more (0 ∷ here c.flush.new.engine) []) c.from_residual-in_err-flush.ensures.0
    (cut-then c.in_ok-ask_house.ensures.house.present (unasked g (goal.at.returns-in_err-flush-clause-serving g c).In_ok-ask_house c.if-branch.false) (serves-cut (c.in_err-flush.ensures.serving []))) (omega arith)

-- ---- nothing is sent

pub returns-then-not-present-clause-serving : goal.returns-then-not-present-clause-serving
returns-then-not-present-clause-serving g c = let p = goal.at.returns-then-not-present-clause-serving g c in (offered g p.In_ok-flush (unasked g p.In_ok-ask_house c.if-branch.false)).runs

pub returns-then-not-present-clause-together : goal.returns-then-not-present-clause-together
returns-then-not-present-clause-together g c =
    let p = goal.at.returns-then-not-present-clause-together g c in
    let served = served-then c.in_ok-ask_house.ensures.house.present c.requires.ongoing.served (offered g p.In_ok-flush (unasked g p.In_ok-ask_house c.if-branch.false)) in
    together-still c.in_ok-ask_house.ensures.together (same-house _ _ refl) c.flush.ensures.places refl served.serving.held_is

-- ---- what it sends

pub returns-clause-serving : goal.returns-clause-serving
returns-clause-serving g c =
    let p = goal.at.returns-clause-serving g c in
    runs-then c.speak.result c.speak.new.house (scene_of (g.W.Wire.state c.speak.new.wire) c.flush.new.held c.ask_house.new.lists.failed c.speak.new.engine) 1 (λ (more : Bool). cond more 1 0) (λ (more : Bool). cond more (0 ∷ here c.speak.new.engine) []) c.in_ok-ask_house.ensures.house.present
    (offered g p.In_ok-flush (unasked g p.In_ok-ask_house c.if-branch.false)) (c.speak.ensures.serving c.flush.new.held c.ask_house.new.lists.failed)

pub returns-clause-together : goal.returns-clause-together
returns-clause-together g c =
    let H = g.H.Asks in
    let p = goal.at.returns-clause-together g c in
    let served = served-then c.in_ok-ask_house.ensures.house.present c.requires.ongoing.served (offered g p.In_ok-flush (unasked g p.In_ok-ask_house c.if-branch.false)) in
    on-ok c.speak.result (λ (known : SameHouse (H.state c.ask_house.new.house).known (H.state c.speak.new.house).known). together-still c.in_ok-ask_house.ensures.together known (places-then _ _ _ c.flush.ensures.places c.speak.ensures.streams.places) refl (served.serving.held_is ∙ sym c.speak.ensures.streams.blocked)) c.speak.ensures.house.known

pub returns-clause-house : goal.returns-clause-house
returns-clause-house g c =
    let H = g.H.Asks in
    let h1 = c.ask_house.new.house in
    record {
      present = on-ok c.speak.result (λ (known : SameHouse (H.state h1).known (H.state c.speak.new.house).known). known.present ∙ c.in_ok-ask_house.ensures.house.present) c.speak.ensures.house.known;
      must = c.speak.ensures.house.must ∙ c.ask_house.ensures.house.must;
    }

pub returns-clause-alone : goal.returns-clause-alone
returns-clause-alone g c out =
    let H = g.H.Asks in
    let h1 = c.ask_house.new.house in
    let there : (H.state h1).known.present ≡ true = sym c.present.ensures.present ∙ c.if-not-present.false in
    true-false (sym there ∙ (c.in_ok-ask_house.ensures.house.present ∙ out))

pub returns-clause-ended : goal.returns-clause-ended
returns-clause-ended g c =
    let p = goal.at.returns-clause-ended g c in
    let served = served-then c.in_ok-ask_house.ensures.house.present c.requires.ongoing.served (offered g p.In_ok-flush (unasked g p.In_ok-ask_house c.if-branch.false)) in
    ends-said c.speak.result _ _ _ _ _ _ (sym c.in_ok-ask_house.ensures.house.present ∙ (sym c.present.ensures.present ∙ c.if-not-present.false)) (c.speak.ensures.ends c.flush.new.held c.ask_house.new.lists.failed served)

pub returns-then-branch-clause-offered : goal.returns-then-branch-clause-offered
returns-then-branch-clause-offered g c = λ e. true-false e

pub returns-in_err-ask_house-clause-offered : goal.returns-in_err-ask_house-clause-offered
returns-in_err-ask_house-clause-offered g c = on-err c.from_residual.result _ _ c.from_residual.ensures.0 tt

pub returns-in_err-flush-clause-offered : goal.returns-in_err-flush-clause-offered
returns-in_err-flush-clause-offered g c = on-err c.from_residual-in_err-flush.result _ _ c.from_residual-in_err-flush.ensures.0 tt

pub returns-then-not-present-clause-offered : goal.returns-then-not-present-clause-offered
returns-then-not-present-clause-offered g c = λ e. (no-more-held (g.H.Asks.state c.ask_house.new.house) c.ask_house.new.lists c.flush.new.held c.in_ok-flush.ensures.holds (c.in_ok-ask_house.ensures.ready c.if-branch.false)).offered

pub returns-clause-offered : goal.returns-clause-offered
returns-clause-offered g c =
    let H = g.H.Asks in
    let W = g.W.Wire in
    let h1 = c.ask_house.new.house in
    let lists = c.ask_house.new.lists in
    on-unsaid c.speak.result (H.state h1) (H.state c.speak.new.house) (W.state c.flush.new.wire).seen (W.state c.speak.new.wire).seen c.flush.new.engine c.speak.new.engine (record lists { held = c.flush.new.held })
    (no-more-held (H.state h1) lists c.flush.new.held c.in_ok-flush.ensures.holds (c.in_ok-ask_house.ensures.ready c.if-branch.false)).offered c.speak.ensures.silent

pub returns-clause-ready : goal.returns-clause-ready
returns-clause-ready g c =
    let H = g.H.Asks in
    let W = g.W.Wire in
    let h1 = c.ask_house.new.house in
    let lists = c.ask_house.new.lists in
    let there : (H.state h1).known.present ≡ true = sym c.present.ensures.present ∙ c.if-not-present.false in
    let ready = c.in_ok-ask_house.ensures.ready c.if-branch.false in
    on-said c.speak.result (H.state h1) (H.state c.speak.new.house) (W.state c.flush.new.wire).seen (W.state c.speak.new.wire).seen c.flush.new.engine c.speak.new.engine c.flush.new.held lists.failed lists.own c.speak.ensures.house.known there (no-more-held (H.state h1) lists c.flush.new.held c.in_ok-flush.ensures.holds ready) c.speak.ensures.silent

-- ---- how the run ends

pub returns-in_err-ask_house-clause-alone : goal.returns-in_err-ask_house-clause-alone
returns-in_err-ask_house-clause-alone g c out = waits-err c.from_residual.result _ _ c.from_residual.ensures.0

pub returns-in_err-flush-clause-alone : goal.returns-in_err-flush-clause-alone
returns-in_err-flush-clause-alone g c out = waits-err c.from_residual-in_err-flush.result _ _ c.from_residual-in_err-flush.ensures.0

pub returns-then-branch-clause-alone : goal.returns-then-branch-clause-alone
returns-then-branch-clause-alone g c out = both-ways c.ask_house.result (c.in_ok-ask_house.was ∙ ap (λ (b : Bool). Ok b) c.if-branch.true) (c.ask_house.ensures.none out).3

pub returns-then-not-present-clause-alone : goal.returns-then-not-present-clause-alone
returns-then-not-present-clause-alone g c out = record {
  waits = λ is. let z : Ok false ≡ Ok true = is in cc;
  idle = λ none. ap (λ (s : EngineState). s.ended) (c.flush.ensures.idle (ap (λ (s : EngineState). s.waiting) (c.ask_house.ensures.none out).1 ∙ none)).0 ∙ c.in_ok-ask_house.ensures.on;
}

pub returns-in_err-ask_house-clause-ended : goal.returns-in_err-ask_house-clause-ended
returns-in_err-ask_house-clause-ended g c = ends-err c.from_residual.result (g.H.Asks.state c.args.house.now).known.present c.ask_house.new.engine.ended (g.W.Wire.state c.args.wire.now) (g.W.Wire.state c.ask_house.new.wire) (g.W.Wire.faults c.args.wire.now) (g.W.Wire.faults c.ask_house.new.wire) c.from_residual.ensures.0 (λ out. ap (λ (w : _). (g.W.Wire.state w).seen.last_own) (c.ask_house.ensures.none out).2)

pub returns-then-branch-clause-ended : goal.returns-then-branch-clause-ended
returns-then-branch-clause-ended g c = ends-live (Ok true) (g.H.Asks.state c.args.house.now).known.present c.ask_house.new.engine.ended (g.W.Wire.state c.args.wire.now) (g.W.Wire.state c.ask_house.new.wire) (g.W.Wire.faults c.args.wire.now) (g.W.Wire.faults c.ask_house.new.wire) c.in_ok-ask_house.ensures.on (λ out. ap (λ (w : _). (g.W.Wire.state w).seen.last_own) (c.ask_house.ensures.none out).2)

pub returns-in_err-flush-clause-ended : goal.returns-in_err-flush-clause-ended
returns-in_err-flush-clause-ended g c = ends-err c.from_residual-in_err-flush.result (g.H.Asks.state c.args.house.now).known.present c.flush.new.engine.ended (g.W.Wire.state c.args.wire.now) (g.W.Wire.state c.flush.new.wire) (g.W.Wire.faults c.args.wire.now) (g.W.Wire.faults c.flush.new.wire) c.from_residual-in_err-flush.ensures.0 (λ out. c.flush.ensures.places.last_own ∙ ap (λ (w : _). (g.W.Wire.state w).seen.last_own) (c.ask_house.ensures.none out).2)

pub returns-then-not-present-clause-ended : goal.returns-then-not-present-clause-ended
returns-then-not-present-clause-ended g c = let W = g.W.Wire in
    ends-offered (Ok false) (g.H.Asks.state c.args.house.now).known.present c.ask_house.new.engine.ended c.flush.new.engine.ended (W.state c.args.wire.now) (W.state c.ask_house.new.wire) (W.state c.flush.new.wire) (W.faults c.args.wire.now) (W.faults c.ask_house.new.wire) (W.faults c.flush.new.wire) c.in_ok-ask_house.ensures.on c.ask_house.ensures.wire.no_fault c.in_ok-flush.ensures.ended c.in_ok-flush.ensures.wire (λ out. c.flush.ensures.places.last_own ∙ ap (λ (w : _). (g.W.Wire.state w).seen.last_own) (c.ask_house.ensures.none out).2)

-- ---- the wire

pub returns-in_err-ask_house-clause-wire : goal.returns-in_err-ask_house-clause-wire
returns-in_err-ask_house-clause-wire g c = works-err c.from_residual.result c.from_residual.ensures.0 c.in_err-ask_house.ensures.wire.works

pub returns-then-branch-clause-wire : goal.returns-then-branch-clause-wire
returns-then-branch-clause-wire g c = works-again (Ok true) c.in_ok-ask_house.ensures.wire.works

pub returns-in_err-flush-clause-wire : goal.returns-in_err-flush-clause-wire
returns-in_err-flush-clause-wire g c = works-then c.in_ok-ask_house.ensures.wire.works (works-err c.from_residual-in_err-flush.result c.from_residual-in_err-flush.ensures.0 c.in_err-flush.ensures.wire)

pub returns-then-not-present-clause-wire : goal.returns-then-not-present-clause-wire
returns-then-not-present-clause-wire g c = works-then c.in_ok-ask_house.ensures.wire.works (works-again (Ok false) c.in_ok-flush.ensures.wire)

pub returns-clause-wire : goal.returns-clause-wire
returns-clause-wire g c =
    let p = goal.at.returns-clause-wire g c in
    let x = (served-then c.in_ok-ask_house.ensures.house.present c.requires.ongoing.served (offered g p.In_ok-flush (unasked g p.In_ok-ask_house c.if-branch.false))).serving in
    works-then c.in_ok-ask_house.ensures.wire.works (works-then c.in_ok-flush.ensures.wire (works-idle c.speak.result (record {
      untouched = c.speak.ensures.wire;
      own_faults = c.speak.ensures.counted x.picked x.replies x.journal x.closed x.stands (x.house_in ∙ (sym c.present.ensures.present ∙ c.if-not-present.false));
    })))
