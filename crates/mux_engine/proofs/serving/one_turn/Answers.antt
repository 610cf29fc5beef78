use Rattle.std.proofs.Common.{◌≡◌, ◌∷◌, [], refl, sym, ap, cond, inl, inr, ◌∙◌, Bool, true, false}
use Rattle.std.specs.Prelude.{Ok}
use Rattle.mux_history.specs.declared.limits.TheConstants.{HOUSE}
use Rattle.mux_state.specs.Events.{here}
use Rattle.mux_engine.specs.Serving.{scene, scene_of}
use Rattle.mux_engine.specs.Sides.{Together}
use Rattle.mux_engine.proofs.Arms.{on-err}
use Rattle.mux_engine.proofs.Called.{handed-so}
use Rattle.mux_engine.proofs.Ending.{ends-closed, ends-cut, ends-later, refused-none}
use Rattle.mux_engine.proofs.Following.{Ran, WasCut, cut-then, is-served, ran-as, ran-then, served-then, stays-ran}
use Rattle.mux_engine.proofs.HouseCalls.{housed-still, none-given, same-house}
use Rattle.mux_engine.proofs.Lists.{true-false}
use Rattle.mux_engine.proofs.Running.{step-took}
use Rattle.mux_engine.proofs.Spending.{cut-one-more, turned-stepped}
use Rattle.mux_engine.proofs.Stepping.{offered-closed}
use Rattle.mux_engine.proofs.Wired.{idle-then, works-then, works-recorded}
use Rattle.mux_engine.proofs.serving.one_turn.Given.{Over}
use Rattle.mux_engine.proofs.serving.one_turn.Goals.{After-close_lost, After-stop_accepting, In_err-went, In_ok-step_house, In_ok-went}
use Rattle.mux_engine.proofs.serving.one_turn.Goals as goal

-- ---- the forwarder's turn, and what is done before a wait

-- whether the forwarder used a turn
stepped : (g : Over) (c : In_ok-step_house g) (more : Bool) → c.in_ok-step_house.field-0 ≡ more → Ran g.H.Asks.may g.H.Asks.state c.args.house.now c.step_house.new.house (scene (g.W.Wire.state c.args.wire.now) c.args.lists.now c.args.engine.now) (scene (g.W.Wire.state c.step_house.new.wire) c.step_house.new.lists c.step_house.new.engine)
    (cond more 1 0) (0 ∷ here c.args.engine.now) (cond more (0 ∷ here c.step_house.new.engine) [])
stepped g c more is = ran-as c.step_house.result 1 (λ (b : Bool). cond b 1 0) (λ (b : Bool). cond b (0 ∷ here c.step_house.new.engine) []) more (c.in_ok-step_house.was ∙ ap (λ (b : Bool). Ok b) is) c.step_house.ensures.serving

-- the streams of clients that are lost were closed
closed : (g : Over) (c : After-close_lost g) → Ran g.H.Asks.may g.H.Asks.state c.args.house.now c.step_house.new.house (scene (g.W.Wire.state c.args.wire.now) c.args.lists.now c.args.engine.now) (scene (g.W.Wire.state c.step_house.new.wire) c.step_house.new.lists c.step_house.new.engine) 0 (0 ∷ here c.args.engine.now) []
    → Ran g.H.Asks.may g.H.Asks.state c.args.house.now c.step_house.new.house (scene (g.W.Wire.state c.args.wire.now) c.args.lists.now c.args.engine.now) (scene_of (g.W.Wire.state c.close_lost.new.wire) c.close_lost.new.held c.step_house.new.lists.failed c.close_lost.new.engine) 0 (0 ∷ here c.args.engine.now) []
closed g c before = ran-then c.in_ok-step_house.ensures.house.present before (stays-ran c.close_lost.ensures.serving)

-- and no more clients are accepted where none is wanted
hushed : (g : Over) (c : After-stop_accepting g) → Ran g.H.Asks.may g.H.Asks.state c.args.house.now c.step_house.new.house (scene (g.W.Wire.state c.args.wire.now) c.args.lists.now c.args.engine.now) (scene_of (g.W.Wire.state c.close_lost.new.wire) c.close_lost.new.held c.step_house.new.lists.failed c.close_lost.new.engine) 0 (0 ∷ here c.args.engine.now) []
    → Ran g.H.Asks.may g.H.Asks.state c.args.house.now c.step_house.new.house (scene (g.W.Wire.state c.args.wire.now) c.args.lists.now c.args.engine.now) (scene_of (g.W.Wire.state c.stop_accepting.new.wire) c.close_lost.new.held c.step_house.new.lists.failed c.close_lost.new.engine) 0 (0 ∷ here c.args.engine.now) []
hushed g c before = ran-then c.in_ok-step_house.ensures.house.present before (stays-ran (c.stop_accepting.ensures.serving c.close_lost.new.held))

hushed-together : (g : Over) (c : After-stop_accepting g) → Ran g.H.Asks.may g.H.Asks.state c.args.house.now c.step_house.new.house (scene (g.W.Wire.state c.args.wire.now) c.args.lists.now c.args.engine.now) (scene_of (g.W.Wire.state c.close_lost.new.wire) c.close_lost.new.held c.step_house.new.lists.failed c.close_lost.new.engine) 0 (0 ∷ here c.args.engine.now) []
    → Together (g.H.Asks.state c.step_house.new.house) (g.W.Wire.state c.stop_accepting.new.wire) (record c.step_house.new.lists { held = c.close_lost.new.held })
hushed-together g c before =
    let house = g.H.Asks.state c.step_house.new.house in
    let lists = c.step_house.new.lists in
    let t = c.in_ok-step_house.ensures.together in
    record {
      housed = housed-still house.known house.known _ _ lists.own (c.close_lost.ensures.ready house.known house.quiet house.queue lists.failed lists.own t.housed).0 (same-house house.known house.known refl) c.stop_accepting.ensures.streams.places;
      alone = t.alone;
      held_is = (served-then c.in_ok-step_house.ensures.house.present c.requires.ongoing.served (hushed g c before)).serving.held_is;
    }

-- the wait
waited : (g : Over) (c : In_ok-went g) → Ran g.H.Asks.may g.H.Asks.state c.step_house.new.house c.turn.new.house (scene_of (g.W.Wire.state c.stop_accepting.new.wire) c.close_lost.new.held c.step_house.new.lists.failed c.close_lost.new.engine) (scene (g.W.Wire.state c.turn.new.wire) c.turn.new.lists c.turn.new.engine) 1 [] (0 ∷ here c.turn.new.engine)
waited g c = record { runs = c.in_ok-went.ensures.serving }

wanting : (g : Over) (c : In_err-went g) → WasCut g.H.Asks.may g.H.Asks.state c.step_house.new.house c.turn.new.house (scene_of (g.W.Wire.state c.stop_accepting.new.wire) c.close_lost.new.held c.step_house.new.lists.failed c.close_lost.new.engine) (scene (g.W.Wire.state c.turn.new.wire) c.turn.new.lists c.turn.new.engine) 1 []
wanting g c = record { runs = c.in_err-went.ensures.serving }

-- ---- the forwarder used a turn

pub returns-then-branch-clause-serving : goal.returns-then-branch-clause-serving
returns-then-branch-clause-serving g c first calls before policy pid start given hands v =
    let h = c.in_ok-step_house.ensures.serving first calls before policy pid start given hands v in
    handed-so h (inl (step-took given (0 ∷ here c.step_house.new.engine) c.in_ok-step_house.field-0 c.if-branch.true h.so))

pub returns-then-branch-clause-together : goal.returns-then-branch-clause-together
returns-then-branch-clause-together g c = let t = c.in_ok-step_house.ensures.together in record { housed = t.housed; alone = t.alone; held_is = t.held_is }

pub returns-then-branch-clause-house : goal.returns-then-branch-clause-house
returns-then-branch-clause-house g c = let h = c.in_ok-step_house.ensures.house in record { present = h.present; must = h.must }

pub returns-then-branch-clause-ended : goal.returns-then-branch-clause-ended
returns-then-branch-clause-ended g c = let e = c.in_ok-step_house.ensures.ended in record { failed = e.failed; by_row = e.by_row; by_count = e.by_count; unopened = e.unopened }

pub returns-then-branch-clause-offered : goal.returns-then-branch-clause-offered
returns-then-branch-clause-offered g c = λ e. true-false (sym e)

pub returns-then-branch-clause-calls : goal.returns-then-branch-clause-calls
returns-then-branch-clause-calls g c = let o = c.in_ok-step_house.ensures in
    turned-stepped (g.H.Asks.state c.args.house.now).known.present _ _ _ (λ p. (o.alone p).waits (ap (λ b. Ok b) c.if-branch.true)) o.wire.calls

pub returns-then-branch-clause-idle : goal.returns-then-branch-clause-idle
returns-then-branch-clause-idle g c none p = absurd ((c.in_ok-step_house.ensures.alone p).waits (ap (λ b. Ok b) c.if-branch.true))

pub returns-then-branch-clause-wire : goal.returns-then-branch-clause-wire
returns-then-branch-clause-wire g c = c.in_ok-step_house.ensures.wire.keeps

pub returns-in_err-step_house : goal.returns-in_err-step_house
returns-in_err-step_house g c = let W = g.W.Wire in let r = c.from_residual in let o = c.in_err-step_house.ensures in record {
  serving = λ first calls before policy pid start given hands v. on-err r.result _ _ r.ensures.0 (o.serving first calls before policy pid start given hands v);
  together = on-err r.result _ _ r.ensures.0 tt;
  house = record { present = on-err r.result _ _ r.ensures.0 tt; must = o.house.must };
  goes = on-err r.result _ _ r.ensures.0 tt;
  offered = on-err r.result _ _ r.ensures.0 tt;
  ended = ends-cut r.result (g.H.Asks.state c.args.house.now).known.present c.step_house.new.engine.ended (W.state c.args.wire.now) (W.state c.step_house.new.wire) (W.faults c.args.wire.now) (W.faults c.step_house.new.wire) r.ensures.0 o.ended.unopened;
  idle = λ none p. on-err r.result _ _ r.ensures.0 tt;
  calls = on-err r.result _ _ r.ensures.0 (cut-one-more _ _ o.wire.calls);
  wire = o.wire.keeps;
}

-- ---- before a wait

pub close_lost-requires : goal.close_lost-requires
close_lost-requires g c = record { served = is-served (served-then c.in_ok-step_house.ensures.house.present c.requires.ongoing.served (stepped g (goal.at.close_lost-requires g c).In_ok-step_house false c.if-branch.false)) }

pub stop_accepting-requires : goal.stop_accepting-requires
stop_accepting-requires g c =
    let p = goal.at.stop_accepting-requires g c in
    record { receives = (served-then c.in_ok-step_house.ensures.house.present c.requires.ongoing.served (closed g p.After-close_lost (stepped g p.In_ok-step_house false c.if-branch.false))).serving.receives }

-- ---- the run is over

pub returns-then-is_over-clause-serving : goal.returns-then-is_over-clause-serving
returns-then-is_over-clause-serving g c first calls before policy pid start given hands v =
    let p = goal.at.returns-then-is_over-clause-serving g c in
    let h = (hushed g p.After-stop_accepting (closed g p.After-close_lost (stepped g p.In_ok-step_house false c.if-branch.false))).runs first calls before policy pid start given hands v in
    handed-so h (inr (refl, none-given h.so))

pub returns-then-is_over-clause-together : goal.returns-then-is_over-clause-together
returns-then-is_over-clause-together g c =
    let p = goal.at.returns-then-is_over-clause-together g c in
    let t = hushed-together g p.After-stop_accepting (closed g p.After-close_lost (stepped g p.In_ok-step_house false c.if-branch.false)) in record { housed = t.housed; alone = t.alone; held_is = t.held_is }

pub returns-then-is_over-clause-house : goal.returns-then-is_over-clause-house
returns-then-is_over-clause-house g c = let h = c.in_ok-step_house.ensures.house in record { present = h.present; must = h.must }

pub returns-then-is_over-clause-ended : goal.returns-then-is_over-clause-ended
returns-then-is_over-clause-ended g c = let W = g.W.Wire in
    ends-closed _ _ (g.H.Asks.state c.args.house.now).known.present c.step_house.new.engine.ended c.close_lost.new.engine.ended (W.state c.args.wire.now) (W.state c.step_house.new.wire) (W.state c.stop_accepting.new.wire)
    (W.faults c.args.wire.now) (W.faults c.step_house.new.wire) (W.faults c.stop_accepting.new.wire) c.close_lost.ensures.ended (idle-then c.close_lost.ensures.wire c.stop_accepting.ensures.wire).untouched
    (c.stop_accepting.ensures.streams.places.last_own ∙ c.close_lost.ensures.unopened) c.in_ok-step_house.ensures.ended

pub returns-then-is_over-clause-offered : goal.returns-then-is_over-clause-offered
returns-then-is_over-clause-offered g c = let o = c.in_ok-step_house.ensures in let lists = c.step_house.new.lists in
    λ e. offered-closed (g.H.Asks.state c.step_house.new.house) lists.failed lists.own c.close_lost.ensures.ready o.together.housed (o.offered c.if-branch.false)

pub returns-then-is_over-clause-calls : goal.returns-then-is_over-clause-calls
returns-then-is_over-clause-calls g c = let w = works-recorded _ (c.in_ok-step_house.ensures.wire) (idle-then c.close_lost.ensures.wire c.stop_accepting.ensures.wire) in inr (w.calls, inr refl)

pub returns-then-is_over-clause-idle : goal.returns-then-is_over-clause-idle
returns-then-is_over-clause-idle g c none p = let H = g.H.Asks in let o = c.in_ok-step_house.ensures in let house = H.state c.step_house.new.house in
    absurd (c.is_over.ensures.over c.if-is_over.true (c.close_lost.ensures.ended ∙ (o.alone p).idle none) (refused-none house.known.present house.must house.refused (o.house.present ∙ p)))

pub returns-then-is_over-clause-wire : goal.returns-then-is_over-clause-wire
returns-then-is_over-clause-wire g c = let w = works-recorded _ (c.in_ok-step_house.ensures.wire) (idle-then c.close_lost.ensures.wire c.stop_accepting.ensures.wire) in w.keeps

-- ---- a wait

pub turn-requires-clause-served : goal.turn-requires-clause-served
turn-requires-clause-served g c =
    let p = goal.at.turn-requires-clause-served g c in
    served-then c.in_ok-step_house.ensures.house.present c.requires.ongoing.served (hushed g p.After-stop_accepting (closed g p.After-close_lost (stepped g p.In_ok-step_house false c.if-branch.false)))

pub turn-requires-clause-together : goal.turn-requires-clause-together
turn-requires-clause-together g c =
    let p = goal.at.turn-requires-clause-together g c in
    hushed-together g p.After-stop_accepting (closed g p.After-close_lost (stepped g p.In_ok-step_house false c.if-branch.false))

pub turn-requires-clause-ready : goal.turn-requires-clause-ready
turn-requires-clause-ready g c = let house = g.H.Asks.state c.step_house.new.house in let lists = c.step_house.new.lists in let o = c.in_ok-step_house.ensures in
    (c.close_lost.ensures.ready house.known house.quiet house.queue lists.failed lists.own o.together.housed).1 (o.ready c.if-branch.false (sym c.close_lost.ensures.ended ∙ c.is_over.ensures.on c.if-is_over.false))

pub returns-in_err-went : goal.returns-in_err-went
returns-in_err-went g c = let H = g.H.Asks in let W = g.W.Wire in let p = goal.at.returns-in_err-went g c in let r = c.from_residual-in_err-went in let o = c.in_ok-step_house.ensures in let t = c.in_err-went.ensures in
    let before = works-recorded _ o.wire (idle-then c.close_lost.ensures.wire c.stop_accepting.ensures.wire) in
    let both = works-then before t.wire in record {
      serving = λ first calls before policy pid start given hands v. on-err r.result _ _ r.ensures.0
          ((cut-then o.house.present (hushed g p.After-stop_accepting (closed g p.After-close_lost (stepped g p.In_ok-step_house false c.if-branch.false))) (wanting g p.In_err-went)).runs first calls before policy pid start given hands v);
      together = on-err r.result _ _ r.ensures.0 tt;
      house = record { present = on-err r.result _ _ r.ensures.0 tt; must = t.house.must ∙ o.house.must };
      goes = on-err r.result _ _ r.ensures.0 tt;
      offered = on-err r.result _ _ r.ensures.0 tt;
      ended = ends-cut r.result (H.state c.args.house.now).known.present c.turn.new.engine.ended (W.state c.args.wire.now) (W.state c.turn.new.wire) (W.faults c.args.wire.now) (W.faults c.turn.new.wire) r.ensures.0
          (λ p. t.ended.unopened (o.house.present ∙ p) ∙ (c.stop_accepting.ensures.streams.places.last_own ∙ (c.close_lost.ensures.unopened ∙ o.ended.unopened p)));
      idle = λ none p. on-err r.result _ _ r.ensures.0 tt;
      calls = on-err r.result _ _ r.ensures.0 both.calls;
      wire = both.keeps;
    }

pub returns-clause-serving : goal.returns-clause-serving
returns-clause-serving g c first calls before policy pid start given hands v =
    let p = goal.at.returns-clause-serving g c in
    let before_wait = hushed g p.After-stop_accepting (closed g p.After-close_lost (stepped g p.In_ok-step_house false c.if-branch.false)) in
    let h = (ran-then c.in_ok-step_house.ensures.house.present before_wait (waited g p.In_ok-went)).runs first calls before policy pid start given hands v in
    handed-so h (inl h.so)

pub returns-clause-together : goal.returns-clause-together
returns-clause-together g c = let t = c.in_ok-went.ensures.together in record { housed = t.housed; alone = t.alone; held_is = t.held_is }

pub returns-clause-house : goal.returns-clause-house
returns-clause-house g c = let o = c.in_ok-step_house.ensures.house in let t = c.in_ok-went.ensures.house in record { present = t.present ∙ o.present; must = t.must ∙ o.must }

pub returns-clause-ended : goal.returns-clause-ended
returns-clause-ended g c = let H = g.H.Asks in let W = g.W.Wire in let o = c.in_ok-step_house.ensures in let e = c.in_ok-went.ensures.ended in
    let before = works-recorded _ o.wire (idle-then c.close_lost.ensures.wire c.stop_accepting.ensures.wire) in
    ends-later _ (H.state c.args.house.now).known.present (H.state c.step_house.new.house).known.present c.turn.new.engine.ended (W.state c.args.wire.now) (W.state c.stop_accepting.new.wire) (W.state c.turn.new.wire)
    (W.faults c.args.wire.now) (W.faults c.stop_accepting.new.wire) (W.faults c.turn.new.wire) o.house.present before.keeps.later before.calls.came
    (λ p. c.stop_accepting.ensures.streams.places.last_own ∙ (c.close_lost.ensures.unopened ∙ o.ended.unopened p)) record { failed = e.failed; by_row = e.by_row; by_count = e.by_count; unopened = e.unopened }

pub returns-clause-offered : goal.returns-clause-offered
returns-clause-offered g c = λ e. true-false (sym e)

pub returns-clause-calls : goal.returns-clause-calls
returns-clause-calls g c = let before = works-recorded _ c.in_ok-step_house.ensures.wire (idle-then c.close_lost.ensures.wire c.stop_accepting.ensures.wire) in
    let both = works-then before c.in_ok-went.ensures.wire in inl both.calls

pub returns-clause-idle : goal.returns-clause-idle
returns-clause-idle g c none p = let before = works-recorded _ c.in_ok-step_house.ensures.wire (idle-then c.close_lost.ensures.wire c.stop_accepting.ensures.wire) in
    let both = works-then before c.in_ok-went.ensures.wire in both.calls

pub returns-clause-wire : goal.returns-clause-wire
returns-clause-wire g c = let before = works-recorded _ c.in_ok-step_house.ensures.wire (idle-then c.close_lost.ensures.wire c.stop_accepting.ensures.wire) in
    let both = works-then before c.in_ok-went.ensures.wire in both.keeps
