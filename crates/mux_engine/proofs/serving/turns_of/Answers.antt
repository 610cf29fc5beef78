use Rattle.std.proofs.Common.{◌+◌, ◌∙◌, refl, sym, ap, arith}
use Rattle.mux_state.specs.State.{EngineState}
use Rattle.mux_engine.specs.Sides.{RestsOf}
use Rattle.mux_engine.proofs.Arms.{on-err}
use Rattle.mux_engine.proofs.Called.{handed-none, handed-so}
use Rattle.mux_engine.proofs.Counting.{cut-none}
use Rattle.mux_engine.proofs.Cuts.{cut-still}
use Rattle.mux_engine.proofs.Ending.{ends-cut, ends-later, ends-live}
use Rattle.mux_engine.proofs.Lists.{true-false}
use Rattle.mux_engine.proofs.Runs.{promised-more}
use Rattle.mux_engine.proofs.Running.{all-spent, ends-is, given-is, none-settled, present-is, promised-is, went-on, went-over, yet-unsettled}
use Rattle.mux_engine.proofs.Spending.{spent-all, spent-cut, spent-none, spent-on, spent-over, turned-is}
use Rattle.mux_engine.proofs.Wired.{keeps-none, keeps-then}
use Rattle.mux_engine.proofs.serving.turns_of.Goals as goal

pub loop-init : goal.loop-init
loop-init g c = record {
  serving = λ first calls before policy pid start given hands v. handed-none _ hands (given-is given (given + 0) (omega arith) v);
  together = c.requires.ongoing.together;
  present = refl;
  must = refl;
  on = c.requires.ongoing.on;
  settled = c.requires.unsettled;
  first = λ z. (refl, refl, refl);
  unopened = λ p. refl;
  calls = spent-none _ _;
  wire = keeps-none _ _;
}

pub one_turn-requires : goal.one_turn-requires
one_turn-requires g c = let H = g.H.Asks in let w = c.requires.ongoing.served in let i = c.loop.invariant in
    let h = i.serving w.first w.calls w.before w.policy w.pid w.start w.given w.hands w.serving in record {
      ongoing = record {
        served = record {
          first = w.first;
          calls = h.all;
          hands = h.hands;
          before = w.before;
          policy = w.policy;
          pid = w.pid;
          start = w.start;
          given = w.given + c.loop.counter;
          serving = present-is (λ b. RestsOf H.state b w.first) _ _ (sym i.present) h.so;
        };
        together = i.together;
        on = i.on;
      };
    }

pub loop-preserved : goal.loop-preserved
loop-preserved g c = let H = g.H.Asks in let i = c.loop.invariant in let o = c.in_ok-one_turn.ensures in record {
  serving = λ first calls before policy pid start given hands v.
      let h = i.serving first calls before policy pid start given hands v in
      let t = o.serving first h.all before policy pid start (given + c.loop.counter) h.hands (present-is (λ b. RestsOf H.state b first) _ _ (sym i.present) h.so) in
      handed-so t (given-is (given + c.loop.counter + 1) (given + (c.loop.counter + 1)) (omega arith)
      (none-settled _ (o.goes.unsettled c.if-not-branch.false) (went-on _ c.if-not-branch.false (ends-is (λ b. RestsOf H.state b first) _ _ i.present t.so))));
  together = o.together;
  present = o.house.present ∙ i.present;
  must = o.house.must ∙ i.must;
  on = o.goes.goes c.if-not-branch.false;
  settled = o.goes.unsettled c.if-not-branch.false;
  first = λ z. absurd (omega (arith, z));
  unopened = λ p. o.ended.unopened (i.present ∙ p) ∙ i.unopened p;
  calls = spent-on _ _ _ _ _ i.calls (turned-is _ _ _ _ _ _ i.present c.if-not-branch.false o.calls);
  wire = keeps-then i.wire o.wire;
}

pub returns-then-not-branch : goal.returns-then-not-branch
returns-then-not-branch g c = let H = g.H.Asks in let W = g.W.Wire in let i = c.loop.invariant in let o = c.in_ok-one_turn.ensures in let e = o.ended in record {
  serving = λ first calls before policy pid start hands v.
      let h = i.serving first calls before policy pid start 0 hands v in
      let t = o.serving first h.all before policy pid start c.loop.counter h.hands (present-is (λ b. RestsOf H.state b first) _ _ (sym i.present) (given-is (0 + c.loop.counter) c.loop.counter (omega arith) h.so)) in
      handed-so t (went-over c.loop.counter c.args.turns _ (omega arith) (ends-is (λ b. RestsOf H.state b first) _ _ i.present t.so));
  together = o.together;
  house = record { present = o.house.present ∙ i.present; must = o.house.must ∙ i.must };
  goes = record { goes = λ q. true-false (sym q); unsettled = λ q. true-false (sym q); over = λ q. o.goes.over c.if-not-branch.true; refused = λ q. o.goes.refused c.if-not-branch.true };
  offered = o.offered;
  ended = ends-later _ (H.state c.args.house.now).known.present (H.state c.loop.house).known.present c.one_turn.new.engine.ended (W.state c.args.wire.now) (W.state c.loop.wire) (W.state c.one_turn.new.wire)
      (W.faults c.args.wire.now) (W.faults c.loop.wire) (W.faults c.one_turn.new.wire) i.present i.wire.later i.calls.came i.unopened
      record { failed = e.failed; by_row = e.by_row; by_count = e.by_count; unopened = e.unopened };
  calls = spent-over _ c.loop.counter c.args.turns _ _ _ (omega arith) i.calls (turned-is _ _ _ _ _ _ i.present c.if-not-branch.true o.calls)
      (λ z p. o.idle (ap (λ (s : EngineState). s.waiting) (i.first z).1 ∙ c.requires.quiet p) (i.present ∙ p));
  idle = λ z. absurd (omega (arith, z));
  wire = keeps-then i.wire o.wire;
}

pub returns : goal.returns
returns g c = let H = g.H.Asks in let W = g.W.Wire in let i = c.loop.invariant in record {
  serving = λ first calls before policy pid start hands v.
      let h = i.serving first calls before policy pid start 0 hands v in
      handed-so h (all-spent c.loop.counter c.args.turns (omega arith) (yet-unsettled _ i.settled (given-is (0 + c.loop.counter) c.loop.counter (omega arith) h.so)));
  together = i.together;
  house = record { present = i.present; must = i.must };
  goes = record { goes = λ e. i.on; unsettled = λ e. i.settled; over = λ e. true-false e; refused = λ e. true-false e };
  offered = λ e. true-false (sym e ∙ i.settled);
  ended = ends-live _ (H.state c.args.house.now).known.present c.loop.engine.ended (W.state c.args.wire.now) (W.state c.loop.wire) (W.faults c.args.wire.now) (W.faults c.loop.wire) i.on i.unopened;
  calls = spent-all _ c.loop.counter c.args.turns _ _ (omega arith) i.calls;
  idle = λ z. let f = i.first (omega (arith, z)) in (f.0, f.1, record { server = ap (λ w. (W.faults w).server) f.2; client = ap (λ w. (W.faults w).client) f.2 });
  wire = i.wire;
}

-- ---- out of memory

pub returns-in_err-one_turn : goal.returns-in_err-one_turn
returns-in_err-one_turn g c = let H = g.H.Asks in let W = g.W.Wire in let i = c.loop.invariant in let r = c.from_residual-in_err-one_turn in let o = c.in_err-one_turn.ensures in record {
  serving = λ first calls before policy pid start hands v.
      let h = i.serving first calls before policy pid start 0 hands v in
      on-err r.result _ _ r.ensures.0 (promised-more (c.loop.counter + 1) c.args.turns (omega arith) (promised-is (λ b. RestsOf H.state b first) _ _ i.present
      (o.serving first h.all before policy pid start c.loop.counter h.hands (present-is (λ b. RestsOf H.state b first) _ _ (sym i.present) (given-is (0 + c.loop.counter) c.loop.counter (omega arith) h.so)))));
  together = on-err r.result _ _ r.ensures.0 tt;
  house = record { present = on-err r.result _ _ r.ensures.0 tt; must = o.house.must ∙ i.must };
  goes = on-err r.result _ _ r.ensures.0 tt;
  offered = on-err r.result _ _ r.ensures.0 tt;
  ended = ends-cut r.result (H.state c.args.house.now).known.present c.one_turn.new.engine.ended (W.state c.args.wire.now) (W.state c.one_turn.new.wire) (W.faults c.args.wire.now) (W.faults c.one_turn.new.wire) r.ensures.0 (λ p. o.ended.unopened (i.present ∙ p) ∙ i.unopened p);
  calls = on-err r.result _ _ r.ensures.0 (spent-cut _ c.loop.counter c.args.turns _ _ _ (omega arith) i.calls o.calls);
  idle = λ z. absurd (omega (arith, z));
  wire = keeps-then i.wire o.wire;
}

pub returns-in_err-piece : goal.returns-in_err-piece
returns-in_err-piece g c = let H = g.H.Asks in let W = g.W.Wire in let r = c.from_residual in record {
  serving = λ first calls before policy pid start hands v. on-err r.result _ _ r.ensures.0 (promised-more 0 c.args.turns (omega arith) (cut-still v _ refl));
  together = on-err r.result _ _ r.ensures.0 tt;
  house = record { present = on-err r.result _ _ r.ensures.0 tt; must = refl };
  goes = on-err r.result _ _ r.ensures.0 tt;
  offered = on-err r.result _ _ r.ensures.0 tt;
  ended = ends-cut r.result (H.state c.args.house.now).known.present c.args.engine.now.ended (W.state c.args.wire.now) (W.state c.args.wire.now) (W.faults c.args.wire.now) (W.faults c.args.wire.now) r.ensures.0 (λ p. refl);
  calls = on-err r.result _ _ r.ensures.0 (cut-none c.args.turns _);
  idle = λ z. (refl, refl, record { server = refl; client = refl });
  wire = keeps-none _ _;
}
