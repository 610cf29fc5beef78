use Rattle.std.proofs.Common.{◌+◌, ◌∙◌, [], refl, sym, ap, subst, arith, List, ℕ}
use Rattle.mux_outside.proofs.HouseCalls.{hands-none}
use Rattle.mux_outside.specs.OwnStreams.{is_one}
use Rattle.mux_outside.specs.Streams.{among}
use Rattle.mux_state.specs.State.{EngineState}
use Rattle.mux_engine.specs.Sides.{Housed, RestsOf}
use Rattle.mux_engine.proofs.Answering.{answer-is, failed-whole, none-given, none-held, over-still, ran-starved, ran-whole, refused-whole, spent-from, stops-whole}
use Rattle.mux_engine.proofs.Arms.{on-err}
use Rattle.mux_engine.proofs.Comes.{came-same, came-then, over-answer, over-later, over-offered}
use Rattle.mux_engine.proofs.Counting.{none-more}
use Rattle.mux_engine.proofs.Ending.{places-cut}
use Rattle.mux_engine.proofs.HouseCalls.{housed-still, same-house}
use Rattle.mux_engine.proofs.Owns.{among-one}
use Rattle.mux_engine.proofs.Running.{given-is, present-is, promised-is}
use Rattle.mux_engine.proofs.Spending.{cut-from, cut-idle, spent-cuts, stops-starved}
use Rattle.mux_engine.proofs.Wired.{keeps-idle, keeps-then, no-fault-then}
use Rattle.mux_engine.proofs.serving.run.Goals as goal

-- ---- there was no memory to admit the forwarder

pub returns-in_err-enter : goal.returns-in_err-enter
returns-in_err-enter g c = let r = c.from_residual in let i = c.enter.ensures.wire in record {
  ran = λ before policy pid start v z. ran-starved _ _ c.args.turns 0 r.result r.ensures.0 (omega arith) (c.in_err-enter.ensures.serving c.args.house.now [] before policy pid start [] [] 0 v z);
  must = refl;
  ended = on-err r.result _ _ r.ensures.0 tt;
  greets = on-err r.result _ _ r.ensures.0 tt;
  calls = record {
    came = came-same _ _ i.untouched.calls;
    stops = stops-starved r.result _ c.args.turns _ _ r.ensures.0 (cut-idle c.args.turns _ _ i.untouched.calls);
  };
  places = places-cut r.result _ _ r.ensures.0 (λ p. c.enter.ensures.places.last_own);
  idle = λ z p. i.untouched.no_fault;
  wire = keeps-idle i;
}

-- ---- the turns

pub turns_of-requires-clause-ongoing : goal.turns_of-requires-clause-ongoing
turns_of-requires-clause-ongoing g c = let H = g.H.Asks in let W = g.W.Wire in let w = c.requires.running.0 in let known = (H.state c.args.house.now).known in
    let entered = c.in_ok-enter.ensures.serving w.first w.calls w.before w.policy w.pid w.start [] [] w.given w.serving c.requires.running.1 in record {
      served = record {
        first = w.first;
        calls = w.calls;
        hands = w.hands;
        before = w.before;
        policy = w.policy;
        pid = w.pid;
        start = w.start;
        given = w.given;
        serving = none-held _ _ c.new-lists.ensures.held c.new-lists.ensures.failed entered.0;
      };
      together = record {
        housed = subst (λ (l : List ℕ). Housed known (W.state c.enter.new.wire).seen l) (sym c.new-lists.ensures.own) (housed-still known known _ _ [] c.requires.housed (same-house known known refl) c.enter.ensures.places);
        alone = c.requires.alone;
        held_is = c.new-lists.ensures.held ∙ entered.0.held_is;
      };
      on = entered.1;
    }

pub returns-in_err-all : goal.returns-in_err-all
returns-in_err-all g c = let r = c.from_residual-in_err-all in let i = c.enter.ensures.wire in let t = c.in_err-all.ensures in record {
  ran = λ before policy pid start v z. ran-starved _ _ c.args.turns c.args.turns r.result r.ensures.0 (omega arith)
      (t.serving c.args.house.now [] before policy pid start (hands-none (g.H.Asks.state c.args.house.now).stands) (none-held _ _ c.new-lists.ensures.held c.new-lists.ensures.failed (c.in_ok-enter.ensures.serving c.args.house.now [] before policy pid start [] [] 0 v z).0));
  must = t.house.must;
  ended = on-err r.result _ _ r.ensures.0 tt;
  greets = on-err r.result _ _ r.ensures.0 tt;
  calls = record {
    came = came-then _ _ _ (came-same _ _ i.untouched.calls) t.calls.came;
    stops = stops-starved r.result _ c.args.turns _ _ r.ensures.0 (cut-from c.args.turns _ _ _ i.untouched.calls t.calls);
  };
  places = places-cut r.result _ _ r.ensures.0 (λ p. t.ended.unopened p ∙ c.enter.ensures.places.last_own);
  idle = λ z p. no-fault-then i.untouched.no_fault (t.idle z).2;
  wire = keeps-then (keeps-idle i) t.wire;
}

-- ---- the end

pub finish-requires-clause-served : goal.finish-requires-clause-served
finish-requires-clause-served g c = let H = g.H.Asks in let w = c.requires.running.0 in
    let entered = (c.in_ok-enter.ensures.serving w.first w.calls w.before w.policy w.pid w.start [] [] w.given w.serving c.requires.running.1).0 in
    let handed = c.in_ok-all.ensures.serving w.first w.calls w.before w.policy w.pid w.start w.hands (given-is w.given 0 (none-given w.serving c.requires.running.1) (none-held _ _ c.new-lists.ensures.held c.new-lists.ensures.failed entered)) in
    let spent = handed.so in record {
      first = w.first;
      calls = handed.all;
      hands = handed.hands;
      before = w.before;
      policy = w.policy;
      pid = w.pid;
      start = w.start;
      given = spent.given;
      serving = present-is (λ b. RestsOf H.state b w.first) _ _ (sym c.in_ok-all.ensures.house.present) spent.serving;
    }

pub returns-in_err-finish : goal.returns-in_err-finish
returns-in_err-finish g c = let H = g.H.Asks in let r = c.from_residual-in_err-finish in let i = c.enter.ensures.wire in let t = c.in_ok-all.ensures in let f = c.in_err-finish.ensures in record {
  ran = λ before policy pid start v z.
      let handed = t.serving c.args.house.now [] before policy pid start (hands-none (H.state c.args.house.now).stands) (none-held _ _ c.new-lists.ensures.held c.new-lists.ensures.failed (c.in_ok-enter.ensures.serving c.args.house.now [] before policy pid start [] [] 0 v z).0) in
      let spent = handed.so in
      ran-starved _ _ c.args.turns (spent.given + 0) r.result r.ensures.0 (none-more spent.given c.args.turns spent.most)
      (promised-is (λ b. RestsOf H.state b c.args.house.now) _ _ t.house.present (f.serving c.args.house.now handed.all before policy pid start spent.given handed.hands (present-is (λ b. RestsOf H.state b c.args.house.now) _ _ (sym t.house.present) spent.serving)));
  must = f.house.must ∙ t.house.must;
  ended = on-err r.result _ _ r.ensures.0 tt;
  greets = on-err r.result _ _ r.ensures.0 tt;
  calls = record {
    came = came-then _ _ _ (came-then _ _ _ (came-same _ _ i.untouched.calls) t.calls.came) f.wire.calls.came;
    stops = stops-starved r.result _ c.args.turns _ _ r.ensures.0 (spent-cuts _ _ c.args.turns _ _ _ (spent-from _ _ c.args.turns _ _ _ i.untouched.calls t.calls) f.wire.calls);
  };
  places = places-cut r.result _ _ r.ensures.0 (λ p. f.places.last_own ∙ (t.ended.unopened p ∙ c.enter.ensures.places.last_own));
  idle = λ z p. let a = c.enter.ensures.alone p in let j = t.idle z in
      no-fault-then (no-fault-then i.untouched.no_fault j.2) (f.idle (ap (λ (s : EngineState). s.waiting) (j.1 ∙ a.0) ∙ c.requires.quiet) (t.house.present ∙ p)).1;
  wire = keeps-then (keeps-then (keeps-idle i) t.wire) f.wire.keeps;
}

pub returns : goal.returns
returns g c = let H = g.H.Asks in let W = g.W.Wire in let p = (H.state c.args.house.now).known.present in
    let i = c.enter.ensures.wire in let t = c.in_ok-all.ensures in let f = c.in_ok-finish.ensures in
    let is = answer-is c.answer_of.result c.finish.new.engine.ended _ _ _ _ (f.house.known.present ∙ t.house.present) c.answer_of.ensures.answer in record {
      ran = λ before policy pid start v z.
          let handed = t.serving c.args.house.now [] before policy pid start (hands-none (H.state c.args.house.now).stands) (none-held _ _ c.new-lists.ensures.held c.new-lists.ensures.failed (c.in_ok-enter.ensures.serving c.args.house.now [] before policy pid start [] [] 0 v z).0) in
          let spent = handed.so in
          let last = f.serving c.args.house.now handed.all before policy pid start spent.given handed.hands (present-is (λ b. RestsOf H.state b c.args.house.now) _ _ (sym t.house.present) spent.serving) in
          ran-whole (H.state c.args.house.now).stands (H.state c.finish.new.house) c.args.turns spent.given _ c.turns_of.new.engine.ended (W.faults c.turns_of.new.wire) (W.faults c.finish.new.wire) _ c.answer_of.result
          (present-is (λ b. RestsOf H.state b c.args.house.now) _ _ t.house.present last.so)
          refl last.hands
          (λ t' one. f.offered t' (ap (among t') (f.own ∙ t.together.housed.own_is) ∙ (among-one t' (W.state c.turns_of.new.wire).seen.own ∙ (ap (is_one t') (sym f.places.own) ∙ one))))
          spent.most spent.all_given f.ended (λ q on. over-still (λ h. (H.state h).known.present) (λ h. (H.state h).must) (λ h. (H.state h).refused) c.turns_of.new.house c.finish.new.house p (f.settled (t.goes.refused q on)) t.house.present (t.goes.over q on)) is;
      must = f.house.must ∙ t.house.must;
      ended = record {
        permitted = λ index e. refused-whole c.answer_of.result c.turns_of.new.engine.ended c.finish.new.engine.ended (W.faults c.turns_of.new.wire) (W.faults c.finish.new.wire) _ index t.ended.by_row f.ended is e;
        failed = failed-whole c.answer_of.result c.turns_of.new.engine.ended c.finish.new.engine.ended (W.faults c.args.wire.now) (W.faults c.enter.new.wire) (W.faults c.turns_of.new.wire) (W.faults c.finish.new.wire) _ (keeps-idle i).later t.wire.later t.ended.failed f.ended is;
        by_count = over-answer p c.answer_of.result c.finish.new.engine.ended _ (W.state c.args.wire.now).calls (W.state c.finish.new.wire).calls c.answer_of.ensures.answer
            (over-offered p c.turns_of.new.engine.ended c.finish.new.engine.ended _ _ (W.state c.args.wire.now).calls (W.state c.turns_of.new.wire).calls (W.state c.finish.new.wire).calls f.ended
            (over-later p c.turns_of.new.engine.ended (W.state c.args.wire.now).calls (W.state c.enter.new.wire).calls (W.state c.turns_of.new.wire).calls (came-same _ _ i.untouched.calls) t.ended.by_count)
            f.wire.calls.came);
      };
      greets = λ there. c.answer_of.ensures.greets ((f.house.known.present ∙ t.house.present) ∙ there);
      calls = record {
        came = came-then _ _ _ (came-then _ _ _ (came-same _ _ i.untouched.calls) t.calls.came) f.wire.calls.came;
        stops = stops-whole p _ (H.state c.finish.new.house).must c.args.turns c.answer_of.result _ _ _ _ c.turns_of.new.engine.ended c.finish.new.engine.ended (W.faults c.turns_of.new.wire) (W.faults c.finish.new.wire) (H.state c.finish.new.house).refused
            i.untouched.calls t.calls f.wire.calls f.ended t.ended.by_row (λ q on. over-still (λ h. (H.state h).known.present) (λ h. (H.state h).must) (λ h. (H.state h).refused) c.turns_of.new.house c.finish.new.house p (f.settled (t.goes.refused q on)) t.house.present (t.goes.over q on))
            (λ out none. let j = t.idle none in let a = c.enter.ensures.alone out in
            ap (λ (s : EngineState). s.ended) ((f.idle (ap (λ (s : EngineState). s.waiting) (j.1 ∙ a.0) ∙ c.requires.quiet) (t.house.present ∙ out)).0 ∙ (j.1 ∙ a.0)) ∙ c.requires.on)
            is;
      };
      places = record {
        known = λ well. record {
          listeners = f.places.listeners ∙ (sym t.together.housed.listeners ∙ sym f.house.known.listeners);
          own = f.places.own ∙ (sym t.together.housed.streams ∙ sym f.house.known.streams);
        };
        unopened = λ out. f.places.last_own ∙ (t.ended.unopened out ∙ c.enter.ensures.places.last_own);
      };
      idle = λ z out. let a = c.enter.ensures.alone out in let j = t.idle z in
          no-fault-then (no-fault-then i.untouched.no_fault j.2) (f.idle (ap (λ (s : EngineState). s.waiting) (j.1 ∙ a.0) ∙ c.requires.quiet) (t.house.present ∙ out)).1;
      wire = keeps-then (keeps-then (keeps-idle i) t.wire) f.wire.keeps;
    }
