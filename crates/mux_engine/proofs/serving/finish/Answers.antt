use Rattle.std.proofs.Common.{[], ◌+◌, ◌∷◌, ◌∙◌, refl, sym, ap, inl, inr}
use Rattle.mux_outside.specs.Streams.{without}
use Rattle.mux_history.specs.declared.limits.TheConstants.{HOUSE}
use Rattle.mux_state.specs.Events.{here}
use Rattle.mux_state.specs.State.{EngineState}
use Rattle.mux_engine.specs.Sides.{all_marks_noted}
use Rattle.mux_engine.proofs.Arms.{on-err, on-ok, stays, then-stays-or-fails}
use Rattle.mux_engine.proofs.Called.{handed-none, handed-so}
use Rattle.mux_engine.proofs.HouseCalls.{same-house}
use Rattle.mux_engine.proofs.Places.{places-same, places-then}
use Rattle.mux_engine.proofs.Lists.{true-false}
use Rattle.mux_engine.proofs.Running.{all-settled, match-more, none-settled, to-last}
use Rattle.mux_engine.proofs.Wired.{no-fault-none, no-fault-same, no-fault-then, works-err, works-none, works-then}
use Rattle.mux_engine.proofs.serving.finish.Goals as goal

pub returns-then-lists : goal.returns-then-lists
returns-then-lists g c = record {
  serving = λ first calls before policy pid start given hands v. handed-none _ hands (all-settled _ c.if-lists.true v);
  house = record { known = same-house _ _ refl; must = refl };
  places = places-same _ _ refl;
  offered = c.requires.offered c.if-lists.true;
  own = refl;
  settled = λ e. refl;
  ended = stays _ _ _ _ refl refl;
  idle = λ none p. (refl, no-fault-none _);
  wire = works-none _ _ _;
}

pub last_words-requires : goal.last_words-requires
last_words-requires g c = let w = c.requires.served in record {
  served = record { first = w.first; calls = w.calls; hands = w.hands; before = w.before; policy = w.policy; pid = w.pid; start = w.start; given = w.given; serving = none-settled _ c.if-lists.false w.serving };
  together = c.requires.together;
  on = c.requires.on;
}

pub flush-requires : goal.flush-requires
flush-requires g c = let H = g.H.Asks in let w = c.requires.served in
    let h = c.in_ok-last_words.ensures.serving w.first w.calls w.before w.policy w.pid w.start w.given w.hands (none-settled _ c.if-lists.false w.serving) in record {
      served = record {
        present = (H.state c.args.house.now).known.present;
        first = w.first;
        before = w.before;
        now = all_marks_noted (H.state c.last_words.new.house).recorded (H.state c.last_words.new.house).known h.all;
        policy = w.policy;
        pid = w.pid;
        start = w.start;
        failed = c.last_words.new.lists.failed;
        given = w.given + 0;
        todo = 0 ∷ without HOUSE (here c.last_words.new.engine);
        serving = h.so;
      };
    }

pub returns-in_err-last_words : goal.returns-in_err-last_words
returns-in_err-last_words g c = let W = g.W.Wire in let r = c.from_residual in let o = c.in_err-last_words.ensures in record {
  serving = λ first calls before policy pid start given hands v. on-err r.result _ _ r.ensures.0 (o.serving first calls before policy pid start given hands (none-settled _ c.if-lists.false v));
  house = record { known = on-err r.result _ _ r.ensures.0 tt; must = o.house.must };
  places = o.places;
  offered = on-err r.result _ _ r.ensures.0 tt;
  own = o.own;
  settled = λ e. true-false (sym e ∙ c.if-lists.false);
  ended = on-err r.result _ _ r.ensures.0 tt;
  idle = λ none p. let a = o.alone p in (a.0, no-fault-same (ap W.faults a.1));
  wire = works-err r.result r.ensures.0 o.wire.works;
}

pub returns : goal.returns
returns g c = let W = g.W.Wire in let o = c.in_ok-last_words.ensures in let f = c.flush.ensures in record {
  serving = λ first calls before policy pid start given hands v.
      let h = o.serving first calls before policy pid start given hands (none-settled _ c.if-lists.false v) in
      match-more c.flush.result _ (λ x. handed-so h x) (f.serving [] _ first before _ policy pid start _ (given + 0) (to-last h.so));
  house = record { known = on-ok c.flush.result (λ e. o.house.known) f.streams; must = o.house.must };
  places = places-then _ _ _ o.places f.places;
  offered = on-ok c.flush.result (λ holds t a. elim (o.offered t a) [ inl none ↦ inl none | inr (inl q) ↦ inr (inl (holds t q)) | inr (inr q) ↦ inr (inr q) ]) f.holds;
  own = o.own;
  settled = λ e. true-false (sym e ∙ c.if-lists.false);
  ended = on-ok c.flush.result (λ e. then-stays-or-fails _ _ _ _ _ _ (stays _ _ _ _ o.ended o.wire.no_fault.server) e) f.ended;
  idle = λ none p. let a = o.alone p in let b = f.idle (ap (λ (s : EngineState). s.waiting) a.0 ∙ none) in
      (b.0 ∙ a.0, no-fault-then (no-fault-same (ap W.faults a.1)) b.1);
  wire = works-then o.wire.works f.wire;
}
