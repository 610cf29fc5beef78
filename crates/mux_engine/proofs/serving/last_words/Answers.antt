use Rattle.std.proofs.Common.{◌+◌, ◌∷◌, ◌∙◌, refl, sym, ap}
use Rattle.mux_outside.specs.House.{Known}
use Rattle.mux_outside.specs.Streams.{without}
use Rattle.mux_history.specs.declared.limits.TheConstants.{HOUSE}
use Rattle.mux_state.specs.Events.{here}
use Rattle.mux_engine.specs.Serving.{scene, scene_of}
use Rattle.mux_engine.proofs.Arms.{on-err, on-ok}
use Rattle.mux_engine.proofs.Called.{handed-none}
use Rattle.mux_engine.proofs.Following.{Ran, own-runs, runs-then}
use Rattle.mux_engine.proofs.HouseCalls.{housed-still, same-house}
use Rattle.mux_engine.proofs.Lists.{true-false}
use Rattle.mux_engine.proofs.Places.{places-same, places-then}
use Rattle.mux_engine.proofs.Stepping.{none-handed, none-more}
use Rattle.mux_engine.proofs.Wired.{works-own-behind, works-own-idle, works-own-none}
use Rattle.mux_engine.proofs.serving.last_words.Given.{Over}
use Rattle.mux_engine.proofs.serving.last_words.Goals.{In_ok-hand_over}
use Rattle.mux_engine.proofs.serving.last_words.Goals as goal

-- ---- there is no forwarder

pub returns-then-not-present : goal.returns-then-not-present
returns-then-not-present g c = let H = g.H.Asks in let house = H.state c.args.house.now in let lists = c.args.lists.now in let t = c.requires.together in
    let out = sym c.present.ensures.present ∙ c.if-not-present.true in record {
      serving = λ first calls before policy pid start given hands v. handed-none _ hands (none-handed v out);
      offered = (none-more house.known house.quiet house.queue (g.W.Wire.state c.args.wire.now).seen lists.held lists.failed lists.own out t.alone t.housed).offered;
      own = refl;
      house = record { known = same-house _ _ refl; must = refl };
      places = places-same _ _ refl;
      ended = refl;
      alone = λ p. (refl, refl);
      wire = works-own-none _ _ _;
    }

-- ---- it is asked for its replies

pub reply_all-requires : goal.reply_all-requires
reply_all-requires g c = record { ongoing = record { served = c.requires.served; together = c.requires.together; on = c.requires.on c.if-all.true }; present = sym c.present.ensures.present ∙ c.if-not-present.false }

pub returns-then-all : goal.returns-then-all
returns-then-all g c = let o = c.reply_all.ensures in record {
  serving = o.serving;
  offered = on-ok c.reply_all.result (λ r. r.offered) o.rests;
  own = o.own;
  house = o.house;
  places = o.places;
  ended = on-ok c.reply_all.result (λ e. e ∙ sym (c.requires.on c.if-all.true)) o.on;
  alone = λ p. true-false (sym (sym c.present.ensures.present ∙ c.if-not-present.false) ∙ p);
  wire = o.wire;
}

-- ---- it is not

pub hand_over-requires : goal.hand_over-requires
hand_over-requires g c = record { ordering = c.requires.together.housed.ordering; receives = c.requires.served.serving.receives }

pub returns-in_err-hand_over : goal.returns-in_err-hand_over
returns-in_err-hand_over g c = let r = c.from_residual in let o = c.in_err-hand_over.ensures in let lists = c.args.lists.now in record {
  serving = λ first calls before policy pid start given hands v. on-err r.result _ _ r.ensures.0 (o.serving lists.held lists.failed first calls before policy pid start given hands v);
  offered = on-err r.result _ _ r.ensures.0 tt;
  own = refl;
  house = record { known = on-err r.result _ _ r.ensures.0 tt; must = o.house.must };
  places = o.streams.places;
  ended = on-err r.result _ _ r.ensures.0 tt;
  alone = λ p. true-false (sym (sym c.present.ensures.present ∙ c.if-not-present.false) ∙ p);
  wire = works-own-idle r.result o.wire;
}

-- it was handed over what waits for it
handed : (g : Over) (c : In_ok-hand_over g) → Ran g.H.Asks.may g.H.Asks.state c.args.house.now c.hand_over.new.house (scene (g.W.Wire.state c.args.wire.now) c.args.lists.now c.args.engine.now) (scene_of (g.W.Wire.state c.hand_over.new.wire) c.args.lists.now.held c.args.lists.now.failed c.hand_over.new.engine) 0 (0 ∷ here c.args.engine.now) (0 ∷ without HOUSE (here c.hand_over.new.engine))
handed g c = record { runs = c.in_ok-hand_over.ensures.serving c.args.lists.now.held c.args.lists.now.failed }

pub own_rounds-requires : goal.own_rounds-requires
own_rounds-requires g c = let H = g.H.Asks in let t = c.requires.together in let o = c.in_ok-hand_over.ensures in record {
  housed = housed-still (H.state c.args.house.now).known (H.state c.hand_over.new.house).known (g.W.Wire.state c.args.wire.now).seen (g.W.Wire.state c.hand_over.new.wire).seen c.args.lists.now.own t.housed (same-house _ _ o.house.known) o.streams.places;
  held_is = t.held_is ∙ sym o.streams.blocked;
}

pub returns : goal.returns
returns g c = let H = g.H.Asks in let W = g.W.Wire in let lists = c.args.lists.now in let o = c.in_ok-hand_over.ensures in let w = c.own_rounds.ensures in record {
  serving = runs-then c.own_rounds.result c.own_rounds.new.house (scene_of (g.W.Wire.state c.own_rounds.new.wire) c.own_rounds.new.held c.own_rounds.new.failed c.hand_over.new.engine) 0 (λ x. 0) (λ x. 0 ∷ without HOUSE (here c.hand_over.new.engine)) (ap (λ (k : Known). k.present) o.house.known)
      (handed g (goal.at.returns g c).In_ok-hand_over) (own-runs c.own_rounds.result H.may H.state c.hand_over.new.house c.own_rounds.new.house (W.state c.hand_over.new.wire).seen (W.state c.own_rounds.new.wire).seen lists.held c.own_rounds.new.held lists.failed c.own_rounds.new.failed
      (0 ∷ without HOUSE (here c.hand_over.new.engine)) c.hand_over.new.engine w.house.recorded w.house.known w.serving o.silence);
  offered = w.offered;
  own = refl;
  house = record { known = on-ok c.own_rounds.result (λ k. same-house _ _ (k ∙ o.house.known)) w.house.known; must = w.house.must ∙ o.house.must };
  places = places-then _ _ _ o.streams.places w.places;
  ended = on-ok c.own_rounds.result (λ k. o.ended) w.house.known;
  alone = λ p. true-false (sym (sym c.present.ensures.present ∙ c.if-not-present.false) ∙ p);
  wire = works-own-behind o.wire w.wire;
}
