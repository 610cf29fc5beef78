use Rattle.std.proofs.Common.{◌∙◌, refl, sym}
use Rattle.mux_engine.proofs.Lists.{true-false}
use Rattle.mux_engine.proofs.Places.{places-same}
use Rattle.mux_engine.proofs.Running.{let-inside, match-more-both, side-is, still-outside}
use Rattle.mux_engine.proofs.Wired.{idle-none}
use Rattle.mux_engine.proofs.serving.enter.Goals as goal

pub returns-then-not-present : goal.returns-then-not-present
returns-then-not-present g c = let H = g.H.Asks in record {
  serving = λ first calls before policy pid start held failed given v z. (side-is _ _ (still-outside (H.state c.args.house.now).recorded (H.state c.args.house.now).known calls (sym c.present.ensures.present ∙ c.if-not-present.true)) v, c.requires.on);
  places = places-same _ _ refl;
  alone = λ p. (refl, refl);
  wire = idle-none _ _;
}

pub let_in-requires : goal.let_in-requires
let_in-requires g c = record { on = c.requires.on; refused = c.requires.refused }

pub returns : goal.returns
returns g c = let H = g.H.Asks in let house = H.state c.args.house.now in record {
  serving = λ first calls before policy pid start held failed given v z. match-more-both c.let_in.result _ _ (λ served. side-is _ _ (let-inside house.recorded house.known calls (sym c.present.ensures.present ∙ c.if-not-present.false)) served)
      (c.let_in.ensures.serving house.known.present first before _ policy pid start held failed given v z (sym c.present.ensures.present ∙ c.if-not-present.false));
  places = c.let_in.ensures.places;
  alone = λ p. true-false (sym (sym c.present.ensures.present ∙ c.if-not-present.false) ∙ p);
  wire = c.let_in.ensures.wire;
}
