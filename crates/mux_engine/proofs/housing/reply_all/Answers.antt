use Rattle.std.proofs.Common.{◌≡◌, ◌<◌, ◌∙◌, ◌∷◌, sym, ap, refl, subst, cond, ℕ, Bool, List, true, false, length, le_refl}
use Rattle.std.specs.Prelude.{Ok}
use Rattle.mux_outside.specs.House.{Known}
use Rattle.mux_outside.specs.Streams.{without}
use Rattle.mux_history.specs.declared.limits.TheConstants.{HOUSE}
use Rattle.mux_state.specs.Events.{here}
use Rattle.mux_engine.specs.Owned.{IsOwnOffered}
use Rattle.mux_engine.specs.Serving.{scene, scene_of}
use Rattle.mux_engine.specs.Sides.{AnsweredOr, Housed}
use Rattle.mux_engine.proofs.Arms.{on-err}
use Rattle.mux_engine.proofs.Following.{cut-then, own-cut, own-ran, ran-as, runs-cut, served-then}
use Rattle.mux_engine.proofs.Going.{Goes, goes-none, goes-then}
use Rattle.mux_engine.proofs.HouseCalls.{housed-still, same-house}
use Rattle.mux_engine.proofs.Places.{places-then}
use Rattle.mux_engine.proofs.Wired.{worked-own, works-own-any, works-own-err, works-own-idle, works-own-then}
use Rattle.mux_engine.proofs.housing.reply_all.Given.{Over}
use Rattle.mux_engine.proofs.housing.reply_all.Goals.{In_ok-hand_over, In_ok-own_rounds, In_ok-reply}
use Rattle.mux_engine.proofs.housing.reply_all.Goals as goal

-- ---- the steps of a round

-- the forwarder was handed over what waits for it
handed : (g : Over) (c : In_ok-hand_over g) → Goes g.H.Asks.may g.H.Asks.state c.args.house.now c.hand_over.new.house (g.W.Wire.state c.args.wire.now) (g.W.Wire.state c.hand_over.new.wire) (g.W.Wire.faults c.args.wire.now) (g.W.Wire.faults c.hand_over.new.wire)
    (scene (g.W.Wire.state c.args.wire.now) c.args.lists.now c.args.engine.now) (scene_of (g.W.Wire.state c.hand_over.new.wire) c.loop-wire.lists.held c.loop-wire.lists.failed c.hand_over.new.engine) (0 ∷ here c.args.engine.now) (0 ∷ without HOUSE (here c.hand_over.new.engine))
handed g c = goes-then c.loop-wire.invariant.goes record {
  ran = record { runs = c.in_ok-hand_over.ensures.serving c.loop-wire.lists.held c.loop-wire.lists.failed };
  known = same-house _ _ c.in_ok-hand_over.ensures.house.known;
  must = c.hand_over.ensures.house.must;
  places = c.hand_over.ensures.streams.places;
  wire = works-own-idle (Ok tt) c.hand_over.ensures.wire;
}

-- its streams were offered what waits for them
offered : (g : Over) (c : In_ok-own_rounds g) → Goes g.H.Asks.may g.H.Asks.state c.hand_over.new.house c.own_rounds.new.house (g.W.Wire.state c.hand_over.new.wire) (g.W.Wire.state c.own_rounds.new.wire) (g.W.Wire.faults c.hand_over.new.wire) (g.W.Wire.faults c.own_rounds.new.wire)
    (scene_of (g.W.Wire.state c.hand_over.new.wire) c.loop-wire.lists.held c.loop-wire.lists.failed c.hand_over.new.engine) (scene_of (g.W.Wire.state c.own_rounds.new.wire) c.own_rounds.new.held c.own_rounds.new.failed c.hand_over.new.engine) (0 ∷ without HOUSE (here c.hand_over.new.engine)) (0 ∷ without HOUSE (here c.hand_over.new.engine))
offered g c = record {
  ran = own-ran c.own_rounds.ensures.house.recorded c.in_ok-own_rounds.ensures.house.known c.in_ok-own_rounds.ensures.serving c.in_ok-hand_over.ensures.silence;
  known = same-house _ _ c.in_ok-own_rounds.ensures.house.known;
  must = c.own_rounds.ensures.house.must;
  places = c.own_rounds.ensures.places;
  wire = worked-own c.in_ok-own_rounds.ensures.wire;
}

-- it had a reply, or none
replied : (g : Over) (c : In_ok-reply g) (more : Bool) → c.in_ok-reply.field-0 ≡ more → Goes g.H.Asks.may g.H.Asks.state c.own_rounds.new.house c.reply.new.house (g.W.Wire.state c.own_rounds.new.wire) (g.W.Wire.state c.reply.new.wire) (g.W.Wire.faults c.own_rounds.new.wire) (g.W.Wire.faults c.reply.new.wire)
    (scene_of (g.W.Wire.state c.own_rounds.new.wire) c.own_rounds.new.held c.own_rounds.new.failed c.hand_over.new.engine) (scene_of (g.W.Wire.state c.reply.new.wire) c.own_rounds.new.held c.own_rounds.new.failed c.reply.new.engine) (0 ∷ without HOUSE (here c.hand_over.new.engine))
    (cond more (0 ∷ here c.reply.new.engine) (0 ∷ without HOUSE (here c.reply.new.engine)))
replied g c more is = record {
  ran = ran-as c.reply.result 0 (λ (b : Bool). 0) (λ (b : Bool). cond b (0 ∷ here c.reply.new.engine) (0 ∷ without HOUSE (here c.reply.new.engine))) more (c.in_ok-reply.was ∙ ap (λ (b : Bool). Ok b) is) (c.reply.ensures.serving c.own_rounds.new.held c.own_rounds.new.failed);
  known = c.in_ok-reply.ensures.house.known;
  must = c.reply.ensures.house.must;
  places = c.reply.ensures.streams.places;
  wire = works-own-idle (Ok tt) c.reply.ensures.wire;
}

answered : (g : Over) (c : In_ok-reply g) (more : Bool) → c.in_ok-reply.field-0 ≡ more → AnsweredOr more (g.H.Asks.state c.own_rounds.new.house) (g.H.Asks.state c.reply.new.house)
answered g c more is = subst (λ (b : Bool). AnsweredOr b (g.H.Asks.state c.own_rounds.new.house) (g.H.Asks.state c.reply.new.house)) is c.in_ok-reply.ensures.answered

-- ---- the loop

pub loop-wire-init : goal.loop-wire-init
loop-wire-init g c = record { goes = goes-none c.args.house.now (g.W.Wire.state c.args.wire.now) (g.W.Wire.faults c.args.wire.now) _ _; held_is = c.requires.ongoing.together.held_is; own = refl; on = c.requires.ongoing.on }

pub hand_over-requires : goal.hand_over-requires
hand_over-requires g c = let now = c.loop-wire.invariant.goes in record {
  ordering = now.known.ordering ∙ c.requires.ongoing.together.housed.ordering;
  receives = (served-then now.known.present c.requires.ongoing.served now.ran).serving.receives;
}

pub own_rounds-requires : goal.own_rounds-requires
own_rounds-requires g c = let H = g.H.Asks in let W = g.W.Wire in let now = handed g (goal.at.own_rounds-requires g c).In_ok-hand_over in record {
  housed = housed-still (H.state c.args.house.now).known (H.state c.hand_over.new.house).known (W.state c.args.wire.now).seen (W.state c.hand_over.new.wire).seen c.loop-wire.lists.own
      (subst (λ (own : List ℕ). Housed (H.state c.args.house.now).known (W.state c.args.wire.now).seen own) (sym c.loop-wire.invariant.own) c.requires.ongoing.together.housed) now.known now.places;
  held_is = c.loop-wire.invariant.held_is ∙ sym c.hand_over.ensures.streams.blocked;
}

pub reply-requires : goal.reply-requires
reply-requires g c = let p = goal.at.reply-requires g c in let now = goes-then (handed g p.In_ok-hand_over) (offered g p.In_ok-own_rounds) in record {
  ordering = now.known.ordering ∙ c.requires.ongoing.together.housed.ordering;
  present = now.known.present ∙ c.requires.present;
  on = c.hand_over.ensures.ended ∙ c.loop-wire.invariant.on;
}

pub loop-wire-preserved : goal.loop-wire-preserved
loop-wire-preserved g c =
    let p = goal.at.loop-wire-preserved g c in
    let before = goes-then (handed g p.In_ok-hand_over) (offered g p.In_ok-own_rounds) in
    record {
      goes = goes-then before (replied g p.In_ok-reply true c.if-not-branch.false);
      held_is = c.in_ok-own_rounds.ensures.held_is ∙ sym c.reply.ensures.streams.blocked;
      own = c.loop-wire.invariant.own;
      on = c.in_ok-reply.ensures.on c.own_rounds.new.held c.own_rounds.new.failed _ (served-then before.known.present c.requires.ongoing.served before.ran);
    }

pub loop-wire-smaller : goal.loop-wire-smaller
loop-wire-smaller g c =
    let H = g.H.Asks in
    subst (λ (k : Known). length (H.state c.reply.new.house).known.asks < length k.asks) (c.in_ok-own_rounds.ensures.house.known ∙ c.in_ok-hand_over.ensures.house.known) (answered g (goal.at.loop-wire-smaller g c).In_ok-reply true c.if-not-branch.false)

pub returns-then-not-branch : goal.returns-then-not-branch
returns-then-not-branch g c =
    let p = goal.at.returns-then-not-branch g c in
    let before = goes-then (handed g p.In_ok-hand_over) (offered g p.In_ok-own_rounds) in
    let all = goes-then before (replied g p.In_ok-reply false c.if-not-branch.true) in
    let none = answered g p.In_ok-reply false c.if-not-branch.true in
    record {
      serving = all.ran.runs;
      house = record { known = all.known; must = all.must };
      rests = record {
        answers = none.answers;
        offered = λ t a. subst (λ (q : List ℕ). IsOwnOffered q c.own_rounds.new.held c.own_rounds.new.failed t) (sym (none.queues t)) (c.in_ok-own_rounds.ensures.offered t a);
      };
      places = all.places;
      held_is = c.in_ok-own_rounds.ensures.held_is ∙ sym c.reply.ensures.streams.blocked;
      own = c.loop-wire.invariant.own;
      on = c.in_ok-reply.ensures.on c.own_rounds.new.held c.own_rounds.new.failed _ (served-then before.known.present c.requires.ongoing.served before.ran);
      wire = works-own-any _ all.wire;
    }

-- ---- out of memory

pub returns-in_err-hand_over : goal.returns-in_err-hand_over
returns-in_err-hand_over g c = let r = c.from_residual.result in let is_err = c.from_residual.ensures.0 in let before = c.loop-wire.invariant.goes in record {
  serving = runs-cut r 0 (λ x. 0) (λ x. 0 ∷ without HOUSE (here c.hand_over.new.engine)) is_err (cut-then before.known.present before.ran record { runs = c.in_err-hand_over.ensures.serving c.loop-wire.lists.held c.loop-wire.lists.failed }) (le_refl 0);
  house = record { known = on-err r _ _ is_err tt; must = c.hand_over.ensures.house.must ∙ before.must };
  places = places-then _ _ _ before.places c.hand_over.ensures.streams.places;
  held_is = on-err r _ _ is_err tt;
  own = c.loop-wire.invariant.own;
  rests = on-err r _ _ is_err tt;
  on = on-err r _ _ is_err tt;
  wire = works-own-then before.wire (works-own-idle r c.hand_over.ensures.wire);
}

pub returns-in_err-own_rounds : goal.returns-in_err-own_rounds
returns-in_err-own_rounds g c = let r = c.from_residual-in_err-own_rounds.result in let is_err = c.from_residual-in_err-own_rounds.ensures.0 in let before = handed g (goal.at.returns-in_err-own_rounds g c).In_ok-hand_over in record {
  serving = runs-cut r 0 (λ x. 0) (λ x. 0 ∷ without HOUSE (here c.hand_over.new.engine)) is_err (cut-then before.known.present before.ran (own-cut c.own_rounds.ensures.house.recorded c.in_err-own_rounds.ensures.serving (goal.at.returns-in_err-own_rounds g c).In_ok-hand_over.in_ok-hand_over.ensures.silence)) (le_refl 0);
  house = record { known = on-err r _ _ is_err tt; must = c.own_rounds.ensures.house.must ∙ before.must };
  places = places-then _ _ _ before.places c.own_rounds.ensures.places;
  held_is = on-err r _ _ is_err tt;
  own = c.loop-wire.invariant.own;
  rests = on-err r _ _ is_err tt;
  on = on-err r _ _ is_err tt;
  wire = works-own-then before.wire (works-own-err r is_err c.in_err-own_rounds.ensures.wire);
}

pub returns-in_err-reply : goal.returns-in_err-reply
returns-in_err-reply g c =
    let r = c.from_residual-in_err-reply.result in
    let is_err = c.from_residual-in_err-reply.ensures.0 in
    let p = goal.at.returns-in_err-reply g c in
    let before = goes-then (handed g p.In_ok-hand_over) (offered g p.In_ok-own_rounds) in
    record {
      serving = runs-cut r 0 (λ x. 0) (λ x. 0 ∷ without HOUSE (here c.reply.new.engine)) is_err (cut-then before.known.present before.ran record { runs = c.in_err-reply.ensures.serving c.own_rounds.new.held c.own_rounds.new.failed }) (le_refl 0);
      house = record { known = on-err r _ _ is_err tt; must = c.reply.ensures.house.must ∙ before.must };
      places = places-then _ _ _ before.places c.reply.ensures.streams.places;
      held_is = on-err r _ _ is_err tt;
      own = c.loop-wire.invariant.own;
      rests = on-err r _ _ is_err tt;
      on = on-err r _ _ is_err tt;
      wire = works-own-then before.wire (works-own-idle r c.reply.ensures.wire);
    }
