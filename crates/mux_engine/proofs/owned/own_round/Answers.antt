use Rattle.std.proofs.Common.{◌∙◌, ℕ, List, inl, inr, sym, ap, subst, refl, arith, get_or, take_all}
use Rattle.mux_outside.specs.Streams.{among}
use Rattle.mux_engine.specs.Owned.{FailsFurther, IsOwnOffered}
use Rattle.mux_engine.proofs.Called.{handed-none}
use Rattle.mux_engine.proofs.Arms.{on-err}
use Rattle.mux_engine.proofs.Lists.{among-next, element-among}
use Rattle.mux_engine.proofs.Owning.{fails-none, fails-then, fails-within, open-on, owns-on, took, took-any, took-err, took-none, took-then}
use Rattle.mux_engine.proofs.Places.{places-same, places-then}
use Rattle.mux_engine.proofs.Wired.{worked-own, worked-own-none, works-own-any, works-own-err, works-own-then}
use Rattle.mux_engine.proofs.owned.own_round.Goals as goal

pub offer_own-requires : goal.offer_own-requires
offer_own-requires g c = let v = c.loop-stream.invariant in let items : List ℕ = c.as_slice-stream-items.result.now in let i : ℕ = c.loop-stream.stream-index in record {
  knows = owns-on c.requires.knows v.house v.places v.held_is;
  stream = open-on (c.requires.each (get_or items i 0) (sym (ap (among (get_or items i 0)) c.as_slice-stream-items.ensures) ∙ element-among i items (omega arith))) v.house v.places;
}

pub loop-stream-init : goal.loop-stream-init
loop-stream-init g c = record {
  serving = λ present first before now policy pid start given todo s accepts none hands v. handed-none _ hands v;
  house = took-none _;
  places = places-same _ _ refl;
  held_is = c.requires.knows.held_is;
  offered = λ same t h. absurd (cc);
  keeps = λ same t q. q;
  fails = fails-none _ _;
  wire = worked-own-none _ _;
}

pub loop-stream-preserved : goal.loop-stream-preserved
loop-stream-preserved g c = let v = c.loop-stream.invariant in let o = c.in_ok-offer_own.ensures in
    let items : List ℕ = c.as_slice-stream-items.result.now in let i : ℕ = c.loop-stream.stream-index in record {
      serving = λ present first before now policy pid start given todo s accepts none hands v'.
          let h = v.serving present first before now policy pid start given todo s accepts none hands v' in
          o.serving present first before (record now { calls = h.all }) policy pid start given todo s (λ l. accepts (c.loop-stream.invariant.places.silence l)) none h.hands h.so;
      house = took-then v.house (took o.house);
      places = places-then _ _ _ v.places c.offer_own.ensures.places;
      held_is = o.lists.held_is;
      offered = λ same t h. elim (among-next i t items (omega arith) h) [
        | inl a ↦ o.lists.keeps (omega (arith, v.fails.grows, o.lists.fails.grows, same)) t (v.offered (omega (arith, v.fails.grows, o.lists.fails.grows, same)) t a)
        | inr is ↦ subst (λ (j : ℕ). IsOwnOffered ((g.H.Asks.state c.offer_own.new.house).queue j) c.offer_own.new.held c.offer_own.new.failed j) is o.offered
      ];
      keeps = λ same t q. o.lists.keeps (omega (arith, v.fails.grows, o.lists.fails.grows, same)) t (v.keeps (omega (arith, v.fails.grows, o.lists.fails.grows, same)) t q);
      fails = fails-then v.fails (fails-within (element-among i items (omega arith)) o.lists.fails);
      wire = works-own-then v.wire (worked-own o.wire);
    }

-- ---- out of memory

pub returns-in_err-offer_own-clause-serving : goal.returns-in_err-offer_own-clause-serving
returns-in_err-offer_own-clause-serving g c present first before now policy pid start given todo s accepts none hands v =
    let h = c.loop-stream.invariant.serving present first before now policy pid start given todo s accepts none hands v in
    on-err c.from_residual.result _ _ c.from_residual.ensures.0 (c.in_err-offer_own.ensures.serving present first before (record now { calls = h.all }) policy pid start given todo s (λ l. accepts (c.loop-stream.invariant.places.silence l)) none h.hands h.so)

pub returns-in_err-offer_own-clause-house : goal.returns-in_err-offer_own-clause-house
returns-in_err-offer_own-clause-house g c = took-err c.from_residual.result c.from_residual.ensures.0 (took-then c.loop-stream.invariant.house c.in_err-offer_own.ensures.house)

pub returns-in_err-offer_own-clause-places : goal.returns-in_err-offer_own-clause-places
returns-in_err-offer_own-clause-places g c = places-then _ _ _ c.loop-stream.invariant.places c.offer_own.ensures.places

pub returns-in_err-offer_own-clause-wire : goal.returns-in_err-offer_own-clause-wire
returns-in_err-offer_own-clause-wire g c = works-own-err c.from_residual.result c.from_residual.ensures.0 (works-own-then c.loop-stream.invariant.wire c.in_err-offer_own.ensures.wire)

-- ---- the end

pub returns-clause-serving : goal.returns-clause-serving
returns-clause-serving g c = c.loop-stream.invariant.serving

pub returns-clause-offered : goal.returns-clause-offered
returns-clause-offered g c = λ same t a. c.loop-stream.invariant.offered same t (ap (among t) (take_all c.loop-stream.stream-index c.as_slice-stream-items.result.now (omega arith) ∙ c.as_slice-stream-items.ensures) ∙ a)

pub returns-clause-keeps : goal.returns-clause-keeps
returns-clause-keeps g c = c.loop-stream.invariant.keeps

pub returns-clause-house : goal.returns-clause-house
returns-clause-house g c = took-any _ c.loop-stream.invariant.house

pub returns-clause-places : goal.returns-clause-places
returns-clause-places g c = c.loop-stream.invariant.places

pub returns-clause-fails : goal.returns-clause-fails
returns-clause-fails g c = subst (λ (l : List ℕ). FailsFurther l c.args.failed.now c.loop-stream.failed) c.as_slice-stream-items.ensures c.loop-stream.invariant.fails

pub returns-clause-wire : goal.returns-clause-wire
returns-clause-wire g c = works-own-any _ c.loop-stream.invariant.wire
