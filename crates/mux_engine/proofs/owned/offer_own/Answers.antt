use Rattle.std.proofs.Common.{refl, arith}
use Rattle.mux_engine.proofs.Called.{handed-none}
use Rattle.mux_engine.proofs.Arms.{on-err}
use Rattle.mux_engine.proofs.Owning.{fails-none, fails-then, open-on, owns-on, took, took-any, took-err, took-less, took-none, took-then, was-offered}
use Rattle.mux_engine.proofs.Places.{places-same, places-then}
use Rattle.mux_engine.proofs.Wired.{worked-own, worked-own-none, works-own-any, works-own-err, works-own-then}
use Rattle.mux_engine.proofs.owned.offer_own.Goals as goal

pub loop-init : goal.loop-init
loop-init g c = record {
  serving = λ present first before now policy pid start given todo s accepts none hands v. handed-none _ hands v;
  house = took-none _;
  places = places-same _ _ refl;
  held_is = c.requires.knows.held_is;
  keeps = λ same t q. q;
  fails = fails-none _ _;
  wire = worked-own-none _ _;
}

pub own_once-requires : goal.own_once-requires
own_once-requires g c = record {
  knows = owns-on c.requires.knows c.loop.invariant.house c.loop.invariant.places c.loop.invariant.held_is;
  stream = open-on c.requires.stream c.loop.invariant.house c.loop.invariant.places;
}

pub loop-preserved : goal.loop-preserved
loop-preserved g c = let v = c.loop.invariant in let o = c.in_ok-own_once.ensures in record {
  serving = λ present first before now policy pid start given todo s accepts none hands v'.
      let h = v.serving present first before now policy pid start given todo s accepts none hands v' in
      o.serving present first before (record now { calls = h.all }) policy pid start given todo s (λ l. accepts (c.loop.invariant.places.silence l)) none h.hands h.so;
  house = took-then v.house (took o.house);
  places = places-then _ _ _ v.places c.own_once.ensures.places;
  held_is = o.lists.held_is;
  keeps = λ same t q. o.lists.keeps (omega (arith, v.fails.grows, o.lists.fails.grows, same)) t (v.keeps (omega (arith, v.fails.grows, o.lists.fails.grows, same)) t q);
  fails = fails-then v.fails o.lists.fails;
  wire = works-own-then v.wire (worked-own o.wire);
}

pub loop-smaller : goal.loop-smaller
loop-smaller g c = took-less (g.H.Asks.state c.loop.house).queue (g.H.Asks.state c.own_once.new.house).queue c.own_once.new.held c.own_once.new.failed c.args.stream _ c.if-branch.true c.in_ok-own_once.ensures.offered

-- ---- out of memory

pub returns-in_err-own_once-clause-serving : goal.returns-in_err-own_once-clause-serving
returns-in_err-own_once-clause-serving g c present first before now policy pid start given todo s accepts none hands v =
    let h = c.loop.invariant.serving present first before now policy pid start given todo s accepts none hands v in
    on-err c.from_residual.result _ _ c.from_residual.ensures.0 (c.in_err-own_once.ensures.serving present first before (record now { calls = h.all }) policy pid start given todo s (λ l. accepts (c.loop.invariant.places.silence l)) none h.hands h.so)

pub returns-in_err-own_once-clause-house : goal.returns-in_err-own_once-clause-house
returns-in_err-own_once-clause-house g c = took-err c.from_residual.result c.from_residual.ensures.0 (took-then c.loop.invariant.house c.in_err-own_once.ensures.house)

pub returns-in_err-own_once-clause-places : goal.returns-in_err-own_once-clause-places
returns-in_err-own_once-clause-places g c = places-then _ _ _ c.loop.invariant.places c.own_once.ensures.places

pub returns-in_err-own_once-clause-wire : goal.returns-in_err-own_once-clause-wire
returns-in_err-own_once-clause-wire g c = works-own-err c.from_residual.result c.from_residual.ensures.0 (works-own-then c.loop.invariant.wire c.in_err-own_once.ensures.wire)

-- ---- the end

pub returns-clause-serving : goal.returns-clause-serving
returns-clause-serving g c present first before now policy pid start given todo s accepts none hands v =
    let h = c.loop.invariant.serving present first before now policy pid start given todo s accepts none hands v in
    c.in_ok-own_once.ensures.serving present first before (record now { calls = h.all }) policy pid start given todo s (λ l. accepts (c.loop.invariant.places.silence l)) none h.hands h.so

pub returns-clause-offered : goal.returns-clause-offered
returns-clause-offered g c = was-offered (g.H.Asks.state c.loop.house).queue (g.H.Asks.state c.own_once.new.house).queue c.own_once.new.held c.own_once.new.failed c.args.stream _ c.if-branch.false c.in_ok-own_once.ensures.offered

pub returns-clause-house : goal.returns-clause-house
returns-clause-house g c = took-any _ (took-then c.loop.invariant.house (took c.in_ok-own_once.ensures.house))

pub returns-clause-places : goal.returns-clause-places
returns-clause-places g c = places-then _ _ _ c.loop.invariant.places c.own_once.ensures.places

pub returns-clause-lists : goal.returns-clause-lists
returns-clause-lists g c = let v = c.loop.invariant in let o = c.in_ok-own_once.ensures.lists in record {
  held_is = o.held_is;
  keeps = λ same t q. o.keeps (omega (arith, v.fails.grows, o.fails.grows, same)) t (v.keeps (omega (arith, v.fails.grows, o.fails.grows, same)) t q);
  fails = fails-then v.fails o.fails;
}

pub returns-clause-wire : goal.returns-clause-wire
returns-clause-wire g c = works-own-any _ (works-own-then c.loop.invariant.wire (worked-own c.in_ok-own_once.ensures.wire))
