use Rattle.std.proofs.Common.{◌≡◌, ◌∙◌, ◌++◌, ℕ, Bool, List, true, inl, inr, length, refl, ap, arith}
use Rattle.std.specs.Prelude.{filter}
use Rattle.mux_outside.specs.House.{has_waiting}
use Rattle.mux_outside.specs.OwnStreams.{numbers_of}
use Rattle.mux_outside.specs.Streams.{among}
use Rattle.mux_engine.proofs.Called.{handed-none}
use Rattle.mux_engine.proofs.Arms.{on-err}
use Rattle.mux_engine.proofs.Cuts.{cut-still}
use Rattle.mux_engine.proofs.Owning.{open-housed, open-on, own-numbers, owns-housed, owns-on, took, took-any, took-err, took-none, took-then, waits-or, waits-own}
use Rattle.mux_engine.proofs.Places.{places-same, places-then}
use Rattle.mux_engine.proofs.Wired.{worked-own, worked-own-none, works-own-any, works-own-err, works-own-then}
use Rattle.mux_engine.proofs.owned.own_rounds.Given.{Over}
use Rattle.mux_engine.proofs.owned.own_rounds.Goals.{In_ok-list_waiting}
use Rattle.mux_engine.proofs.owned.own_rounds.Goals as goal

pub loop-wire-init : goal.loop-wire-init
loop-wire-init g c = record {
  serving = λ present first before now policy pid start given todo s accepts none hands v. handed-none _ hands v;
  house = took-none _;
  places = places-same _ _ refl;
  held_is = c.requires.held_is;
  wire = worked-own-none _ _;
}

listed : (g : Over) (c : In_ok-list_waiting g) → c.list_waiting.new.into ≡ filter (has_waiting (g.H.Asks.state c.loop-wire.house).queue c.loop-wire.failed) c.args.own.now
listed g c = let waits : ℕ → Bool = has_waiting (g.H.Asks.state c.loop-wire.house).queue c.loop-wire.failed in
    c.in_ok-list_waiting.ensures ∙ (ap (λ (l : List ℕ). l ++ filter waits (numbers_of (g.H.Asks.state c.loop-wire.house).known.streams)) c.clear.ensures
    ∙ ap (filter waits) (own-numbers c.requires.housed c.loop-wire.invariant.house))

within : (g : Over) (c : In_ok-list_waiting g) (t : ℕ) → among t c.list_waiting.new.into ≡ true → among t c.args.own.now ≡ true
within g c = waits-own (g.H.Asks.state c.loop-wire.house).queue c.loop-wire.failed c.args.own.now c.list_waiting.new.into (listed g c)

pub own_round-requires : goal.own_round-requires
own_round-requires g c = let v = c.loop-wire.invariant in record {
  knows = owns-on (owns-housed c.requires.housed c.requires.held_is) v.house v.places v.held_is;
  each = λ t a. open-on (open-housed _ _ _ c.requires.housed t (within g (goal.at.own_round-requires g c).In_ok-list_waiting t a)) v.house v.places;
}

pub loop-wire-preserved : goal.loop-wire-preserved
loop-wire-preserved g c = let v = c.loop-wire.invariant in let o = c.in_ok-own_round.ensures in record {
  serving = λ present first before now policy pid start given todo s accepts none hands v'.
      let h = v.serving present first before now policy pid start given todo s accepts none hands v' in
      o.serving present first before (record now { calls = h.all }) policy pid start given todo s (λ l. accepts (c.loop-wire.invariant.places.silence l)) none h.hands h.so;
  house = took-then v.house (took o.house);
  places = places-then _ _ _ v.places c.own_round.ensures.places;
  held_is = o.held_is;
  wire = works-own-then v.wire (worked-own o.wire);
}

pub loop-wire-smaller : goal.loop-wire-smaller
loop-wire-smaller g c = omega (arith, c.in_ok-own_round.ensures.fails.fewer c.args.own.now (within g (goal.at.loop-wire-smaller g c).In_ok-list_waiting))

-- ---- out of memory

pub returns-in_err-own_round-clause-serving : goal.returns-in_err-own_round-clause-serving
returns-in_err-own_round-clause-serving g c present first before now policy pid start given todo s accepts none hands v =
    let h = c.loop-wire.invariant.serving present first before now policy pid start given todo s accepts none hands v in
    on-err c.from_residual-in_err-own_round.result _ _ c.from_residual-in_err-own_round.ensures.0 (c.in_err-own_round.ensures.serving present first before (record now { calls = h.all }) policy pid start given todo s (λ l. accepts (c.loop-wire.invariant.places.silence l)) none h.hands h.so)

pub returns-in_err-own_round-clause-house : goal.returns-in_err-own_round-clause-house
returns-in_err-own_round-clause-house g c = took-err c.from_residual-in_err-own_round.result c.from_residual-in_err-own_round.ensures.0 (took-then c.loop-wire.invariant.house c.in_err-own_round.ensures.house)

pub returns-in_err-own_round-clause-places : goal.returns-in_err-own_round-clause-places
returns-in_err-own_round-clause-places g c = places-then _ _ _ c.loop-wire.invariant.places c.own_round.ensures.places

pub returns-in_err-own_round-clause-wire : goal.returns-in_err-own_round-clause-wire
returns-in_err-own_round-clause-wire g c = works-own-err c.from_residual-in_err-own_round.result c.from_residual-in_err-own_round.ensures.0 (works-own-then c.loop-wire.invariant.wire c.in_err-own_round.ensures.wire)

pub returns-in_err-list_waiting-clause-serving : goal.returns-in_err-list_waiting-clause-serving
returns-in_err-list_waiting-clause-serving g c present first before now policy pid start given todo s accepts none hands v = on-err c.from_residual.result _ _ c.from_residual.ensures.0
    (cut-still (c.loop-wire.invariant.serving present first before now policy pid start given todo s accepts none hands v).so _ refl)

pub returns-in_err-list_waiting-clause-house : goal.returns-in_err-list_waiting-clause-house
returns-in_err-list_waiting-clause-house g c = took-any _ c.loop-wire.invariant.house

pub returns-in_err-list_waiting-clause-wire : goal.returns-in_err-list_waiting-clause-wire
returns-in_err-list_waiting-clause-wire g c = works-own-any _ c.loop-wire.invariant.wire

-- ---- the end

pub returns-then-len-before-clause-serving : goal.returns-then-len-before-clause-serving
returns-then-len-before-clause-serving g c present first before now policy pid start given todo s accepts none hands v =
    let h = c.loop-wire.invariant.serving present first before now policy pid start given todo s accepts none hands v in
    c.in_ok-own_round.ensures.serving present first before (record now { calls = h.all }) policy pid start given todo s (λ l. accepts (c.loop-wire.invariant.places.silence l)) none h.hands h.so

pub returns-then-len-before-clause-house : goal.returns-then-len-before-clause-house
returns-then-len-before-clause-house g c = took-any _ (took-then c.loop-wire.invariant.house (took c.in_ok-own_round.ensures.house))

pub returns-then-len-before-clause-places : goal.returns-then-len-before-clause-places
returns-then-len-before-clause-places g c = places-then _ _ _ c.loop-wire.invariant.places c.own_round.ensures.places

pub returns-then-len-before-clause-wire : goal.returns-then-len-before-clause-wire
returns-then-len-before-clause-wire g c = works-own-any _ (works-own-then c.loop-wire.invariant.wire (worked-own c.in_ok-own_round.ensures.wire))

pub returns-then-len-before-clause-offered : goal.returns-then-len-before-clause-offered
returns-then-len-before-clause-offered g c = λ t a.
    let p = (goal.at.returns-then-len-before-clause-offered g c).In_ok-list_waiting in
    let o = c.in_ok-own_round.ensures in
    let same : length c.own_round.new.failed ≡ length c.loop-wire.failed = omega (arith, o.fails.grows) in
    elim (waits-or (g.H.Asks.state c.loop-wire.house).queue c.loop-wire.held c.loop-wire.failed c.args.own.now c.list_waiting.new.into (listed g p) t a) [
      | inl w ↦ o.offered same t w
      | inr q ↦ o.keeps same t q
    ]
