use Rattle.std.proofs.Common.{◌∙◌, ◌<◌, refl, sym, ap, subst, ℕ, length}
use Rattle.mux_outside.specs.Seen.{Seen, seen_after_close}
use Rattle.mux_outside.specs.Streams.{without}
use Rattle.mux_state.specs.State.{EngineState, closed_by}
use Rattle.mux_state.specs.Stands.{Closes, IsFirstLost}
use Rattle.mux_engine.specs.Rests.{IsHouseReady}
use Rattle.mux_engine.specs.Serving.{Serving}
use Rattle.mux_engine.specs.Sides.{Housed, RestsOf}
use Rattle.mux_engine.proofs.Closed.{fewer, first-is, housed-closed, serve-closed}
use Rattle.mux_engine.proofs.Readied.{ready-closed}
use Rattle.mux_engine.proofs.Wired.{idle-close, idle-none, idle-then, seen-is}
use Rattle.mux_engine.proofs.settling.close_lost.Goals as goal

pub loop-client-init : goal.loop-client-init
loop-client-init g c = record {
  serving = λ present first before now policy pid start failed given todo v. v;
  ready = λ known quiet queue failed own h. (h, λ r. r);
  ended = refl;
  unopened = refl;
  wire = idle-none _ _;
}

pub loop-client-smaller : goal.loop-client-smaller
loop-client-smaller g c =
    let leaves : IsFirstLost c.in-Some.client c.loop-client.engine.leaving = first-is c.in-Some.client c.in-Some.field-0-1 c.loop-client.engine.leaving (sym c.in-Some.ensures.exact) in
    subst (λ (n : ℕ). n < length c.loop-client.engine.leaving) (ap (λ (s : EngineState). length s.leaving) (sym c.closed.ensures.exact)) (fewer c.in-Some.client c.loop-client.engine.leaving leaves)

pub loop-client-preserved : goal.loop-client-preserved
loop-client-preserved g c =
    let k : ℕ = c.in-Some.client in
    let s : EngineState = c.loop-client.engine in
    let leaves : IsFirstLost k s.leaving = first-is k c.in-Some.field-0-1 s.leaving (sym c.in-Some.ensures.exact) in
    let closes : Closes s (closed_by s k) k = subst (λ (t : EngineState). Closes s t k) c.closed.ensures.exact c.closed.ensures.stands in
    record {
      serving = λ present first before now policy pid start failed given todo v.
          subst (λ (x : Seen). Serving g.H.Asks.may (RestsOf g.H.Asks.state present first) before now policy pid start x c.remove.new.self failed given todo c.closed.new.self) (sym (seen-is c.close.ensures.state))
          (subst (λ h. Serving g.H.Asks.may (RestsOf g.H.Asks.state present first) before now policy pid start (seen_after_close k (g.W.Wire.state c.loop-client.wire).seen) h failed given todo c.closed.new.self) (sym c.remove.ensures)
          (subst (λ (t : EngineState). Serving g.H.Asks.may (RestsOf g.H.Asks.state present first) before now policy pid start (seen_after_close k (g.W.Wire.state c.loop-client.wire).seen) (without k c.loop-client.held) failed given todo t) (sym c.closed.ensures.exact)
          (serve-closed (c.loop-client.invariant.serving present first before now policy pid start failed given todo v) k leaves closes)));
      ready = λ known quiet queue failed own h.
          let w = c.requires.served in
          let was = c.loop-client.invariant.ready known quiet queue failed own h in
          let v = c.loop-client.invariant.serving w.present w.first w.before w.now w.policy w.pid w.start w.failed w.given w.todo w.serving in (
            subst (λ (x : Seen). Housed known x own) (sym (seen-is c.close.ensures.state)) (housed-closed v k leaves known own was.0),
            λ r. subst (λ x. IsHouseReady known quiet queue x failed own c.closed.new.self) (sym c.remove.ensures)
                (subst (λ (t : EngineState). IsHouseReady known quiet queue (without k c.loop-client.held) failed own t) (sym c.closed.ensures.exact)
                (ready-closed v k leaves known quiet queue failed own was.0 (was.1 r))),
          );
      ended = ap (λ (t : EngineState). t.ended) c.closed.ensures.exact ∙ c.loop-client.invariant.ended;
      unopened = ap (λ (x : Seen). x.last_own) (seen-is c.close.ensures.state) ∙ c.loop-client.invariant.unopened;
      wire = idle-then c.loop-client.invariant.wire (idle-close k c.close.ensures.state c.close.ensures.faults);
    }
