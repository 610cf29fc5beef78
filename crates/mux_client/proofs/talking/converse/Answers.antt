use Rattle.std.specs.Prelude.{Err}
use Rattle.std.proofs.Common.{◌≡◌, ◌∙◌, ◌+◌, [], refl, sym, ap, subst, ℕ, List, inl, arith}
use Rattle.mux_client.specs.declared.stage.TalkStage.TheVariants.{Greets}
use Rattle.mux_client.specs.declared.talked.Talked.TheVariants.{OutOfMemory}
use Rattle.mux_client.specs.Client.{TalkState}
use Rattle.mux_client.specs.Counted.{AnsweredBy}
use Rattle.mux_client.specs.Talking.{IsTalk, Talking, WholeTalk}
use Rattle.mux_client.proofs.Counts.{answered-later, decided-answered, heard-offered, heard-then, well-none, well-on}
use Rattle.mux_client.proofs.ShowLines.{last-here, last-none, last-then, shows-none, shows-then}
use Rattle.mux_client.proofs.TalkSteps.{talk-decided}
use Rattle.mux_client.proofs.WholeTalks.{decided-talk, handed-as, starts-starved, talk-starts, wire-none, wire-then}
use Rattle.mux_client.proofs.talking.converse.Goals as goal

pub returns-in_err-client-clause-talks : goal.returns-in_err-client-clause-talks
returns-in_err-client-clause-talks g c =
    let recorded = (g.W.Wire.state c.args.wire.now).seen.recorded in
    let out = g.S.Sink.recorded c.args.out.now in
    handed-as c.from_residual.result OutOfMemory (λ answer. WholeTalk c.args.asks.now answer recorded recorded out out c.args.out.now c.args.out.now) c.from_residual.ensures.1
    (last-none out c.args.out.now (λ shown due. IsTalk c.args.asks.now OutOfMemory recorded recorded shown due) (starts-starved c.args.asks.now recorded))

pub returns-in_err-piece-clause-talks : goal.returns-in_err-piece-clause-talks
returns-in_err-piece-clause-talks g c =
    let recorded = (g.W.Wire.state c.args.wire.now).seen.recorded in
    let out = g.S.Sink.recorded c.args.out.now in
    handed-as c.from_residual-in_err-piece.result OutOfMemory (λ answer. WholeTalk c.args.asks.now answer recorded recorded out out c.args.out.now c.args.out.now) c.from_residual-in_err-piece.ensures.1
    (last-none out c.args.out.now (λ shown due. IsTalk c.args.asks.now OutOfMemory recorded recorded shown due) (starts-starved c.args.asks.now recorded))

pub loop-init : goal.loop-init
loop-init g c = let recorded = (g.W.Wire.state c.args.wire.now).seen.recorded in record {
  talking = shows-none (g.S.Sink.recorded c.args.out.now) c.args.out.now (λ shown. Talking c.args.asks.now recorded recorded c.new-held.result shown c.in_ok-client.client)
      (subst (λ (h : List ℕ). Talking c.args.asks.now recorded recorded h [] c.in_ok-client.client) (sym c.new-held.ensures)
      (subst (Talking c.args.asks.now recorded recorded [] []) (sym c.in_ok-client.ensures.new) (talk-starts c.args.asks.now recorded)));
  between = record { settled = c.in_ok-client.ensures.settled; blocked = c.requires.joined.none_blocked ∙ sym c.new-held.ensures; is_reply_held = inl c.new-held.ensures };
  first = λ z. ap (λ (s : TalkState). s.stage) c.in_ok-client.ensures.new;
  heard = inl (ap (λ (s : TalkState). s.stage) c.in_ok-client.ensures.new);
  calls = well-none (g.W.Wire.state c.args.wire.now).calls;
  cause = refl;
  sink = refl;
  wire = wire-none (g.W.Wire.state c.args.wire.now);
}

pub returns-in_err-decided-clause-talks : goal.returns-in_err-decided-clause-talks
returns-in_err-decided-clause-talks g c =
    let recorded = (g.W.Wire.state c.args.wire.now).seen.recorded in
    let f = c.loop.invariant.talking in
    handed-as c.from_residual-in_err-decided.result c.in_err-decided.field-0.0
    (λ answer. WholeTalk c.args.asks.now answer recorded (g.W.Wire.state c.offer.new.wire).seen.recorded (g.S.Sink.recorded c.args.out.now) (g.S.Sink.recorded c.loop.out) c.args.out.now c.loop.out) c.from_residual-in_err-decided.ensures.1
    (last-here f (talk-decided (c.in_ok-offer.ensures.talking c.args.asks.now recorded f.more f.holds) c.in_ok-offer.ensures.between.settled c.in_err-decided.field-0.0 c.in_err-decided.ensures))

pub returns-in_err-turn-clause-talks : goal.returns-in_err-turn-clause-talks
returns-in_err-turn-clause-talks g c =
    let recorded = (g.W.Wire.state c.args.wire.now).seen.recorded in
    let f = c.loop.invariant.talking in
    handed-as c.from_residual-in_err-turn.result c.in_err-turn.field-0.0
    (λ answer. WholeTalk c.args.asks.now answer recorded (g.W.Wire.state c.turn.new.wire).seen.recorded (g.S.Sink.recorded c.args.out.now) (g.S.Sink.recorded c.turn.new.out) c.args.out.now c.turn.new.out) c.from_residual-in_err-turn.ensures.1
    (last-then f (c.in_err-turn.ensures.talking recorded f.more (c.in_ok-offer.ensures.talking c.args.asks.now recorded f.more f.holds)))

pub loop-preserved : goal.loop-preserved
loop-preserved g c =
    let recorded = (g.W.Wire.state c.args.wire.now).seen.recorded in
    let i = c.loop.invariant in
    let o = c.in_ok-offer.ensures in
    let t = c.in_ok-turn.ensures in record {
      talking = shows-then i.talking (t.talking recorded i.talking.more (o.talking c.args.asks.now recorded i.talking.more i.talking.holds));
      between = t.between;
      first = λ z. absurd (let w : c.loop.counter + 1 ≡ 0 = z in omega arith);
      heard = heard-then c.loop.counter 1 Greets c.offer.new.client.stage c.turn.new.client.stage (g.W.Wire.state c.args.wire.now).calls (g.W.Wire.state c.offer.new.wire).calls (g.W.Wire.state c.turn.new.wire).calls
          (well-on c.loop.counter 0 c.loop.counter _ _ _ (omega arith) i.calls o.calls)
          (heard-offered 0 Greets c.loop.client.stage c.offer.new.client.stage (g.W.Wire.state c.args.wire.now).calls (g.W.Wire.state c.loop.wire).calls (g.W.Wire.state c.offer.new.wire).calls o.stage i.heard o.calls) t.calls t.came;
      calls = well-on c.loop.counter 1 (c.loop.counter + 1) _ _ _ (omega arith) (well-on c.loop.counter 0 c.loop.counter _ _ _ (omega arith) i.calls o.calls) t.calls;
      cause = t.cause ∙ (o.cause ∙ i.cause);
      sink = t.sink ∙ i.sink;
      wire = wire-then (wire-then i.wire c.offer.ensures.wire) c.turn.ensures.wire;
    }

pub returns-clause-talks : goal.returns-clause-talks
returns-clause-talks g c =
    let recorded = (g.W.Wire.state c.args.wire.now).seen.recorded in
    let f = c.loop.invariant.talking in
    last-here f (decided-talk (c.in_ok-offer-2.ensures.talking c.args.asks.now recorded f.more f.holds) c.in_ok-offer-2.ensures.between.settled c.in_ok-offer-2.ensures.offered c.decided-2.result c.decided-2.ensures)

-- ---- what came

pub returns-in_err-decided-clause-answered : goal.returns-in_err-decided-clause-answered
returns-in_err-decided-clause-answered g c = let W = g.W.Wire in
    handed-as c.from_residual-in_err-decided.result c.in_err-decided.field-0.0 (λ answer. AnsweredBy answer (W.state c.args.wire.now).calls (W.state c.offer.new.wire).calls) c.from_residual-in_err-decided.ensures.1
    (decided-answered c.offer.new.client (Err c.in_err-decided.field-0.0) (W.state c.args.wire.now).calls (W.state c.offer.new.wire).calls c.in_err-decided.ensures
    (heard-offered 0 Greets c.loop.client.stage c.offer.new.client.stage (W.state c.args.wire.now).calls (W.state c.loop.wire).calls (W.state c.offer.new.wire).calls c.in_ok-offer.ensures.stage c.loop.invariant.heard c.in_ok-offer.ensures.calls))

pub returns-in_err-turn-clause-answered : goal.returns-in_err-turn-clause-answered
returns-in_err-turn-clause-answered g c = let W = g.W.Wire in
    handed-as c.from_residual-in_err-turn.result c.in_err-turn.field-0.0 (λ answer. AnsweredBy answer (W.state c.args.wire.now).calls (W.state c.turn.new.wire).calls) c.from_residual-in_err-turn.ensures.1
    (answered-later c.loop.counter c.in_err-turn.field-0.0 (W.state c.args.wire.now).calls (W.state c.offer.new.wire).calls (W.state c.turn.new.wire).calls
    (well-on c.loop.counter 0 c.loop.counter _ _ _ (omega arith) c.loop.invariant.calls c.in_ok-offer.ensures.calls) c.in_err-turn.ensures.came)

pub returns-clause-answered : goal.returns-clause-answered
returns-clause-answered g c = let W = g.W.Wire in
    decided-answered c.offer-2.new.client c.decided-2.result (W.state c.args.wire.now).calls (W.state c.offer-2.new.wire).calls c.decided-2.ensures
    (heard-offered 0 Greets c.loop.client.stage c.offer-2.new.client.stage (W.state c.args.wire.now).calls (W.state c.loop.wire).calls (W.state c.offer-2.new.wire).calls c.in_ok-offer-2.ensures.stage c.loop.invariant.heard c.in_ok-offer-2.ensures.calls)
