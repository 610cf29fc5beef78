use Rattle.std.proofs.Common.{◌∙◌, refl, ap, inl}
use Rattle.mux_state.specs.State.{EngineState, queue_in}
use Rattle.mux_engine.specs.Serving.{IsOfferedTo}
use Rattle.mux_engine.proofs.Arms.{on-err, on-ok, stays, then-stays-or-fails}
use Rattle.mux_engine.proofs.Following.{served-on}
use Rattle.mux_engine.proofs.Loops.{more-left, no-zero, server-idle}
use Rattle.mux_engine.proofs.Places.{places-then}
use Rattle.mux_engine.proofs.Wired.{no-fault-same, no-fault-then, works-behind, works-err, works-then}
use Rattle.mux_engine.proofs.settling.flush.Goals as goal

pub stop_accepting-requires : goal.stop_accepting-requires
stop_accepting-requires g c = record { receives = c.requires.served.serving.receives }

pub offer_clients-requires : goal.offer_clients-requires
offer_clients-requires g c = let w = c.requires.served in record {
  served = served-on w (c.stop_accepting.ensures.serving _ w.present w.first w.before w.now w.policy w.pid w.start w.failed w.given w.todo w.serving);
  silence = c.stop_accepting.ensures.silence;
}

pub offer-requires-clause-served : goal.offer-requires-clause-served
offer-requires-clause-served g c = let w = c.requires.served in
    served-on w (c.in_ok-offer_clients.ensures.serving w.todo w.present w.first w.before w.now w.policy w.pid w.start w.failed w.given
    (more-left w.todo (c.stop_accepting.ensures.serving _ w.present w.first w.before w.now w.policy w.pid w.start w.failed w.given w.todo w.serving)))

pub offer-requires-clause-silence : goal.offer-requires-clause-silence
offer-requires-clause-silence g c = c.in_ok-offer_clients.ensures.silence

pub offer-requires-clause-stream : goal.offer-requires-clause-stream
offer-requires-clause-stream g c = record { opened = refl; no_house = no-zero }

pub returns-in_err-offer_clients-clause-serving : goal.returns-in_err-offer_clients-clause-serving
returns-in_err-offer_clients-clause-serving g c left present first before now policy pid start failed given v = on-err c.from_residual.result _ _ c.from_residual.ensures.0
    (c.in_err-offer_clients.ensures.serving left present first before now policy pid start failed given (c.stop_accepting.ensures.serving _ present first before now policy pid start failed given _ v))

pub returns-in_err-offer_clients-clause-places : goal.returns-in_err-offer_clients-clause-places
returns-in_err-offer_clients-clause-places g c = places-then _ _ _ c.stop_accepting.ensures.streams.places c.offer_clients.ensures.places

pub returns-clause-serving : goal.returns-clause-serving
returns-clause-serving g c left present first before now policy pid start failed given v = c.offer.ensures.serving left refl present first before now policy pid start failed given
    (c.in_ok-offer_clients.ensures.serving left present first before now policy pid start failed given (c.stop_accepting.ensures.serving _ present first before now policy pid start failed given _ v))

pub returns-clause-places : goal.returns-clause-places
returns-clause-places g c = places-then _ _ _ c.stop_accepting.ensures.streams.places (places-then _ _ _ c.offer_clients.ensures.places c.offer.ensures.places)

pub returns-clause-holds : goal.returns-clause-holds
returns-clause-holds g c = on-ok c.offer.result (λ h t a. h t (c.in_ok-offer_clients.ensures.holds t a)) c.offer.ensures.holds

-- ---- the engine

pub returns-clause-streams : goal.returns-clause-streams
returns-clause-streams g c = on-ok c.offer.result (λ (o : IsOfferedTo 0 c.offer_clients.new.engine c.offer.new.engine (g.W.Wire.faults c.offer_clients.new.wire) (g.W.Wire.faults c.offer.new.wire)). o.streams ∙ c.in_ok-offer_clients.ensures.streams) c.offer.ensures.engine

pub returns-clause-ended : goal.returns-clause-ended
returns-clause-ended g c = on-ok c.offer.result (λ (o : IsOfferedTo 0 c.offer_clients.new.engine c.offer.new.engine (g.W.Wire.faults c.offer_clients.new.wire) (g.W.Wire.faults c.offer.new.wire)). then-stays-or-fails _ _ _ _ _ _ (stays _ _ _ _ refl c.stop_accepting.ensures.wire.untouched.no_fault.server)
    (then-stays-or-fails _ _ _ _ _ _ (inl (c.in_ok-offer_clients.ensures.ended, c.offer_clients.ensures.wire.keeps.later)) o.ended)) c.offer.ensures.engine

pub returns-clause-idle : goal.returns-clause-idle
returns-clause-idle g c = λ none.
    let a = c.offer_clients.ensures.idle none in
    let b = c.offer.ensures.idle (ap (λ (s : EngineState). queue_in s 0) a.0 ∙ server-idle c.requires.served.serving none) in
    (b.0 ∙ a.0, no-fault-then c.stop_accepting.ensures.wire.untouched.no_fault (no-fault-same (ap g.W.Wire.faults (b.1 ∙ a.1))))

-- ---- the wire

pub returns-in_err-offer_clients-clause-wire : goal.returns-in_err-offer_clients-clause-wire
returns-in_err-offer_clients-clause-wire g c = works-err c.from_residual.result c.from_residual.ensures.0 (works-behind c.stop_accepting.ensures.wire c.in_err-offer_clients.ensures.wire)

pub returns-clause-wire : goal.returns-clause-wire
returns-clause-wire g c = works-behind c.stop_accepting.ensures.wire (works-then c.in_ok-offer_clients.ensures.wire c.offer.ensures.wire)
