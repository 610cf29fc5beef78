use Rattle.std.proofs.Common.{◌≡◌, ◌+◌, ◌∷◌, ◌++◌, ◌∙◌, sym, ap, subst, refl, ℕ, List, get_or, drop, true, arith}
use Rattle.mux_outside.specs.Streams.{among, without}
use Rattle.mux_history.specs.declared.limits.TheConstants.{HOUSE}
use Rattle.mux_state.specs.State.{EngineState, waiting_streams}
use Rattle.mux_engine.proofs.Arms.{none-there, on-err}
use Rattle.mux_engine.proofs.Cuts.{cut-still}
use Rattle.mux_engine.proofs.Following.{served-on}
use Rattle.mux_engine.proofs.Lists.{drop-next, element-among, same-open}
use Rattle.mux_engine.proofs.Loops.{clients-of, more-left, only-waiting, server-behind, todo-is, waits-open}
use Rattle.mux_engine.proofs.Places.{places-same, places-then}
use Rattle.mux_engine.proofs.Wired.{worked, worked-none, works-any, works-err, works-none, works-then}
use Rattle.mux_engine.proofs.settling.offer_clients.Goals as goal

pub loop-stream-init : goal.loop-stream-init
loop-stream-init g c =
    let s : EngineState = c.args.engine.now in
    let w = c.requires.served in
    let items : c.as_slice-stream-items.result.now ≡ clients-of c.waiting.result.now = c.as_slice-stream-items.ensures ∙ (c.remove-2.ensures ∙ ap (without HOUSE) (c.remove.ensures ∙ ap (without 0) (c.in_ok-refill.ensures.ok ∙ c.as_slice.ensures))) in
    let listed : c.waiting.result.now ≡ waiting_streams s = c.waiting.ensures.listed w.serving.picked w.serving.replies w.serving.journal w.serving.closed w.serving.stands in
    record {
      serving = λ left present first before now policy pid start failed given v. todo-is (clients-of c.waiting.result.now ++ (0 ∷ left)) (c.as_slice-stream-items.result.now ++ (0 ∷ left)) (ap (λ l. l ++ (0 ∷ left)) (sym items)) (only-waiting left v c.waiting.result.now (c.waiting.ensures.waits v.picked v.replies v.journal v.closed v.stands));
      streams = refl;
      holds = λ t a. a;
      places = places-same _ _ refl;
      clients = λ t a. waits-open s t (subst (λ (l : List ℕ). among t l ≡ true) (items ∙ ap clients-of listed) a);
      ended = refl;
      silence = c.requires.silence;
      wire = worked-none _ _;
      none = λ e. items ∙ ap clients-of (c.waiting.ensures.exact ∙ e);
      idle = λ e. (refl, refl);
    }

pub offer-requires-clause-served : goal.offer-requires-clause-served
offer-requires-clause-served g c = let w = c.requires.served in
    served-on w (c.loop-stream.invariant.serving w.todo w.present w.first w.before w.now w.policy w.pid w.start w.failed w.given (more-left w.todo w.serving))

pub offer-requires-clause-stream : goal.offer-requires-clause-stream
offer-requires-clause-stream g c =
    let items : List ℕ = c.as_slice-stream-items.result.now in let i : ℕ = c.loop-stream.stream-index in
    let client = c.loop-stream.invariant.clients (get_or items i 0) (element-among i items (omega arith)) in
    record { opened = same-open c.args.engine.now c.loop-stream.engine (get_or items i 0) c.loop-stream.invariant.streams ∙ client.opened; no_house = client.no_house }

pub returns-in_err-offer-clause-serving : goal.returns-in_err-offer-clause-serving
returns-in_err-offer-clause-serving g c left present first before now policy pid start failed given v =
    let items : List ℕ = c.as_slice-stream-items.result.now in let i : ℕ = c.loop-stream.stream-index in
    let k : ℕ = get_or items i 0 in
    on-err c.from_residual-in_err-offer.result _ _ c.from_residual-in_err-offer.ensures.0
    (c.in_err-offer.ensures.serving (drop (i + 1) items ++ (0 ∷ left)) (server-behind (k ∷ drop (i + 1) items) left) present first before now policy pid start failed given
    (todo-is (drop i items ++ (0 ∷ left)) (k ∷ (drop (i + 1) items ++ (0 ∷ left))) (ap (λ l. l ++ (0 ∷ left)) (drop-next i items (omega arith))) (c.loop-stream.invariant.serving left present first before now policy pid start failed given v)))

pub returns-in_err-offer-clause-places : goal.returns-in_err-offer-clause-places
returns-in_err-offer-clause-places g c = places-then _ _ _ c.loop-stream.invariant.places c.offer.ensures.places

pub loop-stream-preserved : goal.loop-stream-preserved
loop-stream-preserved g c =
    let items : List ℕ = c.as_slice-stream-items.result.now in let i : ℕ = c.loop-stream.stream-index in
    let k : ℕ = get_or items i 0 in
    record {
      serving = λ left present first before now policy pid start failed given v. c.in_ok-offer.ensures.serving (drop (i + 1) items ++ (0 ∷ left)) (server-behind (k ∷ drop (i + 1) items) left) present first before now policy pid start failed given
          (todo-is (drop i items ++ (0 ∷ left)) (k ∷ (drop (i + 1) items ++ (0 ∷ left))) (ap (λ l. l ++ (0 ∷ left)) (drop-next i items (omega arith))) (c.loop-stream.invariant.serving left present first before now policy pid start failed given v));
      streams = c.in_ok-offer.ensures.engine.streams ∙ c.loop-stream.invariant.streams;
      holds = λ t a. c.in_ok-offer.ensures.holds t (c.loop-stream.invariant.holds t a);
      places = places-then _ _ _ c.loop-stream.invariant.places c.offer.ensures.places;
      clients = c.loop-stream.invariant.clients;
      ended = c.in_ok-offer.ensures.engine.client (c.loop-stream.invariant.clients k (element-among i items (omega arith))).no_server ∙ c.loop-stream.invariant.ended;
      silence = c.in_ok-offer.ensures.silence (c.loop-stream.invariant.clients k (element-among i items (omega arith))).no_server;
      wire = works-then c.loop-stream.invariant.wire (worked c.in_ok-offer.ensures.wire);
      none = c.loop-stream.invariant.none;
      idle = λ e. none-there i items (omega arith) (c.loop-stream.invariant.none e);
    }

pub returns-in_err-offer-clause-idle : goal.returns-in_err-offer-clause-idle
returns-in_err-offer-clause-idle g c = λ e. none-there c.loop-stream.stream-index c.as_slice-stream-items.result.now (omega arith) (c.loop-stream.invariant.none e)

pub returns-in_err-refill-clause-serving : goal.returns-in_err-refill-clause-serving
returns-in_err-refill-clause-serving g c left present first before now policy pid start failed given v = on-err c.from_residual.result _ _ c.from_residual.ensures.0 (cut-still v _ refl)

pub returns-in_err-refill-clause-places : goal.returns-in_err-refill-clause-places
returns-in_err-refill-clause-places g c = places-same _ _ refl

pub returns-in_err-refill-clause-idle : goal.returns-in_err-refill-clause-idle
returns-in_err-refill-clause-idle g c = λ none. (refl, refl)

-- ---- the wire

pub returns-in_err-refill-clause-wire : goal.returns-in_err-refill-clause-wire
returns-in_err-refill-clause-wire g c = works-none _ _ _

pub returns-in_err-offer-clause-wire : goal.returns-in_err-offer-clause-wire
returns-in_err-offer-clause-wire g c = works-err c.from_residual-in_err-offer.result c.from_residual-in_err-offer.ensures.0 (works-then c.loop-stream.invariant.wire c.in_err-offer.ensures.wire)

pub returns-clause-wire : goal.returns-clause-wire
returns-clause-wire g c = works-any _ c.loop-stream.invariant.wire
