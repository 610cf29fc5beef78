use Rattle.std.proofs.Common.{◌∷◌, ◌∙◌, sym, ap, refl}
use Rattle.mux_outside.specs.Streams.{among}
use Rattle.mux_engine.proofs.Arms.{offered-none, offered-then, on-err, unchanged-then}
use Rattle.mux_engine.proofs.Following.{served-on}
use Rattle.mux_engine.proofs.Lists.{same-open}
use Rattle.mux_engine.proofs.Loops.{on-done, on-more, twice-among, zero-among}
use Rattle.mux_engine.proofs.Places.{places-same, places-then}
use Rattle.mux_engine.proofs.Todo.{held-back, wider}
use Rattle.mux_engine.proofs.Wired.{worked, worked-none, works-any, works-err, works-none, works-then}
use Rattle.mux_engine.proofs.settling.offer.Goals as goal

pub loop-init : goal.loop-init
loop-init g c = let w = c.requires.served in record {
  serving = λ todo zero present first before now policy pid start failed given v. v;
  engine = offered-none _ _ _;
  holds = λ t a. a;
  places = places-same _ _ refl;
  free = ap (among c.args.stream) (sym w.serving.held_is) ∙ sym c.if-contains.ensures;
  silence = c.requires.silence;
  wire = worked-none _ _;
  idle = λ none. (refl, refl);
}

pub offer_once-requires-clause-served : goal.offer_once-requires-clause-served
offer_once-requires-clause-served g c = let w = c.requires.served in
    served-on w (c.loop.invariant.serving (0 ∷ w.todo) (zero-among c.args.stream w.todo) w.present w.first w.before w.now w.policy w.pid w.start w.failed w.given (wider c.args.stream (wider 0 w.serving)))

pub offer_once-requires-clause-stream : goal.offer_once-requires-clause-stream
offer_once-requires-clause-stream g c = record { opened = same-open c.args.engine.now c.loop.engine c.args.stream c.loop.invariant.engine.streams ∙ c.requires.stream.opened; no_house = c.requires.stream.no_house }

-- ---- out of memory

pub returns-in_err-offer_once-clause-serving : goal.returns-in_err-offer_once-clause-serving
returns-in_err-offer_once-clause-serving g c todo zero present first before now policy pid start failed given v = on-err c.from_residual.result _ _ c.from_residual.ensures.0
    (c.in_err-offer_once.ensures.serving (c.args.stream ∷ todo) (twice-among c.args.stream todo zero) present first before now policy pid start failed given (c.loop.invariant.serving todo zero present first before now policy pid start failed given v))

-- ---- once more

pub loop-preserved : goal.loop-preserved
loop-preserved g c = record {
  serving = λ todo zero present first before now policy pid start failed given v. on-more c.args.stream todo _ c.if-branch.true (c.in_ok-offer_once.ensures.serving (c.args.stream ∷ todo) (twice-among c.args.stream todo zero) present first before now policy pid start failed given (c.loop.invariant.serving todo zero present first before now policy pid start failed given v));
  engine = offered-then c.loop.invariant.engine c.in_ok-offer_once.ensures.engine;
  holds = λ t a. c.in_ok-offer_once.ensures.holds t (c.loop.invariant.holds t a);
  places = places-then _ _ _ c.loop.invariant.places c.offer_once.ensures.places;
  free = (c.in_ok-offer_once.ensures.more c.if-branch.true).free;
  silence = (c.in_ok-offer_once.ensures.more c.if-branch.true).silence;
  wire = works-then c.loop.invariant.wire (worked c.in_ok-offer_once.ensures.wire);
  idle = unchanged-then c.args.stream c.args.engine.now c.loop.engine c.offer_once.new.engine c.args.wire.now c.loop.wire c.offer_once.new.wire c.loop.invariant.idle c.offer_once.ensures.idle;
}

-- ---- the end

pub returns-clause-serving : goal.returns-clause-serving
returns-clause-serving g c todo zero present first before now policy pid start failed given v = on-done c.args.stream todo _ c.if-branch.false (c.in_ok-offer_once.ensures.serving (c.args.stream ∷ todo) (twice-among c.args.stream todo zero) present first before now policy pid start failed given (c.loop.invariant.serving todo zero present first before now policy pid start failed given v))

pub returns-clause-holds : goal.returns-clause-holds
returns-clause-holds g c = λ t a. c.in_ok-offer_once.ensures.holds t (c.loop.invariant.holds t a)

-- ---- the stream is blocked

pub returns-then-contains-clause-serving : goal.returns-then-contains-clause-serving
returns-then-contains-clause-serving g c todo zero present first before now policy pid start failed given v = held-back c.args.stream v c.requires.stream.opened c.requires.stream.no_house (sym c.if-contains.ensures)

-- ---- where nothing waits

pub returns-clause-idle : goal.returns-clause-idle
returns-clause-idle g c = unchanged-then c.args.stream c.args.engine.now c.loop.engine c.offer_once.new.engine c.args.wire.now c.loop.wire c.offer_once.new.wire c.loop.invariant.idle c.offer_once.ensures.idle

pub returns-in_err-offer_once-clause-idle : goal.returns-in_err-offer_once-clause-idle
returns-in_err-offer_once-clause-idle g c = unchanged-then c.args.stream c.args.engine.now c.loop.engine c.offer_once.new.engine c.args.wire.now c.loop.wire c.offer_once.new.wire c.loop.invariant.idle c.offer_once.ensures.idle

pub returns-then-contains-clause-idle : goal.returns-then-contains-clause-idle
returns-then-contains-clause-idle g c = λ none. (refl, refl)

-- ---- the streams and listeners

pub returns-clause-places : goal.returns-clause-places
returns-clause-places g c = places-then _ _ _ c.loop.invariant.places c.offer_once.ensures.places

pub returns-in_err-offer_once-clause-places : goal.returns-in_err-offer_once-clause-places
returns-in_err-offer_once-clause-places g c = places-then _ _ _ c.loop.invariant.places c.offer_once.ensures.places

pub returns-then-contains-clause-places : goal.returns-then-contains-clause-places
returns-then-contains-clause-places g c = places-same _ _ refl

-- ---- clients are accepted only as the engine does

pub returns-clause-silence : goal.returns-clause-silence
returns-clause-silence g c = c.in_ok-offer_once.ensures.silence

pub returns-then-contains-clause-silence : goal.returns-then-contains-clause-silence
returns-then-contains-clause-silence g c = λ nz. c.requires.silence

-- ---- the engine and the wire

pub loop-smaller : goal.loop-smaller
loop-smaller g c = (c.in_ok-offer_once.ensures.more c.if-branch.true).less

pub returns-clause-engine : goal.returns-clause-engine
returns-clause-engine g c = offered-then c.loop.invariant.engine c.in_ok-offer_once.ensures.engine

pub returns-then-contains-clause-engine : goal.returns-then-contains-clause-engine
returns-then-contains-clause-engine g c = offered-none _ _ _

pub returns-clause-wire : goal.returns-clause-wire
returns-clause-wire g c = works-any _ (works-then c.loop.invariant.wire (worked c.in_ok-offer_once.ensures.wire))

pub returns-in_err-offer_once-clause-wire : goal.returns-in_err-offer_once-clause-wire
returns-in_err-offer_once-clause-wire g c = works-err c.from_residual.result c.from_residual.ensures.0 (works-then c.loop.invariant.wire c.in_err-offer_once.ensures.wire)

pub returns-then-contains-clause-wire : goal.returns-then-contains-clause-wire
returns-then-contains-clause-wire g c = works-none _ _ _
