use Rattle.std.proofs.Common.{◌≡◌, ◌<◌, ◌∙◌, ℕ, Bool, true, false, List, [], ◌∷◌, length, take, ap, refl, sym, arith, rules}
use Rattle.std.specs.Prelude.{IsTrue}
use Rattle.std.proofs.lemmas.Grind.{common_steps}
use Rattle.mux_outside.specs.OwnStreams.{is_finished}
use Rattle.mux_outside.specs.declared.own_streams.OwnStream.{OwnStream}
use Rattle.mux_outside.specs.HouseCalls.{Failed, Turns}
use Rattle.mux_outside.specs.HouseCalls as call
use Rattle.mux_engine.proofs.Arms.{on-err, some-bytes}
use Rattle.mux_engine.proofs.Called.{handed-more, handed-none}
use Rattle.mux_engine.proofs.Offers.{cut-fails, cut-holds, cut-starved}
use Rattle.mux_engine.proofs.OwnMarks.{own-fails, own-holds, own-takes, still-sound}
use Rattle.mux_engine.proofs.Owns.{taking}
use Rattle.mux_engine.proofs.Owning.{fails-none, fails-one}
use Rattle.mux_engine.proofs.Wired.{seen-is, works-own-none, works-own-starved, works-own-write}
use Rattle.mux_outside.specs.declared.turn.Wrote.TheVariants as wrote
use Rattle.mux_engine.proofs.owned.own_once.Goals as goal

-- where something waits for a stream it is not finished
unfinished : {own : List OwnStream} (k : ℕ) (bytes : List ℕ) (known : List OwnStream) → known ≡ own → (IsTrue (is_finished k known) → bytes ≡ []) → 0 < length bytes → is_finished k own ≡ false
unfinished k bytes known same finished some = ap (is_finished k) (sym same) ∙ by_test (is_finished k known) finished
  where
    by_test : (b : Bool) → (IsTrue b → bytes ≡ []) → b ≡ false
    by_test true e = let none : length bytes ≡ 0 = ap length (e refl) in absurd (omega arith)
    by_test false e = refl

pub returns-in-Took-clause-serving : goal.returns-in-Took-clause-serving
returns-in-Took-clause-serving g c present first before now policy pid start given todo s accepts none hands v =
    handed-more {mid = (g.H.Asks.state c.args.house.now).stands} _ (call.Takes c.args.stream (take c.in-Took.n c.queue_of-bytes.result.now) ∷ []) hands (rw (sym c.queue_of-bytes.ensures.queue) at c.took.ensures.stands)
    (own-takes v c.args.stream c.requires.stream.own c.requires.stream.stream_open c.in-Took.n c.queue_of-bytes.result.now _ (unfinished _ _ _ c.requires.knows.same c.queue_of-bytes.ensures.finished (some-bytes c.queue_of-bytes.result.now (sym c.if-is_empty.ensures))) (sym c.if-contains-2.ensures) none c.in-Took.ensures.bytes (some-bytes c.queue_of-bytes.result.now (sym c.if-is_empty.ensures)) c.in-Took.ensures.wrote accepts (seen-is c.in-Took.ensures.state))

pub returns-in_ok-push-in-Later-clause-serving : goal.returns-in_ok-push-in-Later-clause-serving
returns-in_ok-push-in-Later-clause-serving g c present first before now policy pid start given todo s accepts none hands v =
    handed-none _ hands (own-holds v c.args.stream c.requires.stream.own c.requires.stream.stream_open c.queue_of-bytes.result.now _ _ (unfinished _ _ _ c.requires.knows.same c.queue_of-bytes.ensures.finished (some-bytes c.queue_of-bytes.result.now (sym c.if-is_empty.ensures))) (sym c.if-contains-2.ensures) c.in-Later.ensures.bytes (some-bytes c.queue_of-bytes.result.now (sym c.if-is_empty.ensures)) (seen-is c.in-Later.ensures.state) c.in_ok-push-in-Later.ensures.ok)

pub returns-in_err-push-in-Later-clause-serving : goal.returns-in_err-push-in-Later-clause-serving
returns-in_err-push-in-Later-clause-serving g c present first before now policy pid start given todo s accepts none hands v = on-err c.from_residual.result _ _ c.from_residual.ensures.0
    (cut-holds v _ c.args.stream c.queue_of-bytes.result.now (taking _ v.journal v.places c.args.stream c.requires.stream.stream_open (unfinished _ _ _ c.requires.knows.same c.queue_of-bytes.ensures.finished (some-bytes c.queue_of-bytes.result.now (sym c.if-is_empty.ensures))) (still-sound v c.args.stream c.requires.stream.own c.requires.stream.stream_open (sym c.if-contains-2.ensures))) c.requires.stream.stream_open c.in-Later.ensures.bytes (some-bytes c.queue_of-bytes.result.now (sym c.if-is_empty.ensures)) (seen-is c.in-Later.ensures.state))

pub returns-in_ok-turn-in-Failed-clause-serving : goal.returns-in_ok-turn-in-Failed-clause-serving
returns-in_ok-turn-in-Failed-clause-serving g c present first before now policy pid start given todo s accepts none hands v =
    handed-more _ (Turns (Failed c.args.stream) ∷ []) hands c.in_ok-turn-in-Failed.ensures.stands
    (own-fails v c.args.stream c.requires.stream.own c.requires.stream.stream_open c.queue_of-bytes.result.now _ _ (unfinished _ _ _ c.requires.knows.same c.queue_of-bytes.ensures.finished (some-bytes c.queue_of-bytes.result.now (sym c.if-is_empty.ensures))) (sym c.if-contains-2.ensures) none c.in-Failed.ensures.bytes (some-bytes c.queue_of-bytes.result.now (sym c.if-is_empty.ensures)) (seen-is c.in-Failed.ensures.state) c.in_ok-push-in-Failed.ensures.ok)

pub returns-in_err-push-in-Failed-clause-serving : goal.returns-in_err-push-in-Failed-clause-serving
returns-in_err-push-in-Failed-clause-serving g c present first before now policy pid start given todo s accepts none hands v = on-err c.from_residual-in_err-push-in-Failed.result _ _ c.from_residual-in_err-push-in-Failed.ensures.0
    (cut-fails v _ c.args.stream c.queue_of-bytes.result.now (taking _ v.journal v.places c.args.stream c.requires.stream.stream_open (unfinished _ _ _ c.requires.knows.same c.queue_of-bytes.ensures.finished (some-bytes c.queue_of-bytes.result.now (sym c.if-is_empty.ensures))) (still-sound v c.args.stream c.requires.stream.own c.requires.stream.stream_open (sym c.if-contains-2.ensures))) c.requires.stream.stream_open c.in-Failed.ensures.bytes (some-bytes c.queue_of-bytes.result.now (sym c.if-is_empty.ensures)) (seen-is c.in-Failed.ensures.state))

pub returns-in_err-turn-in-Failed-clause-serving : goal.returns-in_err-turn-in-Failed-clause-serving
returns-in_err-turn-in-Failed-clause-serving g c present first before now policy pid start given todo s accepts none hands v = on-err c.from_residual-in_err-turn-in-Failed.result _ _ c.from_residual-in_err-turn-in-Failed.ensures.0
    (cut-fails v _ c.args.stream c.queue_of-bytes.result.now (taking _ v.journal v.places c.args.stream c.requires.stream.stream_open (unfinished _ _ _ c.requires.knows.same c.queue_of-bytes.ensures.finished (some-bytes c.queue_of-bytes.result.now (sym c.if-is_empty.ensures))) (still-sound v c.args.stream c.requires.stream.own c.requires.stream.stream_open (sym c.if-contains-2.ensures))) c.requires.stream.stream_open c.in-Failed.ensures.bytes (some-bytes c.queue_of-bytes.result.now (sym c.if-is_empty.ensures)) (seen-is c.in-Failed.ensures.state))

pub returns-in-NoMemory-clause-serving : goal.returns-in-NoMemory-clause-serving
returns-in-NoMemory-clause-serving g c present first before now policy pid start given todo s accepts none hands v = cut-starved v _ c.args.stream c.queue_of-bytes.result.now (seen-is c.in-NoMemory.ensures.state)

-- ---- the lists

pub returns-then-contains-clause-lists : goal.returns-then-contains-clause-lists
returns-then-contains-clause-lists g c = record {
  held_is = first_of (search rules, grind (arith, common_steps));
  keeps = first_of (search rules, grind (arith, common_steps));
  fails = fails-none _ _;
}

pub returns-then-is_empty-clause-lists : goal.returns-then-is_empty-clause-lists
returns-then-is_empty-clause-lists g c = record {
  held_is = first_of (search rules, grind (arith, common_steps));
  keeps = first_of (search rules, grind (arith, common_steps));
  fails = fails-none _ _;
}

pub returns-in-Took-clause-lists : goal.returns-in-Took-clause-lists
returns-in-Took-clause-lists g c = record {
  held_is = first_of (search rules, grind (arith, common_steps));
  keeps = first_of (search rules, grind (arith, common_steps));
  fails = fails-none _ _;
}

pub returns-in_ok-push-in-Later-clause-lists : goal.returns-in_ok-push-in-Later-clause-lists
returns-in_ok-push-in-Later-clause-lists g c = record {
  held_is = first_of (search rules, grind (arith, common_steps));
  keeps = first_of (search rules, grind (arith, common_steps));
  fails = fails-none _ _;
}

pub returns-in_ok-turn-in-Failed-clause-lists : goal.returns-in_ok-turn-in-Failed-clause-lists
returns-in_ok-turn-in-Failed-clause-lists g c = record {
  held_is = first_of (search rules, grind (arith, common_steps));
  keeps = first_of (search rules, grind (arith, common_steps));
  fails = fails-one c.args.stream c.args.failed.now _ c.in_ok-push-in-Failed.ensures.ok (sym c.if-contains-2.ensures);
}

-- ---- the wire

pub returns-then-contains-clause-wire : goal.returns-then-contains-clause-wire
returns-then-contains-clause-wire g c = works-own-none _ _ _

pub returns-then-is_empty-clause-wire : goal.returns-then-is_empty-clause-wire
returns-then-is_empty-clause-wire g c = works-own-none _ _ _

pub returns-in-Took-clause-wire : goal.returns-in-Took-clause-wire
returns-in-Took-clause-wire g c = works-own-write _ (wrote.Took c.in-Took.n) c.args.stream c.queue_of-bytes.result.now c.requires.stream.own refl c.in-Took.ensures.state c.in-Took.ensures.cause

pub returns-in_ok-push-in-Later-clause-wire : goal.returns-in_ok-push-in-Later-clause-wire
returns-in_ok-push-in-Later-clause-wire g c = works-own-write _ wrote.Later c.args.stream c.queue_of-bytes.result.now c.requires.stream.own refl c.in-Later.ensures.state c.in-Later.ensures.cause

pub returns-in_err-push-in-Later-clause-wire : goal.returns-in_err-push-in-Later-clause-wire
returns-in_err-push-in-Later-clause-wire g c = works-own-write _ wrote.Later c.args.stream c.queue_of-bytes.result.now c.requires.stream.own refl c.in-Later.ensures.state c.in-Later.ensures.cause

pub returns-in_ok-turn-in-Failed-clause-wire : goal.returns-in_ok-turn-in-Failed-clause-wire
returns-in_ok-turn-in-Failed-clause-wire g c = works-own-write _ wrote.Failed c.args.stream c.queue_of-bytes.result.now c.requires.stream.own refl c.in-Failed.ensures.state c.in-Failed.ensures.cause

pub returns-in_err-push-in-Failed-clause-wire : goal.returns-in_err-push-in-Failed-clause-wire
returns-in_err-push-in-Failed-clause-wire g c = works-own-write _ wrote.Failed c.args.stream c.queue_of-bytes.result.now c.requires.stream.own refl c.in-Failed.ensures.state c.in-Failed.ensures.cause

pub returns-in_err-turn-in-Failed-clause-wire : goal.returns-in_err-turn-in-Failed-clause-wire
returns-in_err-turn-in-Failed-clause-wire g c = works-own-write _ wrote.Failed c.args.stream c.queue_of-bytes.result.now c.requires.stream.own refl c.in-Failed.ensures.state c.in-Failed.ensures.cause

pub returns-in-NoMemory-clause-wire : goal.returns-in-NoMemory-clause-wire
returns-in-NoMemory-clause-wire g c = works-own-starved _ c.args.stream c.queue_of-bytes.result.now c.requires.stream.own c.in-NoMemory.ensures.state c.in-NoMemory.ensures.cause
