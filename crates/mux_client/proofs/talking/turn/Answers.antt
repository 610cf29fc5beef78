use Rattle.std.proofs.Common.{◌≡◌, ◌∙◌, ◌++◌, [], ap, refl, subst, sym, ℕ, List}
use Rattle.mux_outside.specs.CallCounts.{CallCounts}
use Rattle.mux_outside.specs.Streams.{without}
use Rattle.mux_client.specs.declared.talked.Talked.TheVariants.{BadMaster, OutOfMemory, ServerFailed}
use Rattle.mux_outside.specs.declared.turn.Turn.TheVariants as turn
use Rattle.mux_client.specs.Client.{talk_received}
use Rattle.mux_client.specs.Counted.{CountsOfTalk, TalkCountWentUp}
use Rattle.mux_client.proofs.Counts.{came-off, came-read, counts-wait, end-came, piece-came}
use Rattle.mux_client.specs.Talking.{IsTalk, Talking}
use Rattle.mux_client.proofs.ShowLines.{last-none, shows-none}
use Rattle.mux_client.proofs.TalkSteps.{want-of-memory}
use Rattle.mux_client.proofs.TalkTurns.{failed-server, is-zero, no-faults, off-or-on, starved, still-over, still-talking, turn-breaks, turn-ends, turn-fails, turn-frees, turn-gets, turn-starved, without-held}
use Rattle.mux_outside.specs.WireState.{WireState}
use Rattle.mux_client.proofs.talking.turn.Goals as goal

pub returns-in_err-receives-in-Got-clause-talking : goal.returns-in_err-receives-in-Got-clause-talking
returns-in_err-receives-in-Got-clause-talking g c start shown v =
    want-of-memory c.from_residual.result _ _ c.from_residual.ensures.1
    (last-none (g.S.Sink.recorded c.args.out.now) c.args.out.now (λ more due. IsTalk c.args.asks.now OutOfMemory start (g.W.Wire.state c.wait.new.self).seen.recorded (shown ++ more) (shown ++ due))
    (starved (turn-gets (g.W.Wire.state c.args.wire.now).seen v c.requires.between.settled c.requires.offered c.requires.going (g.W.Wire.state c.wait.new.self).seen c.in-Got.field-0 c.wait.new.into
    (is-zero c.in-Got.field-0 _ c.requires.alone.streams c.in-Got.ensures.turn.1) (ap (λ (s : WireState). s.seen) c.in-Got.ensures.state))))

pub returns-in_ok-receives-in-Got-clause-talking : goal.returns-in_ok-receives-in-Got-clause-talking
returns-in_ok-receives-in-Got-clause-talking g c start shown v =
    c.read.ensures.talking start (g.W.Wire.state c.wait.new.self).seen.recorded c.args.held.now shown
    (subst (Talking c.args.asks.now start (g.W.Wire.state c.wait.new.self).seen.recorded c.args.held.now shown) (sym (c.in_ok-receives-in-Got.ensures.exact ∙ ap (λ (b : List ℕ). talk_received b c.args.client.now) c.as_bytes.ensures.bytes))
    (turn-gets (g.W.Wire.state c.args.wire.now).seen v c.requires.between.settled c.requires.offered c.requires.going (g.W.Wire.state c.wait.new.self).seen c.in-Got.field-0 c.wait.new.into
    (is-zero c.in-Got.field-0 _ c.requires.alone.streams c.in-Got.ensures.turn.1) (ap (λ (s : WireState). s.seen) c.in-Got.ensures.state)))

pub returns-in_ok-receives-in-Got-clause-cause : goal.returns-in_ok-receives-in-Got-clause-cause
returns-in_ok-receives-in-Got-clause-cause g c = no-faults c.read.result _ _ c.read.ensures.own c.in-Got.ensures.cause

pub returns-in-End-clause-talking : goal.returns-in-End-clause-talking
returns-in-End-clause-talking g c start shown v =
    let zero : c.in-End.field-0 ≡ 0 = is-zero c.in-End.field-0 _ c.requires.alone.streams c.in-End.ensures.turn.1 in
    off-or-on c.args.client.now c.broken_off.result _ _ c.broken_off.ensures
    (λ none. shows-none (g.S.Sink.recorded c.args.out.now) c.args.out.now (λ more. Talking c.args.asks.now start (g.W.Wire.state c.wait.new.self).seen.recorded c.args.held.now (shown ++ more) c.args.client.now)
    (still-talking (turn-ends (g.W.Wire.state c.args.wire.now).seen v c.requires.between.settled c.requires.offered c.requires.going (g.W.Wire.state c.wait.new.self).seen c.in-End.field-0 c.wait.new.into zero (ap (λ (s : WireState). s.seen) c.in-End.ensures.state) none)))
    (λ at place. last-none (g.S.Sink.recorded c.args.out.now) c.args.out.now (λ more due. IsTalk c.args.asks.now (BadMaster at) start (g.W.Wire.state c.wait.new.self).seen.recorded (shown ++ more) (shown ++ due))
    (still-over shown (turn-breaks (g.W.Wire.state c.args.wire.now).seen v c.requires.between.settled c.requires.offered c.requires.going (g.W.Wire.state c.wait.new.self).seen c.in-End.field-0 c.wait.new.into zero (ap (λ (s : WireState). s.seen) c.in-End.ensures.state) at place)))

pub returns-in-Writable-clause-talking : goal.returns-in-Writable-clause-talking
returns-in-Writable-clause-talking g c start shown v =
    let zero : c.in-Writable.stream ≡ 0 = is-zero c.in-Writable.stream _ c.requires.alone.streams c.in-Writable.ensures.turn.0 in
    shows-none (g.S.Sink.recorded c.args.out.now) c.args.out.now (λ more. Talking c.args.asks.now start (g.W.Wire.state c.wait.new.self).seen.recorded c.remove.new.self (shown ++ more) c.args.client.now)
    (subst (λ (h : List ℕ). Talking c.args.asks.now start (g.W.Wire.state c.wait.new.self).seen.recorded h (shown ++ []) c.args.client.now)
    (sym (c.remove.ensures ∙ ap (λ n. without n c.args.held.now) zero ∙ without-held c.args.held.now c.requires.between.is_reply_held))
    (still-talking (turn-frees (g.W.Wire.state c.args.wire.now).seen v c.requires.between.settled c.requires.offered c.requires.going (g.W.Wire.state c.wait.new.self).seen c.in-Writable.stream c.wait.new.into zero (ap (λ (s : WireState). s.seen) c.in-Writable.ensures.state))))

pub returns-in-Failed-clause-talking : goal.returns-in-Failed-clause-talking
returns-in-Failed-clause-talking g c start shown v =
    last-none (g.S.Sink.recorded c.args.out.now) c.args.out.now (λ more due. IsTalk c.args.asks.now ServerFailed start (g.W.Wire.state c.wait.new.self).seen.recorded (shown ++ more) (shown ++ due))
    (still-over shown (turn-fails (g.W.Wire.state c.args.wire.now).seen v c.requires.between.settled c.requires.offered c.requires.going (g.W.Wire.state c.wait.new.self).seen c.in-Failed.field-0 c.wait.new.into
    (is-zero c.in-Failed.field-0 _ c.requires.alone.streams c.in-Failed.ensures.turn) (ap (λ (s : WireState). s.seen) c.in-Failed.ensures.state)))

pub returns-in-NoMemory-clause-talking : goal.returns-in-NoMemory-clause-talking
returns-in-NoMemory-clause-talking g c start shown v =
    last-none (g.S.Sink.recorded c.args.out.now) c.args.out.now (λ more due. IsTalk c.args.asks.now OutOfMemory start (g.W.Wire.state c.wait.new.self).seen.recorded (shown ++ more) (shown ++ due))
    (turn-starved (g.W.Wire.state c.args.wire.now).seen v c.requires.between.settled c.requires.offered c.requires.going (g.W.Wire.state c.wait.new.self).seen c.wait.new.into (ap (λ (s : WireState). s.seen) c.in-NoMemory.ensures.state))

-- ---- what came

pub returns-in_ok-receives-in-Got-clause-calls : goal.returns-in_ok-receives-in-Got-clause-calls
returns-in_ok-receives-in-Got-clause-calls g c = subst (CountsOfTalk 1 c.read.result (g.W.Wire.state c.args.wire.now).calls) (sym (ap (λ (s : WireState). s.calls) c.in-Got.ensures.state)) (counts-wait c.read.result (turn.Got c.in-Got.field-0) (g.W.Wire.state c.args.wire.now).calls refl)

pub returns-in_ok-receives-in-Got-clause-came : goal.returns-in_ok-receives-in-Got-clause-came
returns-in_ok-receives-in-Got-clause-came g c = let W = g.W.Wire in
    came-read c.read.result c.args.client.now.stage c.read.new.client.stage (W.state c.args.wire.now).calls (W.state c.wait.new.self).calls c.read.ensures.own
    (subst (λ (x : CallCounts). TalkCountWentUp (W.state c.args.wire.now).calls.server_pieces x.server_pieces) (sym (ap (λ (s : WireState). s.calls) c.in-Got.ensures.state)) (piece-came c.in-Got.field-0 (W.state c.args.wire.now).calls (is-zero c.in-Got.field-0 _ c.requires.alone.streams c.in-Got.ensures.turn.1)))

pub returns-in-End-clause-calls : goal.returns-in-End-clause-calls
returns-in-End-clause-calls g c = subst (CountsOfTalk 1 c.broken_off.result (g.W.Wire.state c.args.wire.now).calls) (sym (ap (λ (s : WireState). s.calls) c.in-End.ensures.state)) (counts-wait c.broken_off.result (turn.End c.in-End.field-0) (g.W.Wire.state c.args.wire.now).calls refl)

pub returns-in-End-clause-came : goal.returns-in-End-clause-came
returns-in-End-clause-came g c = let W = g.W.Wire in
    came-off c.args.client.now c.broken_off.result (W.state c.args.wire.now).calls (W.state c.wait.new.self).calls c.broken_off.ensures
    (subst (λ (x : CallCounts). TalkCountWentUp (W.state c.args.wire.now).calls.server_ends x.server_ends) (sym (ap (λ (s : WireState). s.calls) c.in-End.ensures.state)) (end-came c.in-End.field-0 (W.state c.args.wire.now).calls (is-zero c.in-End.field-0 _ c.requires.alone.streams c.in-End.ensures.turn.1)))

pub returns-in-Failed-clause-cause : goal.returns-in-Failed-clause-cause
returns-in-Failed-clause-cause g c = failed-server c.in-Failed.field-0 _ _ (is-zero c.in-Failed.field-0 _ c.requires.alone.streams c.in-Failed.ensures.turn) c.in-Failed.ensures.cause
