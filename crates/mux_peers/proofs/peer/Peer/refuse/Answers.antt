use Rattle.std.proofs.Common.{◌≡◌, ◌∙◌, ◌-◌, suc, sym, ap, arith}
use Rattle.ssh_grammar.specs.Frames.{frame_payload}
use Rattle.mux_peers.proofs.Refusing.{refusing-on, refusing-full, none-of}
use Rattle.mux_peers.proofs.peer.Peer.refuse.Goals as goal

pub returns-in-Some-clause-full : goal.returns-in-Some-clause-full
returns-in-Some-clause-full c =
    let more : c.loop-left.left ≡ suc (c.loop-left.left - 1) = omega (arith, c.loop-left-test.true) in
    (refusing-full c.args.refusals c.loop-left.left (c.loop-left.left - 1) c.args.self.now c.loop-left.self c.report.new.self (frame_payload c.as_bytes.result.now) c.in-Some.why
    (ap frame_payload (c.as_bytes.ensures.value ∙ c.request_failure-refusal.ensures.spelled)) more c.loop-left.invariant c.in_ok-why.ensures.queue (sym c.in_ok-why.ensures.full ∙ c.in-Some.is)).1

pub loop-left-preserved : goal.loop-left-preserved
loop-left-preserved c =
    let more : c.loop-left.left ≡ suc (c.loop-left.left - 1) = omega (arith, c.loop-left-test.true) in
    refusing-on c.args.refusals c.loop-left.left (c.loop-left.left - 1) c.args.self.now c.loop-left.self c.report.new.self (frame_payload c.as_bytes.result.now)
    (ap frame_payload (c.as_bytes.ensures.value ∙ c.request_failure-refusal.ensures.spelled)) more c.loop-left.invariant c.in_ok-why.ensures.queue (sym c.in_ok-why.ensures.full ∙ none-of c.in_ok-why.field-0 c.in_default.not-Some)
