use Rattle.std.proofs.Common.{◌≡◌, ◌++◌, Bool, length, refl, ap, sym, ◌∙◌, arith}
use Rattle.conn_messages.specs.Keys.{own_key_of}
use Rattle.forward_rules.specs.Step.{forwards_without_client}
use Rattle.forward_rules.proofs.Taken.{taking-others}
use Rattle.ssh_grammar.specs.Messages.{Key}
use Rattle.ssh_grammar.specs.SpellMessage.{cancel_forward}
use Rattle.client_teardown.specs.Leaving.{forward_farewells}
use Rattle.client_teardown.proofs.Cancels.{IsSent, cancels-recorded, has-none, none-cancel, sent-none, sent-one, taking-step}
use Rattle.client_teardown.proofs.Sending.{frames, sends-all}
use Rattle.client_teardown.proofs.farewell.leave_forwards.Goals as goal
use Rattle.client_teardown.proofs.farewell.leave_forwards.Goals.{else-not-is_leaving, then-not-is_leaving}

pub loop-init : goal.loop-init
loop-init c = record {
  sent = ap (λ ps. c.args.up.now.waiting ++ frames ps) (sym (cancels-recorded c.args.client c.args.forwards.now));
  others = refl;
  remaining = omega (arith, c.count-end.ensures.exact);
  spare = omega arith;
}

pub loop-preserved : goal.loop-preserved
loop-preserved c =
    let k = c.args.client in
    let t : Key × Bool = (own_key_of c.in-Some.key, c.in-Some.is_leaving) in
    let fs = c.loop.forwards in
    let gs = c.take_of.new.self in
    let u = c.loop.up in
    let v = c.if-not-is_leaving.up in
    let before = c.loop.invariant in
    let done : IsSent t u v =
    elim c.if-not-is_leaving.branch [
      | then-not-is_leaving w ↦
          (let payload : w.as_bytes.result.now ≡ cancel_forward (own_key_of c.in-Some.key) = w.as_bytes.ensures.value ∙ (w.cancel.ensures.spelled ∙ ap cancel_forward w.as_key.ensures) in
          let size : length w.as_bytes.result.now ≡ length w.cancel.result = ap length w.as_bytes.ensures.value in
          sent-one (own_key_of c.in-Some.key) c.in-Some.is_leaving w.as_bytes.result.now u v w.if-not-is_leaving.true payload (omega (arith, size, w.cancel.ensures.most)) (w.up-is ∙ w.push_reserved.ensures))
      | else-not-is_leaving w ↦ sent-none (own_key_of c.in-Some.key) c.in-Some.is_leaving u v w.if-not-is_leaving.false w.up-is
    ] in
    record {
      sent = taking-step k fs gs t u v c.in-Some.ensures.exact c.take_of.ensures.step done.sends ∙ before.sent;
      others = ap (forwards_without_client k) c.take_of.ensures.step ∙ (taking-others k fs ∙ before.others);
      remaining = omega (arith, c.in-Some.ensures.fewer, before.remaining);
      spare = omega (arith, before.spare, done.spare);
    }

pub returns-after-loop-clause-sent : goal.returns-after-loop-clause-sent
returns-after-loop-clause-sent c =
    let before = c.loop.invariant in
    let none = has-none c.args.client c.loop.forwards (omega (arith, before.remaining, c.loop-test.false)) in
    sends-all (forward_farewells c.args.client c.args.forwards.now) c.args.up.now c.loop.up (ap (λ ps. c.loop.up.waiting ++ frames ps) (sym none.cancels) ∙ before.sent)

pub returns-after-loop-clause-forwardings : goal.returns-after-loop-clause-forwardings
returns-after-loop-clause-forwardings c =
    let before = c.loop.invariant in
    let none = has-none c.args.client c.loop.forwards (omega (arith, before.remaining, c.loop-test.false)) in
    sym none.others ∙ before.others

pub returns-in_default-clause-sent : goal.returns-in_default-clause-sent
returns-in_default-clause-sent c =
    let none = none-cancel c.args.client c.loop.forwards c.in_default.ensures.exact in
    sends-all (forward_farewells c.args.client c.args.forwards.now) c.args.up.now c.loop.up (ap (λ ps. c.loop.up.waiting ++ frames ps) (sym none) ∙ c.loop.invariant.sent)
