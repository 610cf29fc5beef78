use Rattle.std.proofs.Common.{◌≡◌, ◌∙◌, sym, ap, subst}
use Rattle.proxy_frames.specs.Queued.{with_bytes}
use Rattle.proxy_frames.specs.State.{QueueState}
use Rattle.socks_dialog.specs.State.{DialogState, step_of, dialog_stepped}
use Rattle.socks_dialog.specs.declared.step.DialogStep.{DialogStep}
use Rattle.house_relay.specs.Dialing.{GivesAll}
use Rattle.house_relay.proofs.Dialings.{gives_one, gives_outcome}
use Rattle.house_relay.proofs.dialing.next.Goals as goal

pub returns-in_default : goal.returns-in_default
returns-in_default c = record {
  gives = λ some.
      subst (λ (d : DialogState). GivesAll c.args.dialog.now d c.step.result c.args.queue.now c.args.queue.now) (sym c.step.ensures.given)
      (subst (λ (s : DialogStep). GivesAll c.args.dialog.now (dialog_stepped c.args.dialog.now) s c.args.queue.now c.args.queue.now)
      (sym c.step.ensures.exact)
      (gives_outcome c.args.dialog.now c.args.queue.now some (λ reply e. c.in_default.not-Reply reply (c.step.ensures.exact ∙ e))));
  connect = c.step.ensures.connect;
}

pub returns-in_ok-push_bytes-in-Reply-clause-gives : goal.returns-in_ok-push_bytes-in-Reply-clause-gives
returns-in_ok-push_bytes-in-Reply-clause-gives c = λ some.
    let old = c.args.dialog.now in
    let mid = c.step.new.self in
    let is : mid ≡ dialog_stepped old = c.in-Reply.ensures.given in
    let new : c.step-in-Reply.new.self ≡ dialog_stepped (dialog_stepped old) = c.step-in-Reply.ensures.given ∙ ap dialog_stepped is in
    let step : c.step-in-Reply.result ≡ step_of (dialog_stepped old) = c.step-in-Reply.ensures.exact ∙ ap step_of is in
    let queue : c.push_bytes.new.self ≡ with_bytes c.in-Reply.reply c.args.queue.now =
    c.in_ok-push_bytes-in-Reply.ensures.ok ∙ ap (λ b. with_bytes b c.args.queue.now) c.as_bytes.ensures.value in
    subst (λ (q : QueueState). GivesAll old c.step-in-Reply.new.self c.step-in-Reply.result c.args.queue.now q) (sym queue)
    (subst (λ (d : DialogState). GivesAll old d c.step-in-Reply.result c.args.queue.now (with_bytes c.in-Reply.reply c.args.queue.now)) (sym new)
    (subst (λ (s : DialogStep). GivesAll old (dialog_stepped (dialog_stepped old)) s c.args.queue.now (with_bytes c.in-Reply.reply c.args.queue.now)) (sym step)
    (gives_one old c.in-Reply.reply c.args.queue.now some (sym c.in-Reply.ensures.exact))))
