use Rattle.std.proofs.Common.{subst, sym}
use Rattle.socks_dialog.specs.State.{DialogState, DialogGoesOn, HasConnect, GivesConnect, IsNextStep, and_step, dialog_stepped}
use Rattle.socks_dialog.specs.declared.step.DialogStep.{DialogStep}
use Rattle.socks_dialog.proofs.Stand.{stands_next, stands_step, connect_given}
use Rattle.socks_dialog.proofs.dialog.Dialog.step.Goals as goal

pub returns-clause-next : goal.returns-clause-next
returns-clause-next c = subst (IsNextStep c.args.self.now) (sym c.next.ensures.exact) (stands_next c.args.self.now)

pub returns-clause-stands : goal.returns-clause-stands
returns-clause-stands c =
    subst (λ (d : DialogState). DialogGoesOn c.args.self.now d (and_step c.next.result)) (sym c.next.ensures.given)
    (subst (λ (s : DialogStep). DialogGoesOn c.args.self.now (dialog_stepped c.args.self.now) (and_step s)) (sym c.next.ensures.exact)
    (stands_step c.args.self.now))

pub returns-clause-connect : goal.returns-clause-connect
returns-clause-connect c = λ given.
    subst HasConnect (sym c.next.ensures.given)
    (connect_given c.args.self.now (subst GivesConnect c.next.ensures.exact given))
