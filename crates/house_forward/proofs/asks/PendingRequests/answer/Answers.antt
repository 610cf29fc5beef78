use Rattle.std.proofs.Common.{◌≡◌, sym, Some}
use Rattle.house_forward.specs.Asks.{earliest}
use Rattle.house_forward.proofs.Answering.{is-there}
use Rattle.house_forward.proofs.Counting.{few-removed}
use Rattle.house_forward.proofs.asks.PendingRequests.answer.Goals as goal

pub returns-in_err-i-clause-exact : goal.returns-in_err-i-clause-exact
returns-in_err-i-clause-exact c =
    let e : earliest c.args.self.now.waiting.items ≡ Some c.in_ok-w.w = cc in
    absurd (is-there c.args.self.now.waiting.items c.in_ok-w.w e (sym c.in_err-i.ensures))

pub invariant_of-self : goal.invariant_of-self
invariant_of-self c = record { few = λ client. rw c.remove.ensures.items (few-removed c.args.self.now.waiting.items c.in_ok-i.i c.args.self.now.few client) }
