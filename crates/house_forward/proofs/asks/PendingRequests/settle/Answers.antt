use Rattle.house_forward.proofs.Counting.{few-settled}
use Rattle.house_forward.proofs.asks.PendingRequests.settle.Goals as goal

pub invariant_of-self : goal.invariant_of-self
invariant_of-self c =
    let now = c.args.self.now in
    record { few = rw c.settle_all.ensures (few-settled c.args.forwarding c.args.opening now.done c.args.outcome now.waiting.items now.few) }
