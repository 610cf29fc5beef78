use Rattle.std.proofs.Common.{rules, arith}
use Rattle.forward_rules.specs.Step.{without_cancel_of}
use Rattle.forward_rules.proofs.Walks.{one-more}
use Rattle.forward_rules.proofs.forwards.settle_in.Goals as goal

pub loop-f-preserved : goal.loop-f-preserved
loop-f-preserved c = one-more (without_cancel_of c.args.client c.args.rank) c.args.listed.now c.loop-f.listed c.loop-f.f-index c.f-item.result c.settle.new.self (omega arith) (search rules) c.loop-f.invariant c.f-item.is (search rules)
