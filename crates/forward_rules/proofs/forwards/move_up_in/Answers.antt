use Rattle.std.proofs.Common.{rules, arith}
use Rattle.forward_rules.specs.Taking.{moved_up_of}
use Rattle.forward_rules.proofs.Walks.{one-more}
use Rattle.forward_rules.proofs.forwards.move_up_in.Goals as goal

pub loop-f-preserved : goal.loop-f-preserved
loop-f-preserved c = one-more (moved_up_of c.args.client c.args.rank) c.args.listed.now c.loop-f.listed c.loop-f.f-index c.f-item.result c.move_up.new.self (omega arith) (search rules) c.loop-f.invariant c.f-item.is (search rules)
