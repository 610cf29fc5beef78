use Rattle.std.proofs.Common.{arith}
use Rattle.socks_dialog.proofs.Kept.{kept_size}
use Rattle.socks_dialog.proofs.dialog.count_in_dialog.Goals as goal

pub overflow_sub-result : goal.overflow_sub-result
overflow_sub-result c = omega (arith, kept_size c.args.bytes.now, c.read.ensures.rest)
