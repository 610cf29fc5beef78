use Rattle.std.proofs.Common.{arith}
use Rattle.ssh_fields.proofs.Fields.{AreBytes-of}
use Rattle.mux_messages.proofs.Gives.{is_spelled, is_read}
use Rattle.mux_messages.proofs.read.read_control.Goals as goal

pub returns-clause-spelled : goal.returns-clause-spelled
returns-clause-spelled c = is_spelled c.args.body.now c.control.result (AreBytes-of c.args.body.now (λ i _. omega (arith, c.type_inv.body i))) c.control.ensures

pub returns-clause-only : goal.returns-clause-only
returns-clause-only c = is_read c.args.body.now c.control.result c.control.ensures
