use Rattle.std.proofs.Common.{arith}
use Rattle.ssh_fields.proofs.Fields.{AreBytes-of}
use Rattle.conn_messages.proofs.Gives.{is_spelled, is_read}
use Rattle.conn_messages.proofs.read.read_message.Goals as goal

pub returns-clause-spelled : goal.returns-clause-spelled
returns-clause-spelled c = is_spelled c.args.payload.now c.message.result (AreBytes-of c.args.payload.now (λ i _. omega (arith, c.type_inv.payload i))) c.message.ensures

pub returns-clause-only : goal.returns-clause-only
returns-clause-only c = is_read c.args.payload.now c.message.result c.message.ensures
