use Rattle.std.proofs.Common.{rules}
use Rattle.mux_edge.proofs.Bytes.{of_none, of_accept, of_free, of_join, of_meet, of_read}
use Rattle.mux_edge.proofs.table.StreamTable.go_on.Goals as goal

pub returns-in_err-numbers-in-Accept-clause-bytes : goal.returns-in_err-numbers-in-Accept-clause-bytes
returns-in_err-numbers-in-Accept-clause-bytes g c = of_none _ _ _ _ c.from_residual.result _ c.args.self.now (search rules)

pub returns-in_err-numbers-in-Join-clause-bytes : goal.returns-in_err-numbers-in-Join-clause-bytes
returns-in_err-numbers-in-Join-clause-bytes g c = of_none _ _ _ _ c.from_residual-in_err-numbers-in-Join.result _ c.args.self.now (search rules)

pub returns-in_ok-numbers-in-Accept-clause-bytes : goal.returns-in_ok-numbers-in-Accept-clause-bytes
returns-in_ok-numbers-in-Accept-clause-bytes g c = of_accept _ _ _ _ _ _ _ _ _ c.accept.ensures.rest c.accept.ensures.turn c.accept.ensures.not_taken c.accept.ensures.outbox

pub returns-in_ok-numbers-in-Join-clause-bytes : goal.returns-in_ok-numbers-in-Join-clause-bytes
returns-in_ok-numbers-in-Join-clause-bytes g c = of_join _ _ _ _ c.in-Join.listener _ _ _ _ _ c.join_at.ensures.rest c.join_at.ensures.turn c.join_at.ensures.not_taken c.join_at.ensures.outbox

pub returns-in-Read-clause-bytes : goal.returns-in-Read-clause-bytes
returns-in-Read-clause-bytes g c = of_read _ _ _ _ c.in-Read.number _ _ _ _ c.read.ensures.recorded c.read.ensures.unwritten c.read.ensures.outbox c.read.ensures.connected c.read.ensures.rest

pub returns-in-Write-clause-bytes : goal.returns-in-Write-clause-bytes
returns-in-Write-clause-bytes g c = of_free _ _ _ _ c.in-Write.number _ _ _ _ c.free.ensures.turn c.free.ensures.sockets c.free.ensures.outbox

pub returns-in-Connect-clause-bytes : goal.returns-in-Connect-clause-bytes
returns-in-Connect-clause-bytes g c = of_meet _ _ _ _ c.in-Connect.number _ _ _ _ c.meet.ensures.turn c.meet.ensures.sockets c.meet.ensures.outbox c.meet.ensures.rest
