use Rattle.std.proofs.Common.{arith}
use Rattle.std.proofs.lemmas.Result.{err_from_is_err_and}
use Rattle.conn_messages.proofs.Steps.{open_reads}
use Rattle.conn_messages.proofs.read.open.Goals as goal

pub returns-in_err-what : goal.returns-in_err-what
returns-in_err-what c =
    let p = err_from_is_err_and c.from_residual-in_err-what.result c.from_residual-in_err-what.ensures.1 in
    rw (p.1, p.2) (open_reads c.args.fields.now.cursor c.in_ok-kind.ensures.ok c.in_ok-sender.ensures.ok c.in_ok-window.ensures.ok c.in_ok-maximum.ensures.ok c.rest-rest.ensures (omega (arith, c.requires, c.in_ok-kind.ensures.place, c.in_ok-sender.ensures.place, c.in_ok-window.ensures.place, c.in_ok-maximum.ensures.place)) c.in_err-what.ensures)

pub returns : goal.returns
returns c = open_reads c.args.fields.now.cursor c.in_ok-kind.ensures.ok c.in_ok-sender.ensures.ok c.in_ok-window.ensures.ok c.in_ok-maximum.ensures.ok c.rest-rest.ensures (omega (arith, c.requires, c.in_ok-kind.ensures.place, c.in_ok-sender.ensures.place, c.in_ok-window.ensures.place, c.in_ok-maximum.ensures.place)) c.in_ok-what.ensures
