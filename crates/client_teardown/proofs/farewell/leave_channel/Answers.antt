use Rattle.std.proofs.Common.{◌∙◌}
use Rattle.client_teardown.proofs.Noting.{held-left_at, none-left_at, not-admitted}
use Rattle.client_teardown.proofs.farewell.leave_channel.Goals as goal

pub returns-in_default-clause-entries : goal.returns-in_default-clause-entries
returns-in_default-clause-entries c = none-left_at c.args.table.now c.args.number (not-admitted c.args.table.now c.args.number c.in_default.ensures.channel)

pub returns-then-held-clause-entries : goal.returns-then-held-clause-entries
returns-then-held-clause-entries c =
    c.set_ledger.ensures ∙ held-left_at c.args.table.now c.args.number c.in-Some.channel c.in-Some-ledger_of.ledger c.left-left.result c.admitted.ensures.sound.apart c.in-Some.ensures.channel c.in-Some-ledger_of.ensures.ledger c.left-left.ensures.value c.if-held.ensures
