use Rattle.std.proofs.Common.{◌∙◌}
use Rattle.client_teardown.proofs.Noting.{no-entry, none-noted, noted}
use Rattle.client_teardown.proofs.later.note_close.Goals as goal

pub returns-in-Some : goal.returns-in-Some
returns-in-Some c = c.set_ledger.ensures ∙ noted c.args.table.now c.args.number c.in-Some.ledger c.left.result c.ledger_of.ensures.sound.apart c.in-Some.ensures.ledger c.left.ensures.value

pub returns-in_default : goal.returns-in_default
returns-in_default c = none-noted c.args.table.now c.args.number (no-entry c.args.table.now c.args.number c.in_default.ensures.ledger)
