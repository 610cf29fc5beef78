use Rattle.channel_table.proofs.Apart.{sound-table}
use Rattle.channel_table.proofs.table.Table.ledger_of.Goals as goal

pub returns-in_err-get-clause-sound : goal.returns-in_err-get-clause-sound
returns-in_err-get-clause-sound c = sound-table c.self.inside.own c.self.inside.remote c.self.inside.clients c.self.inside.slots.entries _ c.self.view_is c.self.invariant

pub returns-clause-sound : goal.returns-clause-sound
returns-clause-sound c = sound-table c.self.inside.own c.self.inside.remote c.self.inside.clients c.self.inside.slots.entries _ c.self.view_is c.self.invariant
