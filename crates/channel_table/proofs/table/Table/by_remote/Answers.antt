use Rattle.std.proofs.Common.{◌∙◌, ap}
use Rattle.channel_table.specs.Entries.{number_of_remote}
use Rattle.channel_table.proofs.Agree.{remote-lookup}
use Rattle.channel_table.proofs.Apart.{sound-table}
use Rattle.channel_table.proofs.table.Table.by_remote.Goals as goal

pub returns-clause-number : goal.returns-clause-number
returns-clause-number c =
    let a = c.self.inside in
    c.copied.ensures ∙ (c.get.ensures.value ∙ (remote-lookup a.remote a.slots.entries c.args.remote c.self.invariant.distinct c.self.invariant.remotes ∙ ap (λ es. number_of_remote es c.args.remote) c.self.view_is))

pub returns-clause-sound : goal.returns-clause-sound
returns-clause-sound c = sound-table c.self.inside.own c.self.inside.remote c.self.inside.clients c.self.inside.slots.entries _ c.self.view_is c.self.invariant
