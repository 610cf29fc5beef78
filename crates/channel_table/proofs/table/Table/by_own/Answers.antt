use Rattle.std.proofs.Common.{◌∙◌, ap}
use Rattle.channel_table.specs.Entries.{number_of_own}
use Rattle.channel_table.proofs.Agree.{own-lookup}
use Rattle.channel_table.proofs.table.Table.by_own.Goals as goal

pub returns : goal.returns
returns c =
    let a = c.self.inside in
    c.copied.ensures ∙ (c.get.ensures.value ∙ (own-lookup a.own a.slots.entries c.args.client c.args.own c.self.invariant.distinct c.self.invariant.owns ∙ ap (λ es. number_of_own es c.args.client c.args.own) c.self.view_is))
