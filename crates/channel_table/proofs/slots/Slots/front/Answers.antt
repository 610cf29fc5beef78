use Rattle.std.proofs.Common.{◌≡◌, Some, subst, arith}
use Rattle.std.proofs.lemmas.Grind.{common_steps}
use Rattle.channel_table.specs.Entries.{IsNumberFree}
use Rattle.channel_table.specs.Slots.{SlotsState}
use Rattle.channel_table.proofs.SlotSteps.{front-fresh}
use Rattle.channel_table.proofs.slots.Slots.front.Goals as goal

pub returns-clause-fresh : goal.returns-clause-fresh
returns-clause-fresh c =
    let a = c.self.inside in
    let at : a.front ≡ Some c.unwrap_or.result = grind (arith, common_steps) in
    subst (λ (s : SlotsState). IsNumberFree s.entries c.unwrap_or.result) c.self.view_is (front-fresh a.slots.items a.front a.opened c.unwrap_or.result c.self.invariant at)
