use Rattle.std.proofs.Common.{ap, ◌∙◌}
use Rattle.channel_table.specs.Entries.{freed}
use Rattle.channel_table.specs.Slots.{SlotsState}
use Rattle.channel_table.proofs.SlotSteps.{held-below, held-state, free-slots, free-entries}
use Rattle.channel_table.proofs.slots.Slots.free.Goals as goal

pub index_mut-requires : goal.index_mut-requires
index_mut-requires c = held-below _ c.self.inside.slots.items c.args.number _ (ap (λ (s : SlotsState). s.entries) c.self.view_is) c.requires c.self.inside.slots.ok.0

pub invariant_of-self : goal.invariant_of-self
invariant_of-self c =
    let a = c.self.inside in
    let h = held-state _ a.slots.items c.args.number (ap (λ (s : SlotsState). s.entries) c.self.view_is) c.requires in
    free-slots a.slots.items a.front a.opened c.args.number h.opened c.self.invariant h.held

pub returns : goal.returns
returns c =
    let a = c.self.inside in
    let e = ap (λ (s : SlotsState). s.entries) c.self.view_is in
    let h = held-state _ a.slots.items c.args.number e c.requires in
    free-entries a.slots.items c.args.number a.front h.opened h.held ∙ ap (freed c.args.number) e
