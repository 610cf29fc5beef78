use Rattle.std.proofs.Common.{◌∙◌, ap, sym}
use Rattle.channel_table.specs.Entries.{entry_at}
use Rattle.channel_table.specs.Slots.{ranked}
use Rattle.channel_table.proofs.Steps.{without-none}
use Rattle.channel_table.proofs.Admits.{Agrees-free}
use Rattle.channel_table.proofs.table.Table.free.Goals as goal

pub returns-in_default : goal.returns-in_default
returns-in_default c = sym (without-none c.args.number c.args.self.now (ap (λ es. entry_at es c.args.number) (sym c.self.view_is) ∙ sym c.in_default.ensures))

pub invariant_of-self : goal.invariant_of-self
invariant_of-self c =
    let a = c.self.inside in
    rw c.free.ensures (Agrees-free a.own _ a.remote _ a.clients _ a.slots.entries c.args.number (ranked c.args.number c.in-Some.opened).entry c.self.invariant (sym c.in-Some.ensures) c.remove_own.ensures c.remove_remote.ensures c.drop_number.ensures)
