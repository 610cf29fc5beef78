use Rattle.std.proofs.Common.{◌∙◌, ap, sym, refl}
use Rattle.channel_table.specs.Entries.{changed_at, entry_at, with_ledger}
use Rattle.channel_table.specs.Slots.{ranked}
use Rattle.channel_table.proofs.Steps.{changed-at, changed-none}
use Rattle.channel_table.proofs.Admits.{Agrees-set_ledger}
use Rattle.channel_table.proofs.table.Table.set_ledger.Goals as goal

pub returns-in_default : goal.returns-in_default
returns-in_default c = sym (changed-none c.args.number (with_ledger c.args.ledger) c.args.self.now (ap (λ es. entry_at es c.args.number) (sym c.self.view_is) ∙ sym c.in_default.ensures))

pub invariant_of-self : goal.invariant_of-self
invariant_of-self c =
    let a = c.self.inside in
    let at = changed-at c.args.number (with_ledger c.args.ledger) _ a.slots.entries (ranked c.args.number c.in-Some.opened).entry c.self.invariant.distinct (sym c.in-Some.ensures) refl in
    rw (c.set.ensures, at) (Agrees-set_ledger a.own a.own a.remote a.remote a.clients a.clients a.slots.entries c.args.number c.args.ledger _ c.self.invariant (sym c.in-Some.ensures))

pub returns : goal.returns
returns c =
    let a = c.self.inside in
    let at = changed-at c.args.number (with_ledger c.args.ledger) _ a.slots.entries (ranked c.args.number c.in-Some.opened).entry c.self.invariant.distinct (sym c.in-Some.ensures) refl in
    c.set.ensures ∙ (at ∙ ap (changed_at c.args.number (with_ledger c.args.ledger)) c.self.view_is)
