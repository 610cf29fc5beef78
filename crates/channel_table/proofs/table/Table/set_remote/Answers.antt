use Rattle.std.proofs.Common.{◌∙◌, None, ap, cond, sym, refl, nat_eq}
use Rattle.channel_table.specs.Entries.{changed_at, entry_at, holder_of, with_remote}
use Rattle.channel_table.specs.Indices.{is_index_key}
use Rattle.channel_table.specs.Slots.{ranked}
use Rattle.channel_table.proofs.Steps.{changed-at, changed-none}
use Rattle.channel_table.proofs.Admits.{Agrees-set_remote}
use Rattle.channel_table.proofs.table.Table.set_remote.Goals as goal

pub returns-in_default-get-clause-ok : goal.returns-in_default-get-clause-ok
returns-in_default-get-clause-ok c = sym (changed-none c.args.number (with_remote c.args.remote) c.args.self.now (ap (λ es. entry_at es c.args.number) (sym c.self.view_is) ∙ sym c.in_default-get.ensures))

pub invariant_of-self-2 : goal.invariant_of-self-2
invariant_of-self-2 c =
    let a = c.self.inside in
    let x = (ranked c.args.number c.in-Some-get.opened).entry in
    let at = changed-at c.args.number (with_remote c.args.remote) _ a.slots.entries x c.self.invariant.distinct (sym c.in-Some-get.ensures) refl in
    rw (c.set.ensures, at) (Agrees-set_remote a.own a.own a.remote _ a.clients a.clients a.slots.entries c.args.number c.args.remote x c.self.invariant (sym c.in-Some-get.ensures) c.ranges.remote.fits (ap (λ es. holder_of es c.args.remote) c.self.view_is ∙ sym c.in_default.ensures) (λ i. c.remove_remote.ensures i ∙ ap (λ o. cond (is_index_key nat_eq x.channel.remote i) None o) (c.in_ok-insert_remote.ensures.ok i)))

pub returns-clause-ok : goal.returns-clause-ok
returns-clause-ok c =
    let a = c.self.inside in
    let x = (ranked c.args.number c.in-Some-get.opened).entry in
    let at = changed-at c.args.number (with_remote c.args.remote) _ a.slots.entries x c.self.invariant.distinct (sym c.in-Some-get.ensures) refl in
    c.set.ensures ∙ (at ∙ ap (changed_at c.args.number (with_remote c.args.remote)) c.self.view_is)
