use Rattle.std.proofs.Common.{◌∙◌, None, ap, cond, sym, refl}
use Rattle.channel_table.specs.Entries.{changed_at, entry_at, number_of_own, entry_with_own}
use Rattle.channel_table.specs.Indices.{is_index_key, pair_eq, paired}
use Rattle.channel_table.specs.Slots.{ranked}
use Rattle.channel_table.proofs.Steps.{changed-at, changed-none}
use Rattle.channel_table.proofs.Admits.{Agrees-set_own}
use Rattle.channel_table.proofs.Lookups.{some-none}
use Rattle.channel_table.proofs.table.Table.set_own.Goals as goal

pub returns-in_default-clause-ok : goal.returns-in_default-clause-ok
returns-in_default-clause-ok c = sym (changed-none c.args.number (entry_with_own c.args.own) c.args.self.now (ap (λ es. entry_at es c.args.number) (sym c.self.view_is) ∙ sym c.in_default.ensures))

pub invariant_of-self-2 : goal.invariant_of-self-2
invariant_of-self-2 c =
    let a = c.self.inside in
    let x = (ranked c.args.number c.in-Some.opened).entry in
    let at = changed-at c.args.number (entry_with_own c.args.own) _ a.slots.entries x c.self.invariant.distinct (sym c.in-Some.ensures) refl in
    rw (c.set.ensures, at) (Agrees-set_own a.own _ a.remote a.remote a.clients a.clients a.slots.entries c.args.number c.args.own x c.self.invariant (sym c.in-Some.ensures) c.ranges.own.fits (ap (λ es. number_of_own es x.channel.client c.args.own) c.self.view_is ∙ (sym c.by_own.ensures ∙ some-none c.by_own.result (sym c.is_some.ensures ∙ c.if-is_some.false))) (λ i j. c.remove_own.ensures i j ∙ ap (λ o. cond (is_index_key pair_eq (paired x.channel.client x.channel.own) (i, j)) None o) (c.in_ok-insert_own.ensures.ok i j)))

pub returns-clause-ok : goal.returns-clause-ok
returns-clause-ok c =
    let a = c.self.inside in
    let x = (ranked c.args.number c.in-Some.opened).entry in
    let at = changed-at c.args.number (entry_with_own c.args.own) _ a.slots.entries x c.self.invariant.distinct (sym c.in-Some.ensures) refl in
    c.set.ensures ∙ (at ∙ ap (changed_at c.args.number (entry_with_own c.args.own)) c.self.view_is)
