use Rattle.std.proofs.Common.{sym, refl, ◌∙◌}
use Rattle.std.specs.List.{list_any, position}
use Rattle.house_forward.specs.Links.{is_offered}
use Rattle.house_forward.proofs.Changes.{ordered, passes-at, one-at, gives-one, if-some, first-is}
use Rattle.house_forward.proofs.Going.{awaits-at}
use Rattle.house_forward.proofs.Lists.{none-passes}
use Rattle.house_forward.proofs.relays.Relays.offer.Goals as goal

pub returns-in_err-i-clause-exact : goal.returns-in_err-i-clause-exact
returns-in_err-i-clause-exact c =
    rw c.from_residual.ensures (rw (none-passes is_offered c.args.self.now.all.items (sym c.in_err-i.ensures)) refl)

pub invariant_of-self : goal.invariant_of-self
invariant_of-self c =
    let is = passes-at is_offered c.args.self.now.all.items c.in_ok-i.i c.index_mut.result.now (sym c.in_ok-i.ensures) c.index_mut.ensures.value in
    let o = ordered c.args.self.now.all.items c.in_ok-i.i c.index_mut.result.now c.ordered.new.self (sym c.in_ok-i.ensures) c.index_mut.ensures.value c.args.self.now.few c.args.self.now.distinct (c.ordered.ensures.ordered is) in
    record { few = o.keeps.few; distinct = o.keeps.distinct }

pub returns-clause-exact : goal.returns-clause-exact
returns-clause-exact c =
    let is = passes-at is_offered c.args.self.now.all.items c.in_ok-i.i c.index_mut.result.now (sym c.in_ok-i.ensures) c.index_mut.ensures.value in
    gives-one c.ordered.result (list_any is_offered c.args.self.now.all.items) (c.ordered.ensures.some ∙ is) (one-at is_offered c.args.self.now.all.items c.in_ok-i.i c.index_mut.result.now (sym c.in_ok-i.ensures))

pub returns-clause-streams : goal.returns-clause-streams
returns-clause-streams c =
    let is = passes-at is_offered c.args.self.now.all.items c.in_ok-i.i c.index_mut.result.now (sym c.in_ok-i.ensures) c.index_mut.ensures.value in
    let o = ordered c.args.self.now.all.items c.in_ok-i.i c.index_mut.result.now c.ordered.new.self (sym c.in_ok-i.ensures) c.index_mut.ensures.value c.args.self.now.few c.args.self.now.distinct (c.ordered.ensures.ordered is) in
    o.keeps.streams

pub returns-clause-awaited : goal.returns-clause-awaited
returns-clause-awaited c =
    let is = passes-at is_offered c.args.self.now.all.items c.in_ok-i.i c.index_mut.result.now (sym c.in_ok-i.ensures) c.index_mut.ensures.value in
    let o = ordered c.args.self.now.all.items c.in_ok-i.i c.index_mut.result.now c.ordered.new.self (sym c.in_ok-i.ensures) c.index_mut.ensures.value c.args.self.now.few c.args.self.now.distinct (c.ordered.ensures.ordered is) in
    if-some c.ordered.result _ o.awaited

pub returns-clause-gives : goal.returns-clause-gives
returns-clause-gives c =
    let found = first-is is_offered c.args.self.now.all.items c.in_ok-i.i c.index_mut.result.now (sym c.in_ok-i.ensures) c.index_mut.ensures.value in
    rw found c.ordered.ensures.gives

pub returns-in_err-i-clause-awaits : goal.returns-in_err-i-clause-awaits
returns-in_err-i-clause-awaits c = rw (sym c.in_err-i.ensures) refl

pub returns-clause-awaits : goal.returns-clause-awaits
returns-clause-awaits c =
    let ls = c.args.self.now.all.items in
    let x = c.index_mut.result.now in
    let is = passes-at is_offered ls c.in_ok-i.i x (sym c.in_ok-i.ensures) c.index_mut.ensures.value in
    awaits-at (position is_offered ls) c.in_ok-i.i ls x c.ordered.new.self (sym c.in_ok-i.ensures) c.index_mut.ensures.value (c.ordered.ensures.ordered is)
