use Rattle.std.proofs.Common.{sym, refl, ◌∙◌, ap}
use Rattle.std.specs.Prelude.{is_some}
use Rattle.std.proofs.lemmas.Bool.{false≢true}
use Rattle.std.proofs.lemmas.List.Quantifiers.{position-Some}
use Rattle.house_forward.specs.Links.{has_order}
use Rattle.house_forward.proofs.Changes.{passes-at, first-is}
use Rattle.house_forward.proofs.Going.{obeys-first}
use Rattle.house_forward.proofs.Lists.{none-passes}
use Rattle.house_forward.proofs.Obeying.{obeys}
use Rattle.house_forward.proofs.relays.Relays.order.Goals as goal

pub returns-in_err-i-clause-exact : goal.returns-in_err-i-clause-exact
returns-in_err-i-clause-exact c =
    rw c.from_residual.ensures (rw (none-passes has_order c.args.self.now.all.items (sym c.in_err-i.ensures)) refl)

pub returns-in_err-order-clause-exact : goal.returns-in_err-order-clause-exact
returns-in_err-order-clause-exact c =
    let is = passes-at has_order c.args.self.now.all.items c.in_ok-i.i c.index.result.now (sym c.in_ok-i.ensures) c.index.ensures in
    absurd (false≢true (ap is_some c.in_err-order.ensures.exact ∙ is))

pub returns-clause-fits : goal.returns-clause-fits
returns-clause-fits c = λ known same.
    let first = position-Some has_order c.args.self.now.all.items c.in_ok-i.i c.index.result.now (sym c.in_ok-i.ensures) in
    let o = obeys c.in_ok-order.order c.args.self.now.all.items c.args.self.now.distinct (c.in_ok-i.i, c.index.result.now, first.0, sym c.index.ensures, c.in_ok-order.ensures.may) in
    o.fits known same

pub returns-clause-known : goal.returns-clause-known
returns-clause-known c = λ known same.
    let first = position-Some has_order c.args.self.now.all.items c.in_ok-i.i c.index.result.now (sym c.in_ok-i.ensures) in
    let o = obeys c.in_ok-order.order c.args.self.now.all.items c.args.self.now.distinct (c.in_ok-i.i, c.index.result.now, first.0, sym c.index.ensures, c.in_ok-order.ensures.may) in
    rw (c.sweep.ensures.streams, c.obey.ensures) (o.known known same)

pub returns-clause-due : goal.returns-clause-due
returns-clause-due c =
    let first = position-Some has_order c.args.self.now.all.items c.in_ok-i.i c.index.result.now (sym c.in_ok-i.ensures) in
    let o = obeys c.in_ok-order.order c.args.self.now.all.items c.args.self.now.distinct (c.in_ok-i.i, c.index.result.now, first.0, sym c.index.ensures, c.in_ok-order.ensures.may) in
    rw (c.sweep.ensures.due, c.obey.ensures, o.marks) o.due

pub returns-clause-makes_none : goal.returns-clause-makes_none
returns-clause-makes_none c =
    let first = position-Some has_order c.args.self.now.all.items c.in_ok-i.i c.index.result.now (sym c.in_ok-i.ensures) in
    let o = obeys c.in_ok-order.order c.args.self.now.all.items c.args.self.now.distinct (c.in_ok-i.i, c.index.result.now, first.0, sym c.index.ensures, c.in_ok-order.ensures.may) in
    o.marks

pub returns-clause-obeys : goal.returns-clause-obeys
returns-clause-obeys c =
    let ls = c.args.self.now.all.items in
    let found = first-is has_order ls c.in_ok-i.i c.index.result.now (sym c.in_ok-i.ensures) c.index.ensures in
    obeys-first c.in_ok-order.order ls _ _ c.index.result.now found c.in_ok-order.ensures.may c.obey.ensures c.sweep.ensures.all
