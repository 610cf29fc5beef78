use Rattle.std.proofs.Common.{sym, refl}
use Rattle.house_forward.specs.Links.{has_sending}
use Rattle.house_forward.proofs.Changes.{one-there}
use Rattle.house_forward.proofs.Lists.{none-passes, none-found}
use Rattle.std.specs.List.{position}
use Rattle.house_forward.specs.Going.{RelaySendsOn}
use Rattle.house_forward.proofs.Going.{leaves}
use Rattle.house_forward.proofs.relays.Relays.send.Goals as goal

pub returns-in_default-clause-exact : goal.returns-in_default-clause-exact
returns-in_default-clause-exact c =
    rw (none-passes has_sending c.args.self.now.all.items (sym c.in_default.ensures)) refl

pub returns-clause-exact : goal.returns-clause-exact
returns-clause-exact c =
    rw (c.in_ok-said.ensures.exact, one-there has_sending c.args.self.now.all.items c.in-Some.i (sym c.in-Some.ensures)) refl

pub returns-in_default-clause-says : goal.returns-in_default-clause-says
returns-in_default-clause-says c = rw (sym c.in_default.ensures) refl

pub returns-in_default-clause-spelled : goal.returns-in_default-clause-spelled
returns-in_default-clause-spelled c =
    rw (none-found has_sending c.args.self.now.all.items (none-passes has_sending c.args.self.now.all.items (sym c.in_default.ensures))) tt

pub returns-clause-says : goal.returns-clause-says
returns-clause-says c =
    leaves (position has_sending c.args.self.now.all.items) c.in-Some.i RelaySendsOn c.args.self.now.all.items _ _ (sym c.in-Some.ensures) c.in_ok-said.ensures.says c.sweep.ensures.all
