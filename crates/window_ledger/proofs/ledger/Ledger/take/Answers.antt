-- The answers of a step.
use Rattle.std.proofs.Common.{rules, ◌≡◌, Ok, Err}
use Rattle.std.proofs.lemmas.Result.{err_from_is_err_and}
use Rattle.window_ledger.specs.Step.{judged, breach_in, state_after}
use Rattle.window_ledger.proofs.Takes.{goes-on, refuses, takes}
use Rattle.window_ledger.proofs.ledger.Ledger.take.Goals as goal

pub returns-in_err-self-clause-exact : goal.returns-in_err-self-clause-exact
returns-in_err-self-clause-exact c =
    let is : Err c.in_err-self.field-0.0 ≡ judged (breach_in c.args.way c.args.act c.args.self.now.state) (state_after c.args.way c.args.act c.args.self.now.state) = search rules in
    let p = err_from_is_err_and c.from_residual.result c.from_residual.ensures.1 in
    rw (p.1, p.2) (refuses c.args.way c.args.act c.args.self.now.state c.in_err-self.field-0.0 is)

pub returns-clause-exact : goal.returns-clause-exact
returns-clause-exact c =
    let is : Ok c.in_ok-self.field-0 ≡ judged (breach_in c.args.way c.args.act c.args.self.now.state) (state_after c.args.way c.args.act c.args.self.now.state) = search rules in
    takes c.args.way c.args.act c.args.self.now.state c.in_ok-self.field-0 is

pub returns-clause-ok : goal.returns-clause-ok
returns-clause-ok c =
    let is : Ok c.in_ok-self.field-0 ≡ judged (breach_in c.args.way c.args.act c.args.self.now.state) (state_after c.args.way c.args.act c.args.self.now.state) = search rules in
    goes-on c.args.way c.args.act c.args.self.now.state c.in_ok-self.field-0 is
