use Rattle.std.proofs.Common.{[], ◌∷◌, inl, refl, ◌∙◌}
use Rattle.std.proofs.lemmas.Result.{err_from_is_err_and}
use Rattle.mux_outside.specs.HouseCalls.{Begins}
use Rattle.ssh_mux.specs.Starts.{starts_for}
use Rattle.ssh_mux.proofs.MasterLemmas.{starved-counts}
use Rattle.ssh_mux.proofs.StartLemmas.{musts-begun, shares-begun}
use Rattle.ssh_mux.proofs.master.begin_and_serve.Goals as goal

pub returns-in_err-begin-clause-ends : goal.returns-in_err-begin-clause-ends
returns-in_err-begin-clause-ends g c = let p = err_from_is_err_and c.from_residual.result c.from_residual.ensures.1 in let e = c.in_err-begin.ensures.err in rw (p.1, p.2, e) refl

pub returns-in_err-begin-clause-opened : goal.returns-in_err-begin-clause-opened
returns-in_err-begin-clause-opened g c = let p = err_from_is_err_and c.from_residual.result c.from_residual.ensures.1 in let e = c.in_err-begin.ensures.err in rw (p.1, p.2, e) (inl refl)

pub returns-in_err-begin-clause-served : goal.returns-in_err-begin-clause-served
returns-in_err-begin-clause-served g c = let p = err_from_is_err_and c.from_residual.result c.from_residual.ensures.1 in let e = c.in_err-begin.ensures.err in rw (p.1, p.2, e) (inl (record { same_wire = refl; same_house = c.in_err-begin.ensures.recorded }))

pub returns-in_err-begin-clause-start : goal.returns-in_err-begin-clause-start
returns-in_err-begin-clause-start g c = let p = err_from_is_err_and c.from_residual.result c.from_residual.ensures.1 in let e = c.in_err-begin.ensures.err in rw (p.1, p.2, e) tt

pub returns-in_err-begin-clause-must : goal.returns-in_err-begin-clause-must
returns-in_err-begin-clause-must g c = λ x. let p = err_from_is_err_and c.from_residual.result c.from_residual.ensures.1 in let e = c.in_err-begin.ensures.err in rw (p.1, p.2, e) tt

pub returns-in_err-begin-clause-wire : goal.returns-in_err-begin-clause-wire
returns-in_err-begin-clause-wire g c = let p = err_from_is_err_and c.from_residual.result c.from_residual.ensures.1 in let e = c.in_err-begin.ensures.err in rw (p.1, p.2, e) (starved-counts _ _ _ _)

pub open_and_serve-requires-clause-silent : goal.open_and_serve-requires-clause-silent
open_and_serve-requires-clause-silent g c = λ present. (Begins (starts_for c.args.grants.here c.args.found.now.settings) ∷ [], (refl, c.in_ok-begin.ensures.stands))

pub returns-clause-served : goal.returns-clause-served
returns-clause-served g c = shares-begun g.H.Asks.state _ _ _ c.in_ok-begin.ensures.stands _ _ _ _ _ _ _ _ _ _ _ (rw (c.in_ok-begin.ensures.known, c.in_ok-begin.ensures.recorded) at c.open_and_serve.ensures.served)

pub returns-clause-start : goal.returns-clause-start
returns-clause-start g c = rw c.in_ok-begin.ensures.known at c.open_and_serve.ensures.start

pub returns-clause-must : goal.returns-clause-must
returns-clause-must g c = λ x. musts-begun _ _ _ (c.open_and_serve.ensures.must ∙ c.in_ok-begin.ensures.must x)

pub returns-clause-wire : goal.returns-clause-wire
returns-clause-wire g c = rw c.in_ok-begin.ensures.known at c.open_and_serve.ensures.wire
