use Rattle.std.proofs.Common.{[], ◌∷◌, refl, ap, subst, ◌∙◌}
use Rattle.std.proofs.lemmas.Result.{err_from_is_err_and}
use Rattle.mux_outside.specs.HouseCalls.{Begins}
use Rattle.mux_outside.specs.declared.starts.Starts.{Starts}
use Rattle.ssh_mux.proofs.master.begin.Goals as goal

pub returns-in_err-starts-clause-err : goal.returns-in_err-starts-clause-err
returns-in_err-starts-clause-err g c = let p = err_from_is_err_and c.from_residual.result c.from_residual.ensures.1 in rw (p.1, p.2) refl

pub returns-in_err-begin-clause-err : goal.returns-in_err-begin-clause-err
returns-in_err-begin-clause-err g c = let p = err_from_is_err_and c.from_residual-in_err-begin.result c.from_residual-in_err-begin.ensures.1 in rw (p.1, p.2) refl

pub returns-clause-must : goal.returns-clause-must
returns-clause-must g c = λ x. c.in_ok-begin.ensures.must x ∙ ap (λ (s : Starts). s.must) c.in_ok-starts.ensures.exact

pub returns-clause-stands : goal.returns-clause-stands
returns-clause-stands g c = subst (λ (s : Starts). (g.H.Asks.state c.begin.new.self).stands (Begins s ∷ [])) c.in_ok-starts.ensures.exact (c.in_ok-begin.ensures.stands (c.present-fresh.ensures.fresh c.requires.fresh).stands)
