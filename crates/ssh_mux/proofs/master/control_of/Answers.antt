use Rattle.std.proofs.lemmas.Result.{err_from_is_err_and}
use Rattle.ssh_mux.proofs.LooksLemmas.{found-over, found-under}
use Rattle.ssh_mux.specs.Outcomes.{joins_at, opens_at}
use Rattle.ssh_mux.proofs.master.control_of.Goals as goal

pub returns-in_err-found-clause-master : goal.returns-in_err-found-clause-master
returns-in_err-found-clause-master g c = λ transport ps. let p = err_from_is_err_and c.from_residual.result c.from_residual.ensures.1 in rw (p.1, p.2) (found-over _ _ _ _ _ _ _ _ _ (c.in_err-found.ensures.master transport ps))

pub returns-in_err-found-clause-client : goal.returns-in_err-found-clause-client
returns-in_err-found-clause-client g c = λ what. let p = err_from_is_err_and c.from_residual.result c.from_residual.ensures.1 in rw (p.1, p.2) (found-over _ _ _ _ _ _ _ _ _ (c.in_err-found.ensures.client what))

pub returns-clause-master : goal.returns-clause-master
returns-clause-master g c = λ transport ps. found-under (opens_at transport ps) (λ found. found.control) _ _ _ _ _ _ _ (c.in_ok-found.ensures.master transport ps)

pub returns-clause-client : goal.returns-clause-client
returns-clause-client g c = λ what. found-under (joins_at c.args.asked.now what) (λ found. found.control) _ _ _ _ _ _ _ (c.in_ok-found.ensures.client what)
