use Rattle.std.proofs.Common.{inl, refl}
use Rattle.std.proofs.lemmas.Result.{err_from_is_err_and}
use Rattle.ssh_mux.proofs.PutLemmas.{handed-puts}
use Rattle.ssh_mux.proofs.drill.sum_up.Goals as goal

pub returns-in_err-text-clause-once : goal.returns-in_err-text-clause-once
returns-in_err-text-clause-once g c = let p = err_from_is_err_and c.from_residual.result c.from_residual.ensures.1 in rw (p.1, p.2) (inl refl)

pub returns-clause-once : goal.returns-clause-once
returns-clause-once g c = handed-puts _ _ _ _ _ _ c.hand_over.ensures.handed c.hand_over.ensures.once
