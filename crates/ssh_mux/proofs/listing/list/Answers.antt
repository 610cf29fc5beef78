use Rattle.std.proofs.lemmas.Result.{err_from_is_err_and}
use Rattle.ssh_mux.proofs.CauseLemmas.{written-cause}
use Rattle.ssh_mux.proofs.ListLemmas.{handed-comes, handed-taken, handed-tried, list-comes, list-taken, list-writes}
use Rattle.ssh_mux.proofs.LooksLemmas.{found-looks, handed-placed, looks-on}
use Rattle.ssh_mux.proofs.PutLemmas.{handed-puts, quiet-puts}
use Rattle.ssh_mux.proofs.StillLemmas.{loud, not_false, on_false, quiet-count, quiet-out}
use Rattle.ssh_mux.proofs.listing.list.Goals as goal

pub returns-in_err-text-clause-looks : goal.returns-in_err-text-clause-looks
returns-in_err-text-clause-looks g c = let p = err_from_is_err_and c.from_residual.result c.from_residual.ensures.1 in rw (p.1, p.2) (found-looks _ _ _ _ _ _ _ _ c.in_err-text.ensures)

pub returns-in_err-text-clause-out : goal.returns-in_err-text-clause-out
returns-in_err-text-clause-out g c = let p = err_from_is_err_and c.from_residual.result c.from_residual.ensures.1 in rw (p.1, p.2) (quiet-out _ _ _ (loud _))

pub returns-in_err-text-clause-unwritten : goal.returns-in_err-text-clause-unwritten
returns-in_err-text-clause-unwritten g c = on_false _ _

pub returns-in_err-text-clause-unlisted : goal.returns-in_err-text-clause-unlisted
returns-in_err-text-clause-unlisted g c = on_false _ _

pub returns-in_err-text-clause-out_cause : goal.returns-in_err-text-clause-out_cause
returns-in_err-text-clause-out_cause g c = let p = err_from_is_err_and c.from_residual.result c.from_residual.ensures.1 in rw (p.1, p.2) (quiet-count _ _ (loud _))

pub returns-in_err-text-clause-once : goal.returns-in_err-text-clause-once
returns-in_err-text-clause-once g c = let p = err_from_is_err_and c.from_residual.result c.from_residual.ensures.1 in rw (p.1, p.2) (quiet-puts _ _ (loud _))

pub returns-clause-looks : goal.returns-clause-looks
returns-clause-looks g c = looks-on _ _ _ _ _ _ _ _ c.hand_over.result c.in_ok-text.ensures (list-comes _ _ _ c.in_ok-text.ensures.exact (handed-comes _ _ _ _ (rw c.as_bytes.ensures at c.hand_over.ensures.handed))) (handed-placed _ _ _ _ _ _ _ _ _ c.hand_over.ensures.handed) (written-cause _ _ _ _ _ (handed-tried _ _ _ _ c.hand_over.ensures.handed) c.in_ok-text.ensures.cause)

pub returns-clause-out : goal.returns-clause-out
returns-clause-out g c = list-taken _ _ _ _ _ c.in_ok-text.ensures.exact (handed-taken _ _ _ _ (rw c.as_bytes.ensures at c.hand_over.ensures.handed))

pub returns-clause-unwritten : goal.returns-clause-unwritten
returns-clause-unwritten g c = not_false _ _ (handed-tried _ _ _ _ c.hand_over.ensures.handed)

pub returns-clause-unlisted : goal.returns-clause-unlisted
returns-clause-unlisted g c = not_false _ _ (list-writes _ _ c.in_ok-text.ensures.exact)

pub returns-clause-once : goal.returns-clause-once
returns-clause-once g c = handed-puts _ _ _ _ _ _ c.hand_over.ensures.handed c.hand_over.ensures.once
