use Rattle.conf_match.proofs.EvalLemmas.{exec_failed, failed_in}
use Rattle.conf_match.proofs.evaluation.exec.Goals as goal

pub returns-in_err-status-clause-failed : goal.returns-in_err-status-clause-failed
returns-in_err-status-clause-failed g c = λ status. failed_in _ _ _ _ (exec_failed status _ _ _ _ c.in_ok-command.ensures c.in_err-status.ensures.ran)
