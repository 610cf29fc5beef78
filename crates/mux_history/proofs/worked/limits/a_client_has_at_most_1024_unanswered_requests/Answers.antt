-- The answer of the law.
use Rattle.mux_history.proofs.FullLists.{one-more-ask, one-ask-too-many}
use Rattle.mux_history.proofs.worked.limits.a_client_has_at_most_1024_unanswered_requests.Goals as goal

pub returns-clause-sent : goal.returns-clause-sent
returns-clause-sent c = one-more-ask

pub returns-clause-dropped : goal.returns-clause-dropped
returns-clause-dropped c = one-ask-too-many
