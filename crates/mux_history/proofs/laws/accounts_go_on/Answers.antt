-- The answer of the law.
use Rattle.mux_history.proofs.Accounts.{rooms-go-on}
use Rattle.mux_history.proofs.laws.accounts_go_on.Goals as goal

pub returns : goal.returns
returns c = rooms-go-on
