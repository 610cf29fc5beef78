use Rattle.house_history.proofs.RunsRelay.{runs-relay}
use Rattle.house_history.proofs.laws.a_run_relays.Goals as goal

pub returns : goal.returns
returns c s = runs-relay _ _ _ _ _
