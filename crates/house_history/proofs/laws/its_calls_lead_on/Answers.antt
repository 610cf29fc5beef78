use Rattle.house_history.proofs.Runs.{leads-on}
use Rattle.house_history.proofs.laws.its_calls_lead_on.Goals as goal

pub returns : goal.returns
returns c s = leads-on _
