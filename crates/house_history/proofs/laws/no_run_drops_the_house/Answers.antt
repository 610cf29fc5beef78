use Rattle.house_history.proofs.Runs.{run-stays}
use Rattle.house_history.proofs.laws.no_run_drops_the_house.Goals as goal

pub returns : goal.returns
returns c s = run-stays c.H.Asks.may c.H.Asks.state _
